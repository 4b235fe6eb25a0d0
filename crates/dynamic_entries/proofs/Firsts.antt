-- The dynamic entries that go first are written into a row.
use Prim.Native.Nat.{ℕ, ◌+◌, ◌*◌, ◌<◌, ◌≤◌}
use mathlib.Core.Path.{◌≡◌, ap, ◌∙◌, sym}
use mathlib.Core.Bool.{Bool, true, false, ◌||◌}
use mathlib.Core.List.{List, [], ◌∷◌, ◌++◌}
use native.Mathlib.Omega.{arith}
use lib.Dec.{eqb}
use lib.ListN.{length, get_or, take, drop, set}
use Rattle.determine_side_effects.specs.graph_format_crate.declared.Header.{Header}
use Rattle.determine_side_effects.specs.graph_tables_crate.Tables.{header_in}
use Rattle.determine_side_effects.specs.graph_crate.Check.{Graph, graph_in}
use Rattle.determine_side_effects.specs.graph_access_crate.Names.{entry_module}
use Rattle.determine_side_effects.specs.graph_access_crate.Words.{entry_of}
use Rattle.entry_order.specs.Order.{those, module_of_entry, dynamic_entries}
use Rattle.entry_order.proofs.Those.{those_here, those_not, those_parts}
use Rattle.entry_order.proofs.Places.{first_next, first_none}
use Rattle.entry_order.proofs.Filling.{Filling, fill_start, fill-same, fill-room, fill_step, fill_end, fill_done}
use Rattle.dynamic_entries.specs.Sorted.{on_cycle, goes_first}
use Rattle.dynamic_entries.specs.Parts.{Parted, Cycled, Outside}
use Rattle.dynamic_entries.proofs.Parting.{behind_users, dynamic_count}

-- the state: those of the entries from place i on are left
pub record Firsts (g : Graph) (plan list₀ : List ℕ) (i n : ℕ) (list : List ℕ) : Type 0 where
  pub fill : Filling 0 (those (λ e. goes_first g (module_of_entry g e)) (dynamic_entries g)) list₀ n (those (λ e. goes_first g (module_of_entry g e)) (drop i (take g.header.entries plan))) list

module _ (g : Graph) (plan : List ℕ) (users : ℕ) (p : Parted g plan users) (outs : List ℕ) (t : Cycled g plan) (u : Outside g outs) (list₀ : List ℕ) where
  abbrev first : ℕ → Bool
  first e = goes_first g (module_of_entry g e)

  abbrev E : ℕ
  E = g.header.entries

  abbrev whole : List ℕ
  whole = those first (dynamic_entries g)

  pub firsts_start : g.header.entries ≤ length list₀ → Firsts g plan list₀ users 0 list₀
  firsts_start h =
      let d = dynamic_count g plan users p in
      let l = those_parts first (dynamic_entries g) in
      record { fill = fill-same 0 whole list₀ 0 whole list₀ (fill_start 0 whole list₀ (omega (arith, d, l, h))) _ (ap (λ es. those first es) (sym (behind_users g plan users p))) }

  module _ (i n : ℕ) (list : List ℕ) (s : Firsts g plan list₀ i n list) where
    pub firsts-done : g.header.entries ≤ i
        → (n ≡ length (those (λ e. goes_first g (module_of_entry g e)) (dynamic_entries g))) × (list ≡ those (λ e. goes_first g (module_of_entry g e)) (dynamic_entries g) ++ drop n list₀)
    unfolding those
    firsts-done h =
        let none : those first (drop i (take E plan)) ≡ [] = ap (λ es. those first es) (first_none plan E p.are_entries.long i h) in
        let l = fill_end 0 whole list₀ n _ list s.fill none in
        (omega (arith, l), fill_done 0 whole list₀ n _ list s.fill none)

    module _ (h : i < g.header.entries) where
      next : drop i (take E plan) ≡ get_or plan i 0 ∷ drop (i + 1) (take E plan)
      next = first_next plan E p.are_entries.long i h

      -- a turn: the entry's module m, and what the test says
      module _ (m : ℕ) (o : (m ≡ entry_module (entry_of g (get_or plan i 0))) × (m < g.header.modules)) where
        is : m ≡ module_of_entry g (get_or plan i 0)
        unfolding module_of_entry
        is = o.0

        tested : (b : Bool) → b ≡ (eqb (get_or plan (2 * E + g.header.modules + m) 0) 1 || eqb (get_or outs m 0) 0) → first (get_or plan i 0) ≡ b
        unfolding goes_first
        tested b e = sym (e ∙ ap (λ x. x || eqb (get_or outs m 0) 0) (t.cycles m o.1) ∙ ap (λ x. on_cycle g m || x) (u.outside m o.1) ∙ ap (λ k. goes_first g k) is)

        left_here : (b : Bool) → b ≡ (eqb (get_or plan (2 * E + g.header.modules + m) 0) 1 || eqb (get_or outs m 0) 0) → b ≡ true
            → those first (drop i (take E plan)) ≡ get_or plan i 0 ∷ those first (drop (i + 1) (take E plan))
        left_here b e y = ap (λ es. those first es) next ∙ those_here first (get_or plan i 0) _ (tested b e ∙ y)

        room-here : (b : Bool) → b ≡ (eqb (get_or plan (2 * g.header.entries + g.header.modules + m) 0) 1 || eqb (get_or outs m 0) 0) → b ≡ true → n < length list
        room-here b e y = fill-room 0 whole list₀ n _ list s.fill _ _ (left_here b e y)

        write-here : (b : Bool) → b ≡ (eqb (get_or plan (2 * g.header.entries + g.header.modules + m) 0) 1 || eqb (get_or outs m 0) 0) → b ≡ true
            → (x : ℕ) → x ≡ get_or plan i 0 → Firsts g plan list₀ (i + 1) (n + 1) (set list n x)
        write-here b e y x w = rw w (record { fill = fill_step 0 whole list₀ n _ list s.fill _ _ (left_here b e y) })

        pass-over : (b : Bool) → b ≡ (eqb (get_or plan (2 * g.header.entries + g.header.modules + m) 0) 1 || eqb (get_or outs m 0) 0) → b ≡ false → Firsts g plan list₀ (i + 1) n list
        pass-over b e y =
            let q : those first (drop i (take E plan)) ≡ those first (drop (i + 1) (take E plan)) = ap (λ es. those first es) next ∙ those_not first (get_or plan i 0) _ (tested b e ∙ y) in
            record { fill = fill-same 0 whole list₀ n _ list s.fill _ q }

-- the same of a graph in memory, whose header h was read
module _ (numbers plan : List ℕ) (users : ℕ) (outs list₀ : List ℕ)
    (p : Parted (graph_in numbers) plan users × Cycled (graph_in numbers) plan × Outside (graph_in numbers) outs × ((header_in numbers).entries ≤ length list₀)) (h : Header) (is : h ≡ header_in numbers) where
  pub begins : Firsts (graph_in numbers) plan list₀ users 0 list₀
  unfolding graph_in
  begins = firsts_start (graph_in numbers) plan users p.0 outs p.1 p.2 list₀ p.3

  module _ (i n : ℕ) (list : List ℕ) (s : Firsts (graph_in numbers) plan list₀ i n list) where
    pub ends : h.entries ≤ i → (n ≡ length (those (λ e. goes_first (graph_in numbers) (module_of_entry (graph_in numbers) e)) (dynamic_entries (graph_in numbers))))
        × (list ≡ those (λ e. goes_first (graph_in numbers) (module_of_entry (graph_in numbers) e)) (dynamic_entries (graph_in numbers)) ++ drop n list₀)
    unfolding graph_in
    ends l = firsts-done (graph_in numbers) plan users p.0 outs p.1 p.2 list₀ i n list s (rw is at l)

    -- a turn: the entry, and its module m
    module _ (l : i < h.entries) where
      pub turn-entry : (i < length plan) × (get_or plan i 0 < (header_in numbers).entries)
      unfolding graph_in
      turn-entry = let k : i < (header_in numbers).entries = rw is at l in let e = p.0.are_entries.long in (omega (arith, e, k), p.0.are_entries.below i k)

      module _ (m : ℕ) (o : (m ≡ entry_module (entry_of (graph_in numbers) (get_or plan i 0))) × (m < (header_in numbers).modules)) where
        pub turn-words : (2 * h.entries + h.modules + m < length plan) × (m < length outs)
        unfolding graph_in
        turn-words = let a = p.1.long in let b = p.2.long in let k = o.1 in rw is (omega (arith, a, k), omega (arith, b, k))

        module _ (b : Bool) (e : b ≡ (eqb (get_or plan (2 * h.entries + h.modules + m) 0) 1 || eqb (get_or outs m 0) 0)) where
          pub turn_room : b ≡ true → n < length list
          unfolding graph_in
          turn_room y = room-here (graph_in numbers) plan users p.0 outs p.1 p.2 list₀ i n list s (rw is at l) m o b (rw is at e) y

          pub turn-here : b ≡ true → (x : ℕ) → x ≡ get_or plan i 0 → Firsts (graph_in numbers) plan list₀ (i + 1) (n + 1) (set list n x)
          unfolding graph_in
          turn-here y x w = write-here (graph_in numbers) plan users p.0 outs p.1 p.2 list₀ i n list s (rw is at l) m o b (rw is at e) y x w

          pub turn-not : b ≡ false → Firsts (graph_in numbers) plan list₀ (i + 1) n list
          unfolding graph_in
          turn-not y = pass-over (graph_in numbers) plan users p.0 outs p.1 p.2 list₀ i n list s (rw is at l) m o b (rw is at e) y
