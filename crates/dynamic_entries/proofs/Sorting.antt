-- The plan with its dynamic entries sorted.
use Prim.Native.Nat.{ℕ, ◌+◌, ◌-◌, ◌<◌, ◌≤◌}
use mathlib.Core.Path.{◌≡◌, refl, ap, ◌∙◌, sym, subst}
use mathlib.Core.Logic.{⊎_elim}
use mathlib.Core.Bool.{Bool, true, false}
use mathlib.Core.List.{List, [], ◌∷◌, ◌++◌, append_assoc}
use native.Mathlib.Omega.{arith}
use borrow.Author.Tests.{ltb-true, ltb-false}
use lib.Dec.{eqb, ltb}
use lib.ListN.{length, get_or, take, drop, length-append, length-drop, get_or-append}
use lib.Seq.{take_at, take-take, length-take-le, get_or-take, get_or-drop, drop_at}
use Rattle.determine_side_effects.specs.graph_format_crate.declared.Header.{Header}
use Rattle.determine_side_effects.specs.graph_tables_crate.Tables.{header_in}
use Rattle.determine_side_effects.specs.graph_crate.Check.{Graph, graph_in}
use Rattle.keep_record.specs.Lines.{elem}
use Rattle.entry_order.specs.Order.{those, module_of_entry, user_entries, dynamic_entries}
use Rattle.entry_order.specs.Plan.{cycled_at, Untouched}
use Rattle.entry_order.proofs.Those.{those_in}
use Rattle.entry_order.proofs.Entered.{below_at, parts-length, user_below, dynamic_below}
use Rattle.cycles.proofs.Members.{in_none, in_either}
use Rattle.dynamic_entries.specs.Sorted.{on_cycle, goes_first, by_completion, completion, sorted_entries}
use Rattle.dynamic_entries.specs.Tries.{Planned}
use Rattle.dynamic_entries.specs.Parts.{Parted, Cycled}
use Rattle.dynamic_entries.proofs.Completing.{on_a_cycle, on_none}

-- ---- a row of which the part from a up to b was written anew

module _ (xs₀ xs part : List ℕ) (a b : ℕ) (order : a ≤ b) (fits : b ≤ length xs₀) (l : length part ≡ b - a) (w : xs ≡ take a xs₀ ++ (part ++ drop b xs₀)) where
  front : length (take a xs₀) ≡ a
  front = length-take-le a xs₀ (omega arith)

  both : length (take a xs₀ ++ part) ≡ b
  both = let f = front in length-append (take a xs₀) part ∙ omega (arith, f, l)

  shape : xs ≡ (take a xs₀ ++ part) ++ drop b xs₀
  shape = w ∙ sym (append_assoc (take a xs₀) part (drop b xs₀))

  pub part_first : take b xs ≡ take a xs₀ ++ part
  part_first = ap (λ q. take b q) shape ∙ take_at (take a xs₀ ++ part) (drop b xs₀) b both

  pub part_long : length xs ≡ length xs₀
  part_long = let m = both in let d = length-drop b xs₀ in ap length shape ∙ length-append (take a xs₀ ++ part) (drop b xs₀) ∙ omega (arith, m, d)

  behind : drop b xs ≡ drop b xs₀
  behind = ap (λ q. drop b q) shape ∙ drop_at (take a xs₀ ++ part) (drop b xs₀) b both

  pub part_untouched : Untouched a b xs₀ xs
  part_untouched = record { same_length = part_long; same = λ i out. go i out (ltb i a) refl (ltb i b) refl }
    where
      go : (i : ℕ) → (a ≤ i → i < b → ⊥) → (s : Bool) → ltb i a ≡ s → (t : Bool) → ltb i b ≡ t → get_or xs i 0 ≡ get_or xs₀ i 0
      go i out true s t _ =
          let h = ltb-true i a s in
          let f = front in
          let q : i < length (take a xs₀) = omega (arith, h, f) in
          ap (λ r. get_or r i 0) w ∙ get_or-append (take a xs₀) (part ++ drop b xs₀) 0 i q ∙ get_or-take a xs₀ i 0 h
      go i out false s true t = absurd (out (ltb-false i a s) (ltb-true i b t))
      go i out false s false t =
          let h = ltb-false i b t in
          let q : b + (i - b) ≡ i = omega (arith, h) in
          ap (λ (j : ℕ). get_or xs j 0) (sym q)
          ∙ sym (get_or-drop b xs (i - b) 0)
          ∙ ap (λ r. get_or r (i - b) 0) behind
          ∙ get_or-drop b xs₀ (i - b) 0
          ∙ ap (λ (j : ℕ). get_or xs₀ j 0) q

-- ---- members of the sorted list are entries

module _ (g : Graph) where
  by_completion_in : (y : ℕ) (es ms : List ℕ) → elem y (by_completion g es ms) ≡ true → elem y es ≡ true
  unfolding by_completion
  by_completion_in y es [] e = absurd (in_none y e)
  by_completion_in y es (m ∷ ms) e = go (on_cycle g m) refl (by_completion_in y es ms)
    where
      go : (b : Bool) → on_cycle g m ≡ b → (elem y (by_completion g es ms) ≡ true → elem y es ≡ true) → elem y es ≡ true
      go true c r = r (rw (on_a_cycle g es m ms c) at e)
      go false c r =
          ⊎_elim (λ i. those_in (λ x. eqb (module_of_entry g x) m) y es i) r
          (in_either y (those (λ x. eqb (module_of_entry g x) m) es) (by_completion g es ms) (rw (on_none g es m ms c) at e))

  sorted_below : (y : ℕ) → elem y (user_entries g ++ sorted_entries g) ≡ true → y < g.header.entries
  unfolding sorted_entries
  sorted_below y e =
      let first = those (λ x. goes_first g (module_of_entry g x)) (dynamic_entries g) in
      let rest = by_completion g (dynamic_entries g) (completion g) in
      ⊎_elim (λ i. user_below g y i)
      (λ i. dynamic_below g y (⊎_elim (λ j. those_in (λ x. goes_first g (module_of_entry g x)) y (dynamic_entries g) j) (λ j. by_completion_in y (dynamic_entries g) (completion g) j) (in_either y first rest i)))
      (in_either y (user_entries g) (sorted_entries g) e)

-- ---- the plan

module _ (g : Graph) (plan₀ : List ℕ) (users : ℕ) (p : Parted g plan₀ users) (t : Cycled g plan₀) (same : length (sorted_entries g) ≡ length (dynamic_entries g)) where
  abbrev E : ℕ
  E = g.header.entries

  users_first : take users plan₀ ≡ user_entries g
  users_first = sym (take-take users E plan₀ p.inside) ∙ ap (λ l. take users l) p.order ∙ take_at (user_entries g) (dynamic_entries g) users (sym p.users_are)

  sorted_length : length (sorted_entries g) ≡ E - users
  sorted_length = let l = parts-length g in let u = p.users_are in omega (arith, l, u, same)

  module _ (plan : List ℕ) (w : plan ≡ take users plan₀ ++ (sorted_entries g ++ drop g.header.entries plan₀)) where
    pub sorted-untouched : Untouched users g.header.entries plan₀ plan
    sorted-untouched = part_untouched plan₀ plan (sorted_entries g) users E p.inside p.are_entries.long sorted_length w

    ordered : take E plan ≡ user_entries g ++ sorted_entries g
    ordered = part_first plan₀ plan (sorted_entries g) users E p.inside p.are_entries.long sorted_length w ∙ ap (λ l. l ++ sorted_entries g) users_first

    pub sorted-planned : Planned g plan users
    sorted-planned =
        let l = parts-length g in
        let f = sorted-untouched.same_length in
        let long = t.long in
        let few = t.few in
        let e = p.are_entries.long in
        let m = length-append (user_entries g) (sorted_entries g) in
        record {
          long = omega (arith, long, f);
          few = omega (arith, few, f);
          users_are = p.users_are;
          all = omega (arith, l, same);
          order = ordered;
          are_entries = record {
            long = omega (arith, e, f);
            below = λ i h. subst (λ (x : ℕ). x < E) (ap (λ r. get_or r i 0) (sym ordered) ∙ get_or-take E plan i 0 h) (below_at E (user_entries g ++ sorted_entries g) (sorted_below g) i (omega (arith, h, l, m, same)));
          };
          cycles = λ m h. ap (λ (x : ℕ). eqb x 1) (sorted-untouched.same (cycled_at g.header + m) (λ a b. omega (arith, a, b))) ∙ t.cycles m h;
        }

-- ---- the plan of a graph in memory, whose header h was read

module _ (numbers : List ℕ) (h : Header) (is : h ≡ header_in numbers) (plan₀ : List ℕ) (users : ℕ) (p : Parted (graph_in numbers) plan₀ users) (t : Cycled (graph_in numbers) plan₀)
    (same : length (sorted_entries (graph_in numbers)) ≡ length (dynamic_entries (graph_in numbers))) where
  abbrev g : Graph
  g = graph_in numbers

  abbrev first : List ℕ
  first = those (λ x. goes_first g (module_of_entry g x)) (dynamic_entries g)

  abbrev rest : List ℕ
  rest = by_completion g (dynamic_entries g) (completion g)

  both_length : length (those (λ x. goes_first (graph_in numbers) (module_of_entry (graph_in numbers) x)) (dynamic_entries (graph_in numbers))) + length (by_completion (graph_in numbers) (dynamic_entries (graph_in numbers)) (completion (graph_in numbers))) ≡ h.entries - users
  unfolding graph_in sorted_entries
  both_length = let s = length-append first rest in let l = sorted_length g plan₀ users p t same in rw is (omega (arith, s, l))

  -- the part to be sorted fits into the list and into the plan
  pub part_fits : (list : List ℕ) → (header_in numbers).entries ≤ length list → (h.entries - users ≤ length list) × (users + (h.entries - users) ≤ length plan₀)
  unfolding graph_in
  part_fits list l = let i = p.inside in let e = p.are_entries.long in rw is (omega (arith, l, i), omega (arith, i, e))

  module _ (list₀ list₁ : List ℕ) (n : ℕ) (w₁ : (n ≡ length (those (λ x. goes_first (graph_in numbers) (module_of_entry (graph_in numbers) x)) (dynamic_entries (graph_in numbers))))
      × (list₁ ≡ those (λ x. goes_first (graph_in numbers) (module_of_entry (graph_in numbers) x)) (dynamic_entries (graph_in numbers)) ++ drop n list₀)) where
    pub rest-room : (header_in numbers).entries ≤ length list₀ → length list₁ ≡ length list₀ → n + length (by_completion (graph_in numbers) (dynamic_entries (graph_in numbers)) (completion (graph_in numbers))) ≤ length list₁
    rest-room l k = let b = both_length in let q = w₁.0 in let e : h.entries ≤ length list₀ = rw is l in omega (arith, b, q, e, k)

    module _ (list₂ : List ℕ) (r : ℕ) (w₂ : (r ≡ n + length (by_completion (graph_in numbers) (dynamic_entries (graph_in numbers)) (completion (graph_in numbers))))
        × (list₂ ≡ take n list₁ ++ (by_completion (graph_in numbers) (dynamic_entries (graph_in numbers)) (completion (graph_in numbers)) ++ drop r list₁))) where
      listed : take (h.entries - users) list₂ ≡ sorted_entries g
      unfolding sorted_entries
      listed =
          let b = both_length in
          ap (λ l. take (h.entries - users) l)
          (w₂.1
          ∙ ap (λ l. l ++ (rest ++ drop r list₁)) (ap (λ l. take n l) w₁.1 ∙ take_at first (drop n list₀) n (sym w₁.0))
          ∙ sym (append_assoc first rest (drop r list₁)))
          ∙ take_at (first ++ rest) (drop r list₁) (h.entries - users) (length-append first rest ∙ b)

      module _ (plan : List ℕ) (w₃ : plan ≡ take users plan₀ ++ (take (h.entries - users) list₂ ++ drop (users + (h.entries - users)) plan₀)) where
        written : plan ≡ take users plan₀ ++ (sorted_entries (graph_in numbers) ++ drop (graph_in numbers).header.entries plan₀)
        unfolding graph_in
        written =
            let i = p.inside in
            let q : users + (h.entries - users) ≡ (header_in numbers).entries = rw is (omega (arith, i)) in
            w₃ ∙ ap (λ l. take users plan₀ ++ (l ++ drop (users + (h.entries - users)) plan₀)) listed ∙ ap (λ (k : ℕ). take users plan₀ ++ (sorted_entries g ++ drop k plan₀)) q

        pub sorted_all : Planned (graph_in numbers) plan users × Untouched users (header_in numbers).entries plan₀ plan
        unfolding graph_in
        sorted_all = (sorted-planned g plan₀ users p t same plan written, sorted-untouched g plan₀ users p t same plan written)
