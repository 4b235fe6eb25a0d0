-- Entries are grouped module by module, each at its first place.
use Prim.Native.Nat.{ℕ, zero, suc, ◌+◌, ◌<◌, ◌≤◌}
use mathlib.Core.Path.{◌≡◌, refl, ap, ◌∙◌, sym}
use mathlib.Core.Bool.{Bool, true, false, not, ◌||◌}
use mathlib.Core.List.{List, [], ◌∷◌, ◌++◌}
use native.Mathlib.Omega.{arith}
use borrow.Author.Tests.{eqb-true, eqb-false, eq-eqb, ne_eqb, not-true, not-false}
use lib.Dec.{eqb}
use lib.ListN.{length, get_or, take, drop, length-append}
use lib.Seq.{length-take-le}
use Rattle.facts.specs.graph_tables_crate.Tables.{header_in}
use Rattle.facts.specs.graph_crate.Check.{Graph, graph_in}
use Rattle.facts.specs.graph_access_crate.Names.{entry_module}
use Rattle.facts.specs.graph_access_crate.Words.{tabulate, entry_of}
use Rattle.keep_record.specs.Lines.{elem}
use Rattle.keep_record.proofs.Rows.{tabulate_more}
use Rattle.keep_record.proofs.Adding.{elem_more, left_false, right_false}
use Rattle.entry_order.specs.Order.{those, grouped_from, grouped, module_of_entry}
use Rattle.entry_order.specs.Chains.{Chained, Entries, of_module}
use Rattle.entry_order.proofs.Those.{those_here, those_not}
use Rattle.entry_order.proofs.Grouped.{group_old, group_new, group_same, grouped-length}
use Rattle.entry_order.proofs.Places.{first_next, first_none, keys, place_first}
use Rattle.entry_order.proofs.Filling.{Filling, fill_start, fill-same, fill-within, fill_more, fill_end, fill_done}

-- what is left of the grouped list from place i on
unfoldable pub left_from : Graph → List ℕ → ℕ → ℕ → List ℕ
left_from g list count i = grouped_from (module_of_entry g) (keys g list 0 i) (drop i (take count list))

module _ (g : Graph) (list : List ℕ) (count : ℕ) (long : count ≤ length list) where
  abbrev xs : List ℕ
  xs = take count list

  abbrev key : ℕ → ℕ
  key e = module_of_entry g e

  pub left_start : left_from g list count 0 ≡ grouped (module_of_entry g) (take count list)
  unfolding left_from keys tabulate grouped
  left_start = refl

  pub left_end : (i : ℕ) → count ≤ i → left_from g list count i ≡ []
  unfolding left_from grouped_from
  left_end i h = ap (λ l. grouped_from key (keys g list 0 i) l) (first_none list count long i h)

  -- places without entries of module u
  skip : (u m j : ℕ) → j + m ≤ count → elem u (keys g list j m) ≡ false → those (λ e. eqb (key e) u) (drop j xs) ≡ those (λ e. eqb (key e) u) (drop (j + m) xs)
  unfolding keys tabulate elem
  skip u zero j h e = let q : j ≡ j + 0 = omega arith in ap (λ (i : ℕ). those (λ x. eqb (key x) u) (drop i xs)) q
  skip u (suc m) j h e =
      let q : j + 1 + m ≡ j + suc m = omega arith in
      let n = eqb-false u (key (get_or list j 0)) (left_false (eqb u (key (get_or list j 0))) (elem u (keys g list (j + 1) m)) e) in
      ap (λ l. those (λ x. eqb (key x) u) l) (first_next list count long j (omega arith))
      ∙ those_not (λ x. eqb (key x) u) (get_or list j 0) (drop (j + 1) xs) (ne_eqb (key (get_or list j 0)) u (λ y. n (sym y)))
      ∙ skip u m (j + 1) (omega arith) (right_false (eqb u (key (get_or list j 0))) (elem u (keys g list (j + 1) m)) e)
      ∙ ap (λ (i : ℕ). those (λ x. eqb (key x) u) (drop i xs)) q

  -- the modules met, with one place more
  met : (i k : ℕ) → elem k (keys g list 0 (i + 1)) ≡ (eqb k (key (get_or list i 0)) || elem k (keys g list 0 i))
  unfolding keys
  met i k =
      let q : 0 + i ≡ i = omega arith in
      ap (λ l. elem k l) (tabulate_more (λ j. key (get_or list j 0)) 0 i)
      ∙ elem_more k (key (get_or list (0 + i) 0)) (tabulate (λ j. key (get_or list j 0)) 0 i)
      ∙ ap (λ (j : ℕ). eqb k (key (get_or list j 0)) || elem k (tabulate (λ j. key (get_or list j 0)) 0 i)) q

  module _ (i u : ℕ) (h : i < count) (is : u ≡ module_of_entry g (get_or list i 0)) where
    abbrev x : ℕ
    x = get_or list i 0

    pub left-old : elem u (keys g list 0 i) ≡ true → left_from g list count i ≡ left_from g list count (i + 1)
    unfolding left_from
    left-old e =
        let o : elem (key x) (keys g list 0 i) ≡ true = ap (λ (j : ℕ). elem j (keys g list 0 i)) (sym is) ∙ e in
        ap (λ l. grouped_from key (keys g list 0 i) l) (first_next list count long i h)
        ∙ group_old key (keys g list 0 i) x (drop (i + 1) xs) o
        ∙ group_same key (keys g list 0 i) (keys g list 0 (i + 1)) (drop (i + 1) xs) (λ k. same o k (eqb k (key x)) refl ∙ sym (met i k))
      where
        same : elem (key x) (keys g list 0 i) ≡ true → (k : ℕ) (b : Bool) → eqb k (key x) ≡ b → elem k (keys g list 0 i) ≡ (eqb k (key x) || elem k (keys g list 0 i))
        same o k true e = rw e (ap (λ (j : ℕ). elem j (keys g list 0 i)) (eqb-true k (key x) e) ∙ o)
        same o k false e = rw e refl

    pub left-new : elem u (keys g list 0 i) ≡ false → left_from g list count i ≡ of_module g list count u ++ left_from g list count (i + 1)
    unfolding left_from of_module elem
    left-new e =
        let o : elem (key x) (keys g list 0 i) ≡ false = ap (λ (j : ℕ). elem j (keys g list 0 i)) (sym is) ∙ e in
        let q : 0 + i ≡ i = omega arith in
        let rest = grouped_from key (key x ∷ keys g list 0 i) (drop (i + 1) xs) in
        let all : those (λ y. eqb (key y) u) xs ≡ x ∷ those (λ y. eqb (key y) u) (drop (i + 1) xs) =
        skip u i 0 (omega arith) e
        ∙ ap (λ (j : ℕ). those (λ y. eqb (key y) u) (drop j xs)) q
        ∙ ap (λ l. those (λ y. eqb (key y) u) l) (first_next list count long i h)
        ∙ those_here (λ y. eqb (key y) u) x (drop (i + 1) xs) (eq-eqb (key x) u (sym is)) in
        ap (λ l. grouped_from key (keys g list 0 i) l) (first_next list count long i h)
        ∙ group_new key (keys g list 0 i) x (drop (i + 1) xs) o
        ∙ ap (λ (k : ℕ). (x ∷ those (λ y. eqb (key y) k) (drop (i + 1) xs)) ++ rest) (sym is)
        ∙ ap (λ l. l ++ rest) (sym all)
        ∙ ap (λ l. those (λ y. eqb (key y) u) xs ++ l) (group_same key (key x ∷ keys g list 0 i) (keys g list 0 (i + 1)) (drop (i + 1) xs) (λ k. sym (met i k)))

    -- the chain tells whether this is the module's first place
    module _ (chain : List ℕ) (c : Chained g list count chain) (lu : u < g.header.modules) where
      told : eqb (get_or chain u 0) (i + 1) ≡ not (elem u (keys g list 0 i))
      told =
          let q : 0 + i ≡ i = omega arith in
          ap (λ (p : ℕ). eqb p (i + 1)) (c.firsts u lu) ∙ (rw q at (place_first g list u i 0 count h (ap (λ (j : ℕ). module_of_entry g (get_or list j 0)) q ∙ sym is)))

      pub first-place : get_or chain u 0 ≡ i + 1 → elem u (keys g list 0 i) ≡ false
      first-place e = not-true _ (sym told ∙ eq-eqb (get_or chain u 0) (i + 1) e)

      pub later-place : (get_or chain u 0 ≡ i + 1 → ⊥) → elem u (keys g list 0 i) ≡ true
      later-place e = not-false _ (sym told ∙ ne_eqb (get_or chain u 0) (i + 1) e)

-- the state of the walk over the places
pub record Going (g : Graph) (list : List ℕ) (count : ℕ) (out₀ : List ℕ) (i n : ℕ) (out : List ℕ) : Type 0 where
  pub within : i ≤ count
  pub fill : Filling 0 (grouped (module_of_entry g) (take count list)) out₀ n (left_from g list count i) out

module _ (g : Graph) (list : List ℕ) (count : ℕ) (long : count ≤ length list) (out₀ : List ℕ) where
  abbrev whole : List ℕ
  whole = grouped (module_of_entry g) (take count list)

  whole_length : length whole ≡ count
  whole_length = grouped-length (module_of_entry g) (take count list) ∙ length-take-le count list long

  pub go_start : count ≤ length out₀ → Going g list count out₀ 0 0 out₀
  go_start h =
      let l = whole_length in
      record { within = omega arith; fill = fill-same 0 whole out₀ 0 whole out₀ (fill_start 0 whole out₀ (omega (arith, l, h))) _ (sym (left_start g list count long)) }

  module _ (i n : ℕ) (out : List ℕ) (s : Going g list count out₀ i n out) where
    pub go_done : count ≤ i → out ≡ grouped (module_of_entry g) (take count list) ++ drop count out₀
    go_done h =
        let e = left_end g list count long i h in
        let l = whole_length in
        let q : n ≡ count = fill_end 0 whole out₀ n _ out s.fill e ∙ omega (arith, l) in
        fill_done 0 whole out₀ n _ out s.fill e ∙ ap (λ (k : ℕ). whole ++ drop k out₀) q

    module _ (u : ℕ) (h : i < count) (is : u ≡ module_of_entry g (get_or list i 0)) where
      pub go-old : elem u (keys g list 0 i) ≡ true → Going g list count out₀ (i + 1) n out
      go-old e = record { within = omega arith; fill = fill-same 0 whole out₀ n _ out s.fill _ (left-old g list count long i u h is e) }

      module _ (e : elem u (keys g list 0 i) ≡ false) where
        pub go_room : n + length (of_module g list count u) ≤ length out
        go_room =
            let w = fill-within 0 whole out₀ n _ out s.fill in
            let l = ap length (left-new g list count long i u h is e) ∙ length-append (of_module g list count u) (left_from g list count (i + 1)) in
            omega (arith, w, l)

        pub go-new : (r : ℕ) (next : List ℕ) → r ≡ n + length (of_module g list count u) → next ≡ take n out ++ (of_module g list count u ++ drop r out) → Going g list count out₀ (i + 1) r next
        go-new r next q w = record { within = omega arith; fill = fill_more 0 whole out₀ n _ out s.fill (of_module g list count u) _ next r (left-new g list count long i u h is e) q w }

-- a turn of the code, at place i with module u
module _ (numbers list : List ℕ) (count : ℕ) (es : Entries (graph_in numbers) list count) (chain : List ℕ) (c : Chained (graph_in numbers) list count chain) (out₀ : List ℕ)
    (i n : ℕ) (out : List ℕ) (s : Going (graph_in numbers) list count out₀ i n out) (h : i < count)
    (u : ℕ) (o : (u ≡ entry_module (entry_of (graph_in numbers) (get_or list i 0))) × (u < (header_in numbers).modules)) where
  is : u ≡ module_of_entry (graph_in numbers) (get_or list i 0)
  unfolding module_of_entry
  is = o.0

  inside : u < (graph_in numbers).header.modules
  unfolding graph_in
  inside = o.1

  new : get_or chain u 0 ≡ i + 1 → elem u (keys (graph_in numbers) list 0 i) ≡ false
  new e = first-place (graph_in numbers) list count es.long i u h is chain c inside e

  pub turn_room : get_or chain u 0 ≡ i + 1 → n + length (of_module (graph_in numbers) list count u) ≤ length out
  turn_room e = go_room (graph_in numbers) list count es.long out₀ i n out s u h is (new e)

  pub turn_first : get_or chain u 0 ≡ i + 1 → (r : ℕ) (next : List ℕ)
      → (r ≡ n + length (of_module (graph_in numbers) list count u)) × (next ≡ take n out ++ (of_module (graph_in numbers) list count u ++ drop r out)) → Going (graph_in numbers) list count out₀ (i + 1) r next
  turn_first e r next w = go-new (graph_in numbers) list count es.long out₀ i n out s u h is (new e) r next w.0 w.1

  pub turn_later : (get_or chain u 0 ≡ i + 1 → ⊥) → Going (graph_in numbers) list count out₀ (i + 1) n out
  turn_later e = go-old (graph_in numbers) list count es.long out₀ i n out s u h is (later-place (graph_in numbers) list count es.long i u h is chain c inside e)
