-- The sorted entries are as many as the dynamic ones: each stands in one group.
use Prim.Native.Nat.{ℕ, ◌+◌}
use mathlib.Core.Path.{◌≡◌, refl, ap, ◌∙◌, sym}
use mathlib.Core.Bool.{Bool, true, false, not, ◌||◌, ◌&&◌}
use mathlib.Core.List.{List, [], ◌∷◌}
use native.Mathlib.Omega.{arith}
use borrow.Author.Tests.{eqb-true}
use lib.Dec.{eqb}
use lib.ListN.{length, length-append}
use Rattle.determine_side_effects.specs.graph_crate.Check.{Graph}
use Rattle.keep_record.specs.Lines.{elem}
use Rattle.keep_record.specs.Held.{Distinct}
use Rattle.entry_order.specs.Order.{those, module_of_entry, dynamic_entries}
use Rattle.entry_order.proofs.Those.{those_here, those_not, those_parts}
use Rattle.entry_graph.specs.Ordering.{entry_graph}
use Rattle.dynamic_entries.specs.Sorted.{on_cycle, goes_first, by_completion, completion, sorted_entries}
use Rattle.dynamic_entries.proofs.Completing.{on_a_cycle, on_none}

-- tests that say the same take the same
those_same : (f h : ℕ → Bool) (xs : List ℕ) → ((x : ℕ) → f x ≡ h x) → those f xs ≡ those h xs
those_same f h xs e = let q : f ≡ h = λ i x. e x i in ap (λ t. those t xs) q

and_not : (a b : Bool) → b ≡ true → (a && not b) ≡ false
and_not true b e = ap not e
and_not false b e = refl

module _ (g : Graph) where
  -- the entries whose module is among some nodes and on no cycle
  abbrev placed : List ℕ → ℕ → Bool
  placed ms e = elem (module_of_entry g e) ms && not (on_cycle g (module_of_entry g e))

  abbrev of : ℕ → ℕ → Bool
  of m e = eqb (module_of_entry g e) m

  more_cycled : (m : ℕ) (ms : List ℕ) → on_cycle g m ≡ true → (e : ℕ) → placed (m ∷ ms) e ≡ placed ms e
  unfolding elem
  more_cycled m ms c e = go (of m e) refl
    where
      go : (b : Bool) → of m e ≡ b → ((of m e || elem (module_of_entry g e) ms) && not (on_cycle g (module_of_entry g e))) ≡ (elem (module_of_entry g e) ms && not (on_cycle g (module_of_entry g e)))
      go true s = let k : on_cycle g (module_of_entry g e) ≡ true = ap (λ x. on_cycle g x) (eqb-true (module_of_entry g e) m s) ∙ c in and_not (of m e || elem (module_of_entry g e) ms) (on_cycle g (module_of_entry g e)) k ∙ sym (and_not (elem (module_of_entry g e) ms) (on_cycle g (module_of_entry g e)) k)
      go false s = rw s

  more_placed : (m : ℕ) (ms es : List ℕ) → on_cycle g m ≡ false → elem m ms ≡ false
      → length (those (of m) es) + length (those (placed ms) es) ≡ length (those (placed (m ∷ ms)) es)
  unfolding those elem
  more_placed m ms [] c n = refl
  more_placed m ms (e ∷ es) c n = go (of m e) refl (placed ms e) refl (more_placed m ms es c n)
    where
      here : of m e ≡ true → placed (m ∷ ms) e ≡ true
      here s = rw s (ap (λ x. not (on_cycle g x)) (eqb-true (module_of_entry g e) m s) ∙ ap not c)

      away : of m e ≡ true → placed ms e ≡ false
      away s = let k : elem (module_of_entry g e) ms ≡ false = ap (λ x. elem x ms) (eqb-true (module_of_entry g e) m s) ∙ n in rw k

      other : of m e ≡ false → placed (m ∷ ms) e ≡ placed ms e
      other s = rw s

      go : (b : Bool) → of m e ≡ b → (q : Bool) → placed ms e ≡ q → length (those (of m) es) + length (those (placed ms) es) ≡ length (those (placed (m ∷ ms)) es)
          → length (those (of m) (e ∷ es)) + length (those (placed ms) (e ∷ es)) ≡ length (those (placed (m ∷ ms)) (e ∷ es))
      go true s q _ r = rw (those_here (of m) e es s, those_not (placed ms) e es (away s), those_here (placed (m ∷ ms)) e es (here s)) (omega (arith, r))
      go false s true q r = rw (those_not (of m) e es s, those_here (placed ms) e es q, those_here (placed (m ∷ ms)) e es (other s ∙ q)) (omega (arith, r))
      go false s false q r = rw (those_not (of m) e es s, those_not (placed ms) e es q, those_not (placed (m ∷ ms)) e es (other s ∙ q)) (omega (arith, r))

  none_placed : (es : List ℕ) → length (those (placed []) es) ≡ 0
  unfolding those elem
  none_placed [] = refl
  none_placed (e ∷ es) = none_placed es

  by_length : (es ms : List ℕ) → Distinct ms → length (by_completion g es ms) ≡ length (those (placed ms) es)
  unfolding by_completion
  by_length es [] d = sym (none_placed es)
  by_length es (m ∷ ms) d = go (on_cycle g m) refl (by_length es ms d.1)
    where
      go : (b : Bool) → on_cycle g m ≡ b → length (by_completion g es ms) ≡ length (those (placed ms) es) → length (by_completion g es (m ∷ ms)) ≡ length (those (placed (m ∷ ms)) es)
      go true c r = ap length (on_a_cycle g es m ms c) ∙ r ∙ ap length (sym (those_same (placed (m ∷ ms)) (placed ms) es (more_cycled m ms c)))
      go false c r = ap length (on_none g es m ms c) ∙ length-append (those (of m) es) (by_completion g es ms) ∙ ap (λ (k : ℕ). length (those (of m) es) + k) r ∙ more_placed m ms es c d.0

  pub sorted_length : Distinct (completion g) → ((m : ℕ) → elem m (completion g) ≡ elem m (entry_graph g).nodes) → length (sorted_entries g) ≡ length (dynamic_entries g)
  unfolding sorted_entries goes_first
  sorted_length d n =
      let D = dynamic_entries g in
      let first : ℕ → Bool = λ e. goes_first g (module_of_entry g e) in
      length-append (those first D) (by_completion g D (completion g))
      ∙ ap (λ (k : ℕ). length (those first D) + k) (by_length D (completion g) d ∙ ap length (those_same (placed (completion g)) (λ e. not (first e)) D later))
      ∙ those_parts first D
    where
      turned : (a b : Bool) → (b && not a) ≡ not (a || not b)
      turned true true = refl
      turned true false = refl
      turned false true = refl
      turned false false = refl

      later : (e : ℕ) → placed (completion g) e ≡ not (goes_first g (module_of_entry g e))
      later e = let m = module_of_entry g e in ap (λ b. b && not (on_cycle g m)) (n m) ∙ turned (on_cycle g m) (elem m (entry_graph g).nodes)
