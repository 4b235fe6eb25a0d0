-- The final entries are entries of the graph, no more than there are; the rounds are few.
use Prim.Native.Nat.{ℕ, zero, suc, ◌+◌, ◌*◌, ◌<◌, ◌≤◌}
use mathlib.Core.Path.{◌≡◌, refl, ◌∙◌}
use mathlib.Core.Logic.{⊎_elim}
use mathlib.Core.Bool.{Bool, true, false}
use mathlib.Core.List.{List, [], ◌∷◌, ◌++◌}
use native.Mathlib.Omega.{arith}
use lib.Dec.{eqb}
use lib.ListN.{length, get_or, length-append}
use Rattle.determine_side_effects.specs.graph_crate.Check.{Graph, graph_in}
use Rattle.determine_side_effects.specs.graph_crate.Loaded.{Loaded}
use Rattle.determine_side_effects.specs.graph_access_crate.Words.{option}
use Rattle.keep_record.specs.Lines.{elem}
use Rattle.determine_side_effects.specs.Effects.{last_verdicts}
use Rattle.entry_order.specs.Order.{those, module_of_entry, user_entries, dynamic_entries}
use Rattle.entry_order.proofs.Those.{those_in, those_parts}
use Rattle.entry_order.proofs.Grouped.{grouped-length, grouped_in}
use Rattle.entry_order.proofs.Entered.{below_at, parts-length, user_below, dynamic_below}
use Rattle.entry_graph.specs.Ordering.{entry_graph}
use Rattle.entry_graph.proofs.Made.{entry_graph_made}
use Rattle.cycles.proofs.Members.{in_either, in_none}
use Rattle.cycles.proofs.Strong.{finished_roots, finished_distinct}
use Rattle.dynamic_entries.specs.Sorted.{on_cycle, goes_first, by_completion, completion, sorted_entries}
use Rattle.dynamic_entries.specs.Tries.{Progress}
use Rattle.dynamic_entries.proofs.Completing.{on_a_cycle, on_none}
use Rattle.dynamic_entries.proofs.Lengths.{sorted_length}
use Rattle.tree_shaking.specs.Rounds.{round, goes_on, rounds_fuel, rounds_from, begun, main_part, final_entries}
use Rattle.run_rows.specs.Run.{with_runtime, run_of}

module _ (g : Graph) where
  -- what is sorted are the dynamic entries
  by_in : (y : ℕ) (es ms : List ℕ) → elem y (by_completion g es ms) ≡ true → elem y es ≡ true
  unfolding by_completion
  by_in y es [] e = absurd (in_none y e)
  by_in y es (m ∷ ms) e = go (on_cycle g m) refl (λ i. by_in y es ms i)
    where
      go : (b : Bool) → on_cycle g m ≡ b → (elem y (by_completion g es ms) ≡ true → elem y es ≡ true) → elem y es ≡ true
      go true c f = f (rw (on_a_cycle g es m ms c) at e)
      go false c f =
          ⊎_elim (λ i. those_in (λ x. eqb (module_of_entry g x) m) y es i) f
          (in_either y (those (λ x. eqb (module_of_entry g x) m) es) (by_completion g es ms) (rw (on_none g es m ms c) at e))

  sorted_in : (y : ℕ) → elem y (sorted_entries g) ≡ true → elem y (dynamic_entries g) ≡ true
  unfolding sorted_entries
  sorted_in y e =
      ⊎_elim (λ i. those_in (λ x. goes_first g (module_of_entry g x)) y (dynamic_entries g) i) (λ i. by_in y (dynamic_entries g) (completion g) i)
      (in_either y (those (λ x. goes_first g (module_of_entry g x)) (dynamic_entries g)) (by_completion g (dynamic_entries g) (completion g)) e)

  module _ (live : ℕ → Bool) where
    -- the dynamic entries among the final ones, where splitting is off and where it is on
    abbrev dynamics : Bool → List ℕ
    dynamics off = elim off [ true ↦ [] | false ↦ those (λ e. live (module_of_entry g e)) (sorted_entries g) ]

    dynamics-in : (off : Bool) (y : ℕ) → elem y (dynamics off) ≡ true → elem y (sorted_entries g) ≡ true
    dynamics-in true y e = absurd (in_none y e)
    dynamics-in false y e = those_in (λ x. live (module_of_entry g x)) y (sorted_entries g) e

    dynamics-few : (off : Bool) → length (dynamics off) ≤ length (sorted_entries g)
    dynamics-few true = omega arith
    dynamics-few false = omega (arith, those_parts (λ x. live (module_of_entry g x)) (sorted_entries g))

    pub final-below : (k : ℕ) → k < length (final_entries g live) → get_or (final_entries g live) k 0 < g.header.entries
    unfolding final_entries
    final-below =
        below_at g.header.entries (final_entries g live)
        (λ y e. ⊎_elim (λ i. user_below g y i) (λ i. dynamic_below g y (sorted_in y (dynamics-in (option g 5) y i)))
        (in_either y (user_entries g) (dynamics (option g 5)) (grouped_in (module_of_entry g) y (user_entries g ++ dynamics (option g 5)) e)))

    final-length : length (final_entries g live) ≡ length (user_entries g) + length (dynamics (option g 5))
    unfolding final_entries
    final-length = grouped-length (module_of_entry g) (user_entries g ++ dynamics (option g 5)) ∙ length-append (user_entries g) (dynamics (option g 5))

module _ {numbers tables : List ℕ} (t : Loaded numbers tables) where
  -- each dynamic entry is sorted once
  sorted_count : length (sorted_entries (graph_in numbers)) ≡ length (dynamic_entries (graph_in numbers))
  unfolding completion
  sorted_count =
      let g = graph_in numbers in
      let o = entry_graph g in
      let m = entry_graph_made t in
      sorted_length g (finished_distinct o.succs g.header.modules o.nodes m.below m.ends) (finished_roots o.succs g.header.modules o.nodes m.below m.ends)

  pub final_few : (live : ℕ → Bool) → length (final_entries (graph_in numbers) live) ≤ (graph_in numbers).header.entries
  final_few live = let g = graph_in numbers in omega (arith, final-length g live, dynamics-few g live (option g 5), sorted_count, parts-length g)

-- at most as many rounds as there is fuel
rounds_most : (g : Graph) (v : List ℕ) (test : Progress → Progress → Bool) (fuel made taken : ℕ) (p : Progress) → (rounds_from g v test fuel made taken p).rounds ≤ made + fuel
unfolding rounds_from
rounds_most g v test zero made taken p = omega arith
rounds_most g v test (suc fuel) made taken p =
    go (test p (round g v taken p)) refl (rounds_most g v test fuel (made + 1) (length p.lines) (round g v taken p))
  where
    go : (b : Bool) → test p (round g v taken p) ≡ b
        → (rounds_from g v test fuel (made + 1) (length p.lines) (round g v taken p)).rounds ≤ made + 1 + fuel → (rounds_from g v test (suc fuel) made taken p).rounds ≤ made + suc fuel
    go true k l = rw (k, rounds_from) (omega (arith, l))
    go false k l = rw (k, rounds_from) (omega arith)

pub run_rounds : (g : Graph) → (run_of g).rounds ≤ 2 * g.header.modules + 1
unfolding run_of with_runtime main_part
run_rounds g = omega (arith, rounds_most g (last_verdicts g) (goes_on g) (rounds_fuel g) 0 0 (begun g (last_verdicts g)))
