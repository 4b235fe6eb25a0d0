-- What is dead at the end depends on which of the graph's statements are kept alone.
use Prim.Native.Nat.{ℕ, ◌+◌, ◌<◌}
use mathlib.Core.Path.{◌≡◌, refl, ap, ◌∙◌, sym}
use mathlib.Core.Bool.{Bool, true, false, not, ◌||◌, ◌&&◌}
use mathlib.Core.List.{List, []}
use native.Mathlib.Omega.{arith}
use lib.Dec.{eqb}
use lib.ListN.{length, get_or}
use Rattle.determine_side_effects.specs.graph_tables_crate.Tables.{header_in}
use Rattle.determine_side_effects.specs.graph_crate.Check.{Graph, graph_in}
use Rattle.determine_side_effects.specs.graph_crate.Loaded.{Loaded}
use Rattle.determine_side_effects.specs.graph_access_crate.Names.{related, related_module, related_statement, unreachable}
use Rattle.determine_side_effects.specs.graph_access_crate.Words.{some, tabulate, entry_of, statement_list}
use Rattle.determine_side_effects.specs.graph_access_crate.Related.{RelatedHere}
use Rattle.determine_side_effects.proofs.graph_access_crate.Indexes.{related_here}
use Rattle.determine_side_effects.specs.facts_crate.declared.Fact.{Fact}
use Rattle.determine_side_effects.specs.facts_crate.Facts.{statement_fact}
use Rattle.determine_side_effects.specs.Effects.{last_verdicts}
use Rattle.determine_side_effects.proofs.Lists.{some_same, length-tabulate, get_d_tabulate}
use Rattle.keep_record.specs.Lines.{elem}
use Rattle.entry_order.specs.Order.{module_of_entry, is_dynamic}
use Rattle.dynamic_entries.specs.Sorted.{on_cycle}
use Rattle.dynamic_entries.specs.Alive.{uses_no_export, is_pure, lets_live, is_alive, dead_of}
use Rattle.dead_records.specs.Dead.{is_dead_record, record_number, dead_now, exempts, exempted_by, exempted, dead_at_end}

-- two tests that agree on all entries
entries_same : (f h : ℕ → Bool) (n : ℕ) → ((e : ℕ) → e < n → f e ≡ h e) → some f (tabulate (λ x. x) 0 n) ≡ some h (tabulate (λ x. x) 0 n)
entries_same f h n same = some_same f h 0 (tabulate (λ x. x) 0 n) (λ k l. at k (omega (arith, l, length-tabulate (λ (x : ℕ). x) 0 n)))
  where
    at : (k : ℕ) → k < n → f (get_or (tabulate (λ x. x) 0 n) k 0) ≡ h (get_or (tabulate (λ x. x) 0 n) k 0)
    at k l = let z : 0 + k ≡ k = omega arith in let p = get_d_tabulate (λ (x : ℕ). x) 0 n k 0 l ∙ z in ap f p ∙ same k l ∙ sym (ap h p)

module _ {numbers tables : List ℕ} (t : Loaded numbers tables) (kept other : Fact → Bool) (live : ℕ → Bool)
    (same : (m i : ℕ) → m < (graph_in numbers).header.modules → i < length (statement_list (graph_in numbers) m) → kept (statement_fact m i) ≡ other (statement_fact m i)) where
  abbrev g : Graph
  g = graph_in numbers

  lets_same : (m : ℕ) (row : List ℕ) → RelatedHere g row → lets_live g (last_verdicts g) kept m row ≡ lets_live g (last_verdicts g) other m row
  unfolding lets_live
  lets_same m row h = go (eqb (unreachable row) 0)
    where
      go : (b : Bool)
          → ◌≡◌ {A = Bool} (elim b [ true ↦ kept (statement_fact (related_module row) (related_statement row)) && (not (uses_no_export g m) || not (is_pure g (last_verdicts g) row)) | false ↦ false ])
          (elim b [ true ↦ other (statement_fact (related_module row) (related_statement row)) && (not (uses_no_export g m) || not (is_pure g (last_verdicts g) row)) | false ↦ false ])
      go true = ap (λ x. x && (not (uses_no_export g m) || not (is_pure g (last_verdicts g) row))) (same (related_module row) (related_statement row) h.inside h.statement_inside)
      go false = refl

  alive_same : (e : ℕ) → e < (header_in numbers).entries → is_alive g (last_verdicts g) kept e ≡ is_alive g (last_verdicts g) other e
  unfolding is_alive
  alive_same e l =
      some_same (lets_live g (last_verdicts g) kept (module_of_entry g e)) (lets_live g (last_verdicts g) other (module_of_entry g e)) [] (related (entry_of g e))
      (λ k q. lets_same (module_of_entry g e) (get_or (related (entry_of g e)) k []) (related_here t e k l q))

  then_same : (e : ℕ) → e < (header_in numbers).entries → dead_now g kept live e ≡ dead_now g other live e
  unfolding dead_now
  then_same e l = ap (λ b. is_dynamic g e && (not (live (module_of_entry g e)) && not (on_cycle g (module_of_entry g e) || b))) (alive_same e l)

  pub dead_same : (j : ℕ) → is_dead_record g (dead_now g kept live) j ≡ is_dead_record g (dead_now g other live) j
  unfolding is_dead_record graph_in
  dead_same j =
      entries_same (λ e. dead_now g kept live e && elem j (dead_of g (last_verdicts g) (related (entry_of g e)))) (λ e. dead_now g other live e && elem j (dead_of g (last_verdicts g) (related (entry_of g e)))) (header_in numbers).entries
      (λ e l. ap (λ b. b && elem j (dead_of g (last_verdicts g) (related (entry_of g e)))) (then_same e l))

  exempts_same : (j : ℕ) (row : List ℕ) → RelatedHere g row → exempts g kept j row ≡ exempts g other j row
  unfolding exempts
  exempts_same j row h = ap (λ b. eqb (unreachable row) 0 && (b && eqb j (record_number g row))) (same (related_module row) (related_statement row) h.inside h.statement_inside)

  by_same : (j e : ℕ) → e < (header_in numbers).entries → exempted_by g kept live j e ≡ exempted_by g other live j e
  unfolding exempted_by
  by_same j e l =
      ap (λ b. is_dynamic g e && (live (module_of_entry g e) && b))
      (some_same (exempts g kept j) (exempts g other j) [] (related (entry_of g e)) (λ k q. exempts_same j (get_or (related (entry_of g e)) k []) (related_here t e k l q)))

  pub exempted_same : (j : ℕ) → exempted g kept live j ≡ exempted g other live j
  unfolding exempted graph_in
  exempted_same j = entries_same (exempted_by g kept live j) (exempted_by g other live j) (header_in numbers).entries (λ e l. by_same j e l)

  pub end_same : (j : ℕ) → dead_at_end g kept live j ≡ dead_at_end g other live j
  unfolding dead_at_end
  end_same j = ap (λ b. b && not (exempted g kept live j)) (dead_same j) ∙ ap (λ b. is_dead_record g (dead_now g other live) j && not b) (exempted_same j)
