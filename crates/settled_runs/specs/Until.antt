-- When the rounds of a run end, with options bit 7 and without it (docs/RULES.md, Step 3), said of the rounds themselves: no count of lines or live modules, and
-- no bound on the rounds, has to be believed for it.
use Rattle.std.specs.Prelude.{ℕ, suc, ◌<◌, ◌≤◌, ◌≡◌, Bool, true, length}
use Rattle.determine_side_effects.specs.graph_crate.Check.{Graph}
use Rattle.determine_side_effects.specs.facts_crate.declared.Fact.{Fact}
use Rattle.determine_side_effects.specs.facts_crate.Facts.{module_fact, bailout_fact}
use Rattle.determine_side_effects.specs.Effects.{last_verdicts}
use Rattle.worklist.specs.Drain.{fact_at}
use Rattle.dynamic_entries.specs.Tries.{Progress}
use Rattle.tree_shaking.specs.Rounds.{Ended, rounds_from, begun}
use Rattle.run_rows.specs.Run.{Run}
use Rattle.closed_choices.specs.Choice.{HasLine}

-- A round from p to q brings nothing: no new fact, no new live entry, and no bailout is left untaken. It took those of the lines that it began with, so
-- one that is left has a line behind them.
pub record Idle (p q : Progress) : Type 0 where
  pub no_fact : (f : Fact) → HasLine q.lines f → HasLine p.lines f
  pub no_live : (m : ℕ) → q.live m ≡ true → p.live m ≡ true
  pub none_untaken : (k m : ℕ) → length p.lines ≤ k → k < length q.lines → fact_at q.lines k ≡ bailout_fact m → ⊥

-- no module became kept in it
abbrev pub NoModule : Progress → Progress → Type 0
NoModule p q = (m : ℕ) → HasLine q.lines (module_fact m) → HasLine p.lines (module_fact m)

-- n rounds behind the user-defined entries, whatever they bring
abbrev pub always : Progress → Progress → Bool
always p q = true

unfoldable pub rounds_made : Graph → ℕ → Ended
rounds_made g n = rounds_from g (last_verdicts g) always n 0 0 (begun g (last_verdicts g))

-- A run made rounds up to the first that ends them, which is counted: one more than there were before it. No earlier one would have ended them.
pub record Until (g : Graph) (Ends : Progress → Progress → Type 0) (r : Run) : Type 0 where
  pub before : ℕ
  pub rounds_are : r.rounds ≡ suc before
  pub lines_are : r.main ≡ (rounds_made g (suc before)).end.lines
  pub live_are : r.live ≡ (rounds_made g (suc before)).end.live
  pub ends : Ends (rounds_made g before).end (rounds_made g (suc before)).end
  pub others_not : (n : ℕ) → n < before → Ends (rounds_made g n).end (rounds_made g (suc n)).end → ⊥
