-- What a run with options bit 7 promises of its facts and live entries (docs/RULES.md, Settled runs): which choices are settled, and the smallest one. An entry
-- is live as its module is, so a choice is a set of facts and a set of modules. No order of entries, rounds or lines is named.
use Rattle.std.specs.Prelude.{ℕ, ◌<◌, ◌≡◌, true, not, ◌||◌, List, [], length, get_or}
use Rattle.determine_side_effects.specs.graph_crate.Check.{Graph}
use Rattle.determine_side_effects.specs.graph_access_crate.Names.{related, related_module, related_statement, unreachable}
use Rattle.determine_side_effects.specs.graph_access_crate.Words.{entry_of}
use Rattle.determine_side_effects.specs.facts_crate.declared.Fact.{Fact}
use Rattle.determine_side_effects.specs.facts_crate.Facts.{statement_fact, bailout_fact}
use Rattle.determine_side_effects.specs.Effects.{last_verdicts}
use Rattle.entry_order.specs.Order.{module_of_entry, is_dynamic, is_user_defined}
use Rattle.entry_starts.specs.Starts.{module_starts, user_starts}
use Rattle.dynamic_entries.specs.Sorted.{on_cycle}
use Rattle.dynamic_entries.specs.Alive.{is_pure, uses_no_export}
use Rattle.passes.specs.Bailouts.{bailout_starts}
use Rattle.closed_choices.specs.Choice.{Choice, Closed, HoldsStarts}

-- A related statement of an entry of module m is live against a choice (Step 4): it is reachable and chosen, and not an import that may go.
pub record LiveAgainst (g : Graph) (C : Choice) (m : ℕ) (row : List ℕ) : Type 0 where
  pub reachable : unreachable row ≡ 0
  pub chosen : C (statement_fact (related_module row) (related_statement row))
  pub stays : (not (uses_no_export g m) || not (is_pure g (last_verdicts g) row)) ≡ true

-- Facts C and modules A: C has what the user-defined entries start (Step 1), is closed under K1 to K14, and has for each of its bailouts what a round
-- starts for it (Step 3); A has the module of each dynamic entry that is on a cycle, or of which a dynamic entry has a related statement that is live
-- against C; and C has what each module of A starts as an entry (Step 4), which is nothing for an external one.
pub record Settled (g : Graph) (C : Choice) (A : ℕ → Type 0) : Type 0 where
  pub users : (e : ℕ) → e < g.header.entries → is_user_defined g e ≡ true → HoldsStarts (user_starts g (module_of_entry g e)) C
  pub closed : Closed g C
  pub bailouts : (m : ℕ) → C (bailout_fact m) → HoldsStarts (bailout_starts g (bailout_fact m)) C
  pub on_cycles : (e : ℕ) → e < g.header.entries → is_dynamic g e ≡ true → on_cycle g (module_of_entry g e) ≡ true → A (module_of_entry g e)
  pub related_live : (e k : ℕ) → e < g.header.entries → is_dynamic g e ≡ true → k < length (related (entry_of g e))
      → LiveAgainst g C (module_of_entry g e) (get_or (related (entry_of g e)) k []) → A (module_of_entry g e)
  pub live_starts : (m : ℕ) → A m → HoldsStarts (module_starts g m) C

-- the one inside every other
pub record SmallestSettled (g : Graph) (C : Choice) (A : ℕ → Type 0) : Type 1 where
  pub settled : Settled g C A
  pub facts_inside : (D : Choice) (B : ℕ → Type 0) → Settled g D B → (f : Fact) → C f → D f
  pub live_inside : (D : Choice) (B : ℕ → Type 0) → Settled g D B → (m : ℕ) → A m → B m
