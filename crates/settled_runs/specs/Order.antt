-- Graphs that differ only in the order of their entries (docs/RULES.md, Settled runs).
use Rattle.std.specs.Prelude.{ℕ, ◌<◌, ◌≡◌, ◌↔◌, true, List}
use Rattle.determine_side_effects.specs.rows_crate.Walk.{Item}
use Rattle.determine_side_effects.specs.graph_crate.Check.{Graph}
use Rattle.determine_side_effects.specs.graph_access_crate.Words.{entry_of}
use Rattle.determine_side_effects.specs.facts_crate.declared.Fact.{Fact}
use Rattle.entry_order.specs.Order.{module_of_entry, is_dynamic}
use Rattle.dynamic_entries.specs.Sorted.{on_cycle}
use Rattle.run_rows.specs.Run.{Run}
use Rattle.closed_choices.specs.Choice.{HasLine}

-- a graph with other entries
abbrev pub with_entries : Graph → List Item → Graph
with_entries g es = record { header = g.header; helpers = g.helpers; modules = g.modules; symbols = g.symbols; statements = g.statements; entries = es }

-- All but the entries is the same, their number too; entry e of g is entry `there e` of h, and entry d of h is entry `here d` of g.
pub record SameButOrder (g h : Graph) : Type 0 where
  pub rest_is : h ≡ with_entries g h.entries
  pub there : ℕ → ℕ
  pub here : ℕ → ℕ
  pub there_inside : (e : ℕ) → e < g.header.entries → there e < g.header.entries
  pub here_inside : (d : ℕ) → d < g.header.entries → here d < g.header.entries
  pub here_there : (e : ℕ) → e < g.header.entries → here (there e) ≡ e
  pub there_here : (d : ℕ) → d < g.header.entries → there (here d) ≡ d
  pub entries_are : (e : ℕ) → e < g.header.entries → entry_of h (there e) ≡ entry_of g e

-- The same modules are on cycles, of those that dynamic entries have. The walk of Step 2 skips what it has visited, so another order may put others there.
abbrev pub SameCycles : Graph → Graph → Type 0
SameCycles g h = (e : ℕ) → e < g.header.entries → is_dynamic g e ≡ true → on_cycle g (module_of_entry g e) ≡ on_cycle h (module_of_entry g e)

-- two runs with the same facts up to the runtime helpers and the same live modules; the lines and their order may differ
pub record SameChoice (r s : Run) : Type 0 where
  pub same_facts : (f : Fact) → HasLine r.main f ↔ HasLine s.main f
  pub same_live : (m : ℕ) → r.live m ≡ s.live m
