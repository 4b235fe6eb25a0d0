use Rattle.determine_side_effects.specs.graph_access_crate.Words.{module_of}
use Rattle.determine_side_effects.specs.graph_access_crate.Names.{resolved_exports}
use Rattle.keep_rules.specs.Rules.{export_of}
use mathlib.Core.Path.{◌≡◌}
use lib.ListN.{drop}
use Rattle.determine_side_effects.specs.graph_crate.Check.{graph_in}
use Rattle.include_symbol.proofs.export_of.Given as goal

abbrev pub invariant-loop-k : goal.invariant-loop-k
invariant-loop-k l = export_of l.name (drop l.k (resolved_exports (module_of (graph_in l.numbers) l.m.0))) ≡ export_of l.name (resolved_exports (module_of (graph_in l.numbers) l.m.0))
