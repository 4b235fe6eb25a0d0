use Rattle.passes.specs.Bailouts.{export_starts}
use Rattle.entry_starts.proofs.Together.{Along}
use Rattle.determine_side_effects.specs.Effects.{last_verdicts}
use Rattle.worklist.specs.Drain.{drained_all}
use Rattle.keep_record.specs.Held.{lines_of}
use Rattle.determine_side_effects.specs.graph_access_crate.Names.{resolved_exports}
use Rattle.determine_side_effects.specs.graph_access_crate.Words.{module_of}
use Rattle.determine_side_effects.specs.graph_crate.Check.{graph_in}
use lib.ListN.{drop}
use Rattle.passes.proofs.include_cjs_exports.Given as goal

abbrev pub invariant-loop-k : goal.invariant-loop-k
invariant-loop-k l = Along (graph_in l.numbers) 0 (drained_all (graph_in l.numbers) (last_verdicts (graph_in l.numbers)) 0 (export_starts (resolved_exports (module_of (graph_in l.numbers) l.m.0))) (lines_of l.initial.total l.initial.lines)) (export_starts (drop l.k (resolved_exports (module_of (graph_in l.numbers) l.m.0)))) l.partners l.marks l.lines l.total
