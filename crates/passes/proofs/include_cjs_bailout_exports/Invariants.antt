use Rattle.passes.proofs.Gathering.{Gathering}
use Rattle.passes.specs.Bailouts.{bailouts_starts}
use Rattle.determine_side_effects.specs.Effects.{last_verdicts}
use Rattle.worklist.specs.Drain.{drained_all}
use Rattle.keep_record.specs.Held.{lines_of}
use Rattle.determine_side_effects.specs.graph_crate.Check.{graph_in}
use lib.ListN.{drop}
use Rattle.passes.proofs.include_cjs_bailout_exports.Given as goal

abbrev pub invariant-loop-k : goal.invariant-loop-k
invariant-loop-k l = Gathering (graph_in l.numbers) (drained_all (graph_in l.numbers) (last_verdicts (graph_in l.numbers)) 0 (bailouts_starts (graph_in l.numbers) (drop l.taken (lines_of l.count l.initial.lines))) (lines_of l.count l.initial.lines)) (lines_of l.count l.initial.lines) l.count l.k l.partners l.marks l.lines l.total
