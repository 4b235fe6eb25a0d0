use Rattle.entry_starts.proofs.Referring.{referred_from}
use Rattle.entry_starts.proofs.Together.{Along}
use Rattle.entry_starts.specs.Starts.{module_starts}
use Rattle.determine_side_effects.specs.Effects.{last_verdicts}
use Rattle.worklist.specs.Drain.{drained_all}
use Rattle.keep_record.specs.Held.{lines_of}
use Rattle.determine_side_effects.specs.graph_crate.Check.{graph_in}
use Rattle.entry_starts.proofs.include_entry.Given as goal

abbrev pub invariant-loop-k : goal.invariant-loop-k
invariant-loop-k l = Along (graph_in l.numbers) 0 (drained_all (graph_in l.numbers) (last_verdicts (graph_in l.numbers)) 0 (module_starts (graph_in l.numbers) l.m.0) (lines_of l.initial.total l.initial.lines)) (referred_from (graph_in l.numbers) l.m.0 l.k) l.partners l.marks l.lines l.total
