use Rattle.passes.proofs.Using.{helper_uses, uses_from}
use Rattle.entry_starts.proofs.Together.{Along}
use Rattle.determine_side_effects.specs.Effects.{last_verdicts}
use Rattle.worklist.specs.Drain.{drained_all}
use Rattle.keep_record.specs.Held.{lines_of}
use Rattle.determine_side_effects.specs.graph_tables_crate.Tables.{header_in}
use Rattle.determine_side_effects.specs.graph_crate.Check.{graph_in}
use Rattle.passes.proofs.include_helpers.Given as goal

abbrev pub invariant-loop-k : goal.invariant-loop-k
invariant-loop-k l = Along (graph_in l.numbers) l.base (drained_all (graph_in l.numbers) (last_verdicts (graph_in l.numbers)) l.base (helper_uses (graph_in l.numbers) l.word (header_in l.numbers).helpers) (lines_of l.initial.total l.initial.lines)) (uses_from (graph_in l.numbers) l.word (header_in l.numbers).helpers l.k) l.partners l.marks l.lines l.total
