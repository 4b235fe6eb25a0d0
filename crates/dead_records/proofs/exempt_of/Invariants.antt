use Rattle.determine_side_effects.specs.graph_crate.Check.{graph_in}
use Rattle.determine_side_effects.specs.graph_access_crate.Names.{related}
use Rattle.determine_side_effects.specs.graph_access_crate.Words.{entry_of}
use Rattle.dead_records.specs.Parts.{kept_before}
use Rattle.dead_records.proofs.Exempting.{Exempting}
use Rattle.dead_records.proofs.exempt_of.Given as goal

abbrev pub invariant-loop-k : goal.invariant-loop-k
invariant-loop-k l =
    Exempting (graph_in l.numbers) (kept_before (graph_in l.numbers) l.marks l.scratch) (related (entry_of (graph_in l.numbers) l.e.0)) l.initial.bits l.bits l.k
