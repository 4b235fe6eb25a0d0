use Prim.Native.Nat.{◌≤◌}
use mathlib.Core.Path.{◌≡◌}
use lib.ListN.{length}
use Rattle.determine_side_effects.specs.Effects.{last_verdicts}
use Rattle.determine_side_effects.specs.graph_tables_crate.Tables.{header_in}
use Rattle.determine_side_effects.specs.graph_crate.Check.{graph_in}
use Rattle.marked.specs.Marked.{marked}
use Rattle.entry_order.specs.Plan.{plan_size}
use Rattle.entry_liveness.proofs.Related.{Searching}
use Rattle.entry_liveness.proofs.Passing.{Passing}
use Rattle.entry_liveness.proofs.next_live.Given as goal

abbrev pub invariant-loop-k : goal.invariant-loop-k
invariant-loop-k l =
    record {
      searching : Searching (graph_in l.numbers) (last_verdicts (graph_in l.numbers)) (marked (graph_in l.numbers) l.marks) l.e l.k;
      none : l.first ≡ (header_in l.numbers).entries;
    }

abbrev pub invariant-entries : goal.invariant-entries
invariant-entries l =
    record {
      passing : Passing (graph_in l.numbers) l.marks l.initial.plan l.plan l.users l.from l.i;
      long : plan_size (header_in l.numbers) ≤ length l.plan;
      none : l.first ≡ (header_in l.numbers).entries;
    }
