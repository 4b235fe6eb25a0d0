use Rattle.own_starts.proofs.Noting.{Along}
use Rattle.passes.specs.Bailouts.{bailouts_starts}
use Rattle.keep_record.specs.Held.{lines_of}
use Rattle.facts.specs.graph_crate.Check.{graph_in}
use lib.ListN.{length, drop}
use Prim.Native.Nat.{◌≤◌}
use mathlib.Core.Path.{◌≡◌}
use Rattle.own_starts.proofs.note_cjs_bailout_exports.Given as goal

abbrev pub invariant-loop-k : goal.invariant-loop-k
invariant-loop-k l = (length l.seen ≡ length l.initial.seen) × (length l.out ≡ length l.initial.out) × (l.k ≤ l.count) × Along (graph_in l.numbers) (bailouts_starts (graph_in l.numbers) (lines_of l.count l.lines)) (bailouts_starts (graph_in l.numbers) (drop l.k (lines_of l.count l.lines))) l.initial.seen l.initial.out l.initial.total l.seen l.out l.total
