use Rattle.own_starts.proofs.Noting.{Along}
use Rattle.passes.specs.Bailouts.{export_starts}
use Rattle.facts.specs.graph_access_crate.Names.{resolved_exports}
use Rattle.facts.specs.graph_access_crate.Words.{module_of}
use Rattle.facts.specs.graph_crate.Check.{graph_in}
use lib.ListN.{length, drop}
use Prim.Native.Nat.{◌≤◌}
use mathlib.Core.Path.{◌≡◌}
use Rattle.own_starts.proofs.note_cjs_exports.Given as goal

abbrev pub invariant-loop-k : goal.invariant-loop-k
invariant-loop-k l = (length l.seen ≡ length l.initial.seen) × (length l.out ≡ length l.initial.out) × (l.k ≤ l.exports) × Along (graph_in l.numbers) (export_starts (resolved_exports (module_of (graph_in l.numbers) l.m.0))) (export_starts (drop l.k (resolved_exports (module_of (graph_in l.numbers) l.m.0)))) l.initial.seen l.initial.out l.initial.total l.seen l.out l.total
