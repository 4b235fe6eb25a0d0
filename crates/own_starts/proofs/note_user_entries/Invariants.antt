use Rattle.tree_shaking.proofs.Users.{users_from}
use Rattle.own_starts.proofs.Noting.{Along}
use Rattle.tree_shaking.specs.Rounds.{users_starts}
use Rattle.facts.specs.graph_crate.Check.{graph_in}
use Rattle.entry_order.specs.Order.{user_entries}
use Prim.Native.Nat.{◌≤◌}
use mathlib.Core.Path.{◌≡◌}
use lib.ListN.{length}
use Rattle.own_starts.proofs.note_user_entries.Given as goal

abbrev pub invariant-loop-i : goal.invariant-loop-i
invariant-loop-i l = (length l.seen ≡ length l.initial.seen) × (length l.out ≡ length l.initial.out) × (l.i ≤ l.users) × Along (graph_in l.numbers) (users_starts (graph_in l.numbers) (user_entries (graph_in l.numbers))) (users_from (graph_in l.numbers) l.i) l.initial.seen l.initial.out 0 l.seen l.out l.total
