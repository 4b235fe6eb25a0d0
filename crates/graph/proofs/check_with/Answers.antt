-- graph/proofs/check_with/Answers.antt
use Prim.Native.Nat.{ℕ}
use lib.ListN.{length-replicate}
use Rattle.graph.proofs.check_with.Goals as goal

pub load-requires : goal.load-requires
load-requires g c = rw (length-replicate {A = ℕ} g.row.N 0) (record { header_read = c.requires.header_read; at_verdicts_in_bounds = c.requires.room })
