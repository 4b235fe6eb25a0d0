-- determine_side_effects/proofs/effects_with/Answers.antt
use Prim.Native.Nat.{ℕ}
use lib.ListN.{length-replicate}
use Rattle.determine_side_effects.proofs.effects_with.Goals as goal

pub effects_in-requires : goal.effects_in-requires
effects_in-requires g c = rw (length-replicate {A = ℕ} g.row.N 0) (record { header_read = c.requires.header_read; at_on_demand_in_bounds = c.requires.room })
