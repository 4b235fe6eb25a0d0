-- Arrays of zeros of T and of P words.
use Prim.Native.Nat.{ℕ}
use lib.ListN.{length-replicate}
use Rattle.drain_sizes.proofs.Tiers.{partners_long}
use Rattle.drain_sizes.proofs.drain_with.Goals as goal

pub drain_in-requires : goal.drain_in-requires
drain_in-requires g c =
    let room = c.requires.room in
    record {
      header_read = c.requires.header_read;
      all_sections_in_bounds = rw (length-replicate {A = ℕ} g.row.T 0) (room.0, room.1);
      h_in_bounds = partners_long c.args.h g.row.P room.2;
    }
