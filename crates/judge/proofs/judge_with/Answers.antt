-- Arrays of zeros of T words and of M bytes.
use Prim.Native.Nat.{ℕ}
use lib.ListN.{length-replicate}
use Rattle.judge.proofs.Tiers.{marks_clear}
use Rattle.judge.proofs.judge_with.Goals as goal

pub judge_in-requires : goal.judge_in-requires
judge_in-requires g c =
    let room = c.requires.room in
    record {
      header_read = c.requires.header_read;
      all_sections_in_bounds = rw (length-replicate {A = ℕ} g.row.T 0) (room.0, room.1);
      symbols_bound = marks_clear c.args.h g.row.M room.2;
    }
