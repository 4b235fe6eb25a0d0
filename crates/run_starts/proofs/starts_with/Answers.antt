use Prim.Native.Nat.{ℕ}
use native.Mathlib.Omega.{arith}
use lib.ListN.{length-replicate}
use Rattle.run_parts.proofs.Tiers.{plan_long}
use Rattle.run_starts.proofs.Tiers.{partners_long, seen_clear}
use Rattle.run_starts.proofs.starts_with.Goals as goal

pub whole_as_slice-starts_in-2 : goal.whole_as_slice-starts_in-2
whole_as_slice-starts_in-2 g c = let b = c.requires.room.3 in omega (arith, b)

pub whole_as_slice-starts_in-4 : goal.whole_as_slice-starts_in-4
whole_as_slice-starts_in-4 g c = let b = c.requires.room.7 in omega (arith, b)

pub starts_in-requires : goal.starts_in-requires
starts_in-requires g c =
    let r = c.requires.room in
    record {
      header_read = c.requires.header_read;
      all_sections_in_bounds = rw (length-replicate {A = ℕ} g.row.T 0) (r.0, r.1);
      h_in_bounds = partners_long c.args.h g.row.P r.2;
      h_in_bounds_2 = plan_long c.args.h g.row.L r.4 r.5;
      symbols_bound = seen_clear c.args.h g.row.M r.6;
    }
