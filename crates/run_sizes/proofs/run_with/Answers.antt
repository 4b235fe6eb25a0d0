use Prim.Native.Nat.{ℕ}
use native.Mathlib.Omega.{arith}
use lib.ListN.{length-replicate}
use Rattle.run_parts.proofs.Tiers.{partners_long, plan_long}
use Rattle.run_sizes.proofs.run_with.Goals as goal

pub whole_as_slice-run_in-2 : goal.whole_as_slice-run_in-2
whole_as_slice-run_in-2 g c = let b = c.requires.room.3 in omega (arith, b)

pub run_in-requires : goal.run_in-requires
run_in-requires g c =
    let r = c.requires.room in
    record {
      header_read = c.requires.header_read;
      all_sections_in_bounds = rw (length-replicate {A = ℕ} g.row.T 0) (r.0, r.1);
      h_in_bounds = partners_long c.args.h g.row.P r.2 r.4;
      h_in_bounds_2 = plan_long c.args.h g.row.L r.5 r.6;
    }
