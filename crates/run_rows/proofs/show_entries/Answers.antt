use native.Mathlib.Omega.{arith}
use Rattle.run_rows.proofs.Keeping.{finals_length, finals_row}
use Rattle.run_rows.proofs.show_entries.Goals as goal

pub group-requires : goal.group-requires
group-requires c =
    let k = c.keep_final-n.ensures in
    record { loaded = c.requires.loaded; entries = (k.upper_bound.1, omega (arith, k.upper_bound.0, c.requires.numbers_in_bounds.0), omega (arith, k.upper_bound.0, c.requires.numbers_in_bounds.1)) }

pub returns : goal.returns
returns c =
    let k = c.keep_final-n.ensures in
    (finals_length _ _ _ _ k.plan_after k.upper_bound.1, finals_row _ _ _ _ k.plan_after k.upper_bound.1 _ _ c.group.ensures)
