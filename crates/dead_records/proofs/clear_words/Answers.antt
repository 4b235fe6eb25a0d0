use Prim.Native.Nat.{◌+◌, ◌-◌, ◌≤◌}
use lib.ListN.{length}
use Rattle.dead_records.proofs.Late.{modules_read, statements_read, filled_below, filled_part}
use native.Mathlib.Omega.{arith}
use Rattle.dead_records.proofs.clear_words.Goals as goal

pub returns : goal.returns
returns c =
    let h = c.header_of-h.ensures in
    let inside : c.header_of-h.result.modules + (c.header_of-h.result.modules + c.header_of-h.result.statements - c.header_of-h.result.modules) ≤ length c.args.scratch.now =
    omega (arith, modules_read _ _ h, statements_read _ _ h, c.requires.1) in
    let zeros = c.fill.ensures.after (λ y e. e) in (
      λ j l. filled_below _ _ _ _ inside zeros j (omega (arith, l, modules_read _ _ h)),
      λ j l u. filled_part _ _ _ _ inside zeros j (omega (arith, l, modules_read _ _ h)) (omega (arith, u, modules_read _ _ h, statements_read _ _ h)),
    )
