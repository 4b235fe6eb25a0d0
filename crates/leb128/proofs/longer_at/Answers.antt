use Prim.Native.Nat.{ℕ, ◌+◌, ◌-◌, ◌*◌, ◌%◌, ◌<◌}
use mathlib.Core.Path.{◌≡◌, refl, ap, ◌∙◌, sym}
use lib.ListN.{length, get_or}
use Rattle.leb128.proofs.Scan.{rest_more, rest_begun, weight_more, term_low}
use native.Mathlib.Nat.{mod-lt}
use native.Mathlib.Omega.{arith}
use Rattle.leb128.proofs.longer_at.Goals as goal

pub loop-next-init : goal.loop-next-init
loop-next-init c =
    let e : c.args.at + 1 - c.args.at ≡ 1 = omega arith in
    rw e (omega arith, omega arith, omega arith, refl, mod-lt _ (omega arith), rest_begun _ _ c.requires.at_in_bounds c.requires.bound)

pub loop-next-preserved : goal.loop-next-preserved
loop-next-preserved c =
    let i : c.loop-next.next < length c.args.file.now = c.loop-next-test.true in
    let e : c.loop-next.next + 1 - c.args.at ≡ c.loop-next.next - c.args.at + 1 = omega (arith, c.loop-next.invariant.0) in
    rw e (
      omega (arith, c.loop-next.invariant.0),
      omega arith,
      omega (arith, c.loop-next.invariant.2, c.if-next-at-eq4.false),
      ap (λ (w : ℕ). w * 128) c.loop-next.invariant.3 ∙ weight_more _,
      omega (arith, c.loop-next.invariant.4, term_low (get_or c.args.file.now c.loop-next.next 0 % 128) c.loop-next.weight (mod-lt _ (omega arith))),
      sym (rest_more _ _ _ _ _ i c.if-group-lt128.false) ∙ c.loop-next.invariant.5,
    )
