use native.Mathlib.Omega.{arith}
use Rattle.cycles.proofs.Steps.{place_below, place_few}
use Rattle.cycles.proofs.Sources.{passed_more}
use Rattle.cycles.proofs.next_source.Goals as goal

pub gap-clear-requires : goal.gap-clear-requires
gap-clear-requires c =
    let p = place_below _ _ _ _ c.requires.2 c.loop-u-test.true in
    (place_few _ _ _ _ c.requires.2 c.loop-u-test.true c.requires.0 c.requires.0, omega (arith, p, c.requires.1))

pub returns-then-clear-eq0 : goal.returns-then-clear-eq0
returns-then-clear-eq0 c =
    record {
      after = c.loop-u.invariant.after;
      inside = omega arith;
      passed = c.loop-u.invariant.passed;
      found = λ h. c.gap-clear.ensures.2 c.if-clear-eq0.true;
    }

pub loop-u-preserved : goal.loop-u-preserved
loop-u-preserved c =
    let e = c.gap-clear.ensures in
    record {
      after = omega arith;
      near = omega (arith, e.0);
      passed = passed_more _ _ _ _ _ c.loop-u.invariant.passed e.1;
    }

pub returns : goal.returns
returns c =
    record {
      after = c.requires.3;
      inside = omega arith;
      passed = λ u a b. c.loop-u.invariant.passed u a (omega (arith, b));
      found = λ h. absurd (omega arith);
    }
