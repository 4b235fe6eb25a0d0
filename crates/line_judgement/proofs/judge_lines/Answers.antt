use Rattle.line_judgement.proofs.Judging.{going_start, going-room, going_on, going-bad, going_end}
use Prim.Native.Nat.{◌/◌}
use mathlib.Core.Path.{◌≡◌, refl, ◌∙◌}
use lib.ListN.{length}
use native.Mathlib.Omega.{arith}
use Rattle.line_judgement.proofs.judge_lines.Goals as goal

pub loop-k-init : goal.loop-k-init
loop-k-init c = (going_start _ _ _ _ _ refl c.requires.marks.1, refl)

pub judge_line-requires : goal.judge_line-requires
judge_line-requires c = let p = c.loop-k.invariant.0 in record { prepared = c.requires.prepared; marks = (c.requires.marks.0, p.marks_are); k_in_bounds = (going-room _ _ _ _ _ _ p c.loop-k-test.true, p.all, p.trails) }

pub returns-in-None : goal.returns-in-None
returns-in-None c = going-bad _ _ _ _ _ _ c.loop-k.invariant.0 c.loop-k-test.true _ _ c.judge_line.ensures c.in-None.is

pub loop-k-preserved : goal.loop-k-preserved
loop-k-preserved c = (going_on _ _ _ _ _ _ c.loop-k.invariant.0 c.loop-k-test.true _ _ c.judge_line.ensures _ c.in-Some.is, c.judge_line.auto.marks ∙ c.loop-k.invariant.1)

pub returns : goal.returns
returns c =
    let all : c.loop-k.k ≡ length c.args.lines.now / 6 = omega arith in
    rw all at (going_end _ _ _ _ _ _ c.loop-k.invariant.0 c.loop-k-test.false)
