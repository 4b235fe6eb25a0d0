-- What the row holds of the text is the part of it that is told.
use Rattle.std.proofs.Common.{refl, arith}
use Rattle.keep.proofs.Parted.{part_last, part_next}
use Rattle.keep.proofs.form_part.Goals as goal

pub returns-then-length-skip : goal.returns-then-length-skip
returns-then-length-skip c = part_last _ _ _ _ _ _ c.requires c.text-length.auto.out c.text-length.ensures 0 (omega (arith, c.if-length-skip.true)) (omega arith)

pub returns-then-left-out : goal.returns-then-left-out
returns-then-left-out c = part_last _ _ _ _ _ _ c.requires c.text-length.auto.out c.text-length.ensures _ refl c.if-left-out.true

pub returns : goal.returns
returns c = part_next _ _ _ _ _ _ c.requires c.text-length.auto.out c.text-length.ensures c.if-left-out.false
