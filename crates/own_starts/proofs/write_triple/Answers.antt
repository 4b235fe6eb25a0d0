use native.Mathlib.Omega.{arith}
use Rattle.own_starts.proofs.Writing.{written_triple, no_triple}
use Rattle.keep_record.proofs.Growing.{kind_small}
use lib.ListN.{length-set}
use mathlib.Core.Path.{◌∙◌}
use Rattle.own_starts.proofs.write_triple.Goals as goal

pub returns-then-out-p : goal.returns-then-out-p
returns-then-out-p c = no_triple _ _ _ c.if-out-p.true

pub narrow-requires : goal.narrow-requires
narrow-requires c = omega (arith, kind_small c.args.fact, c.kind_of.ensures)

pub bounds-out-p-2 : goal.bounds-out-p-2
bounds-out-p-2 c = simp length-set (omega (arith, c.if-out-p.false))

pub bounds-out-p-3 : goal.bounds-out-p-3
bounds-out-p-3 c = simp length-set (omega (arith, c.if-out-p.false))

pub returns : goal.returns
returns c = written_triple _ _ _ _ _ _ (omega (arith, c.if-out-p.false)) (c.narrow.ensures ∙ c.kind_of.ensures) (c.narrow-2.ensures ∙ c.first_part.ensures) (c.narrow-3.ensures ∙ c.second_part.ensures)
