use Rattle.answer_rows.proofs.OfUses.{strange_none, strange_this}
use Rattle.answer_rows.proofs.Listed.{set-none, set-one}
use Rattle.determine_side_effects.specs.graph_crate.Check.{graph_in}
use mathlib.Core.Path.{refl}
use Rattle.answer_rows.proofs.show_if_external.Goals as goal

pub returns-then-is_normal : goal.returns-then-is_normal
returns-then-is_normal c = λ j. set-none j _ _ (strange_none (graph_in c.args.numbers.now) c.args.s.0 _ _ c.owner-owner.ensures.0 c.is_normal.ensures c.if-is_normal.true)

pub returns : goal.returns
returns c = λ j. set-one j _ _ _ _ _ (strange_this (graph_in c.args.numbers.now) c.args.s.0 _ _ c.owner-owner.ensures.0 c.is_normal.ensures c.if-is_normal.false) refl (c.set.ensures j)
