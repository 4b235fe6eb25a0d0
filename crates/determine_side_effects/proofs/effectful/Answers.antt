use Rattle.determine_side_effects.proofs.Reading.{effectful_1, effectful_3, effectful_4}
use Rattle.determine_side_effects.proofs.effectful.Goals as goal

pub returns-then-v-eq1 : goal.returns-then-v-eq1
returns-then-v-eq1 c = effectful_1 _ c.if-v-eq1.true

pub returns-then-v-eq3 : goal.returns-then-v-eq3
returns-then-v-eq3 c = effectful_3 _ c.if-v-eq3.true

pub returns : goal.returns
returns c = effectful_4 _ c.if-v-eq1.false c.if-v-eq3.false
