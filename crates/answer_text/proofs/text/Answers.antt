use Rattle.answer_text.proofs.Texts.{told_as, text_behind, text_over, text_whole}
use Rattle.answer_text.proofs.text.Goals as goal

pub returns-then-behind-gt0 : goal.returns-then-behind-gt0
returns-then-behind-gt0 c = told_as _ _ (text_behind _ _ c.if-behind-gt0.true) c.refuse.ensures

pub returns-then-front-gt8192 : goal.returns-then-front-gt8192
returns-then-front-gt8192 c =
    told_as _ _ (text_over _ _ c.if-behind-gt0.false c.if-front-gt8192.true) c.refuse-then-front-gt8192.ensures

pub returns : goal.returns
returns c =
    told_as _ _ (text_whole _ _ c.if-behind-gt0.false c.if-front-gt8192.false) c.decoded.ensures
