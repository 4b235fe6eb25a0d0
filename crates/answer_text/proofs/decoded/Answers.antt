use mathlib.Core.Path.{ap, ◌∙◌, sym}
use lib.Seq.{length-take-le}
use Rattle.listing.specs.Listing.{refused_text}
use Rattle.answer_text.proofs.Texts.{told_as, decoded_refused, decoded_read, room_is}
use Rattle.answer_text.proofs.decoded.Goals as goal

pub slice_bounds-numbers-end : goal.slice_bounds-numbers-end
slice_bounds-numbers-end c = (decoded_read _ (sym c.in-Ok.is ∙ c.read.ensures.answers) _ _ c.read.ensures.leaves).0

pub slice_bounds-checked-end : goal.slice_bounds-checked-end
slice_bounds-checked-end c = sym (length-take-le _ _ (decoded_read _ (sym c.in-Ok.is ∙ c.read.ensures.answers) _ _ c.read.ensures.leaves).0)

pub returns-in-Err : goal.returns-in-Err
returns-in-Err c = told_as _ _ (ap refused_text c.number.ensures ∙ decoded_refused _ (sym c.in-Err.is ∙ c.read.ensures.answers) ∙ room_is _) c.refuse.ensures

pub returns-in-Ok : goal.returns-in-Ok
returns-in-Ok c = told_as _ _ ((decoded_read _ (sym c.in-Ok.is ∙ c.read.ensures.answers) _ _ c.read.ensures.leaves).1 ∙ room_is _) c.checked.ensures
