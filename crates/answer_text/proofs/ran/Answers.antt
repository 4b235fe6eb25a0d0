use mathlib.Core.Path.{refl, ap, ◌∙◌, sym}
use Rattle.listing.specs.Listing.{refused_text}
use Rattle.answer_text.proofs.Texts.{told_as}
use Rattle.answer_text.proofs.Answered.{ran_fits, ran_text, refused_text_lem}
use Rattle.answer_text.proofs.ran.Goals as goal

pub slice_bounds-run-end : goal.slice_bounds-run-end
slice_bounds-run-end c = refl

pub slice_bounds-run-end-2 : goal.slice_bounds-run-end-2
slice_bounds-run-end-2 c = refl

pub slice_bounds-run-end-3 : goal.slice_bounds-run-end-3
slice_bounds-run-end-3 c = refl

pub slice_bounds-run-end-4 : goal.slice_bounds-run-end-4
slice_bounds-run-end-4 c = refl

pub slice_bounds-run-end-5 : goal.slice_bounds-run-end-5
slice_bounds-run-end-5 c = refl

pub slice_bounds-run-end-6 : goal.slice_bounds-run-end-6
slice_bounds-run-end-6 c = refl

pub slice_bounds-run-end-7 : goal.slice_bounds-run-end-7
slice_bounds-run-end-7 c = refl

pub slice_bounds-run-end-8 : goal.slice_bounds-run-end-8
slice_bounds-run-end-8 c = refl

pub slice_bounds-run-end-9 : goal.slice_bounds-run-end-9
slice_bounds-run-end-9 c = refl

pub slice_bounds-run-end-10 : goal.slice_bounds-run-end-10
slice_bounds-run-end-10 c = refl

pub slice_bounds-run-end-11 : goal.slice_bounds-run-end-11
slice_bounds-run-end-11 c = refl

pub slice_bounds-listed-end : goal.slice_bounds-listed-end
slice_bounds-listed-end c = sym c.run.auto.entries

pub slice_bounds-listed-end-in-Ok : goal.slice_bounds-listed-end-in-Ok
slice_bounds-listed-end-in-Ok c = sym c.run.auto.modules_row

pub slice_bounds-listed-end-in-Ok-2 : goal.slice_bounds-listed-end-in-Ok-2
slice_bounds-listed-end-in-Ok-2 c = sym c.run.auto.statements_row

pub slice_bounds-listed-end-in-Ok-3 : goal.slice_bounds-listed-end-in-Ok-3
slice_bounds-listed-end-in-Ok-3 c = sym c.run.auto.used

pub slice_bounds-listed-end-in-Ok-4 : goal.slice_bounds-listed-end-in-Ok-4
slice_bounds-listed-end-in-Ok-4 c = sym c.run.auto.external

pub slice_bounds-listed-end-in-Ok-5 : goal.slice_bounds-listed-end-in-Ok-5
slice_bounds-listed-end-in-Ok-5 c = sym c.run.auto.json

pub slice_bounds-listed-end-in-Ok-6 : goal.slice_bounds-listed-end-in-Ok-6
slice_bounds-listed-end-in-Ok-6 c = sym c.run.auto.reason

pub slice_bounds-listed-end-in-Ok-7 : goal.slice_bounds-listed-end-in-Ok-7
slice_bounds-listed-end-in-Ok-7 c = sym c.run.auto.dead

pub slice_bounds-listed-end-in-Ok-8 : goal.slice_bounds-listed-end-in-Ok-8
slice_bounds-listed-end-in-Ok-8 c = sym c.run.auto.helpers

pub listed-requires : goal.listed-requires
listed-requires c =
    let s = c.requires in
    let r = c.run in record { loaded = s; fits = ran_fits s c.in-Ok.is _ r.ensures r.auto.modules_row r.auto.statements_row r.auto.used r.auto.external r.auto.json r.auto.reason r.auto.dead r.auto.helpers }

pub returns-in-Err : goal.returns-in-Err
returns-in-Err c = told_as _ _ (ap refused_text c.number.ensures ∙ refused_text_lem _ c.in-Err.is c.run.ensures.answer) c.refuse.ensures

pub returns-in-Ok : goal.returns-in-Ok
returns-in-Ok c = told_as _ _ (ran_text c.requires c.in-Ok.is _ c.run.ensures) c.listed.ensures
