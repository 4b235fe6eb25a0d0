use Rattle.answer_rows.proofs.Turned.{shows-list, shows-if, shows_not}
use Rattle.answer_rows.specs.Shown.{shows}
use mathlib.Core.Path.{refl}
use Rattle.answer_rows.proofs.show_use.Goals as goal

pub returns-then-main : goal.returns-then-main
unfolding shows
returns-then-main c =
    let t = c.if-main.true in
    (shows-list _ _ _ _ _ _ refl c.show_used.ensures, shows-list _ _ _ _ _ _ refl c.show_external.ensures, shows-if _ _ _ _ _ _ t (shows-list _ _ _ _ _ _ refl c.note_json_self_reference.ensures), shows-if _ _ _ _ _ _ t (shows-list _ _ _ _ _ _ refl c.note_namespace_inclusion_reason.ensures))

pub returns-else-main : goal.returns-else-main
unfolding shows
returns-else-main c = (shows-list _ _ _ _ _ _ refl c.show_used.ensures, shows-list _ _ _ _ _ _ refl c.show_external.ensures, shows_not _ _ _ _ _ c.if-main.false, shows_not _ _ _ _ _ c.if-main.false)
