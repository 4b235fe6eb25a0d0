use Rattle.answer_rows.proofs.OfUses.{only_none, only_this}
use Rattle.answer_rows.proofs.Turned.{shows_none, shows_not, shows-if, shows-one}
use Rattle.answer_rows.specs.Shown.{shows}
use mathlib.Core.Path.{refl, ◌∙◌, sym}
use Rattle.answer_rows.proofs.show_module.Goals as goal

pub returns-then-dev_namespace : goal.returns-then-dev_namespace
unfolding shows
returns-then-dev_namespace c = (shows-one _ _ _ _ _ _ _ refl refl c.set.ensures, shows-if _ _ _ _ _ _ c.if-main.true (shows-one _ _ _ _ _ _ _ (only_this _ _ (sym c.dev_namespace.ensures ∙ c.if-dev_namespace.true)) refl c.set-then-dev_namespace.ensures))

pub returns-else-dev_namespace : goal.returns-else-dev_namespace
unfolding shows
returns-else-dev_namespace c = (shows-one _ _ _ _ _ _ _ refl refl c.set.ensures, shows_none _ _ _ _ _ (only_none _ _ (sym c.dev_namespace.ensures ∙ c.if-dev_namespace.false)))

pub returns-else-main : goal.returns-else-main
unfolding shows
returns-else-main c = (shows-one _ _ _ _ _ _ _ refl refl c.set.ensures, shows_not _ _ _ _ _ c.if-main.false)
