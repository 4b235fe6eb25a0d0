use Rattle.include_module.proofs.Following.{no_eval, eval-all, eval-none}
use mathlib.Core.Path.{◌∙◌, sym}
use Rattle.include_module.proofs.eval_candidates.Goals as goal

pub returns-then-not-flag : goal.returns-then-not-flag
returns-then-not-flag c = no_eval _ _ _ c.flags.ensures (sym c.flag.ensures ∙ c.if-not-flag.true)

pub returns-then-module_type-lt2 : goal.returns-then-module_type-lt2
returns-then-module_type-lt2 c = eval-all _ _ _ c.flags.ensures _ c.module_type.ensures (sym c.flag.ensures ∙ c.if-not-flag.false) c.if-module_type-lt2.true c.named_import_count.ensures.0

pub returns : goal.returns
returns c = eval-none _ _ _ c.flags.ensures _ c.module_type.ensures (sym c.flag.ensures ∙ c.if-not-flag.false) c.if-module_type-lt2.false
