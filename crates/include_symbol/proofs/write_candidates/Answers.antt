use Rattle.include_symbol.proofs.OfTarget.{no_writes, writes-none, writes-all}
use mathlib.Core.Path.{◌∙◌, sym}
use Rattle.include_symbol.proofs.write_candidates.Goals as goal

pub returns-then-not-option : goal.returns-then-not-option
returns-then-not-option c = no_writes _ _ (sym c.option.ensures ∙ c.if-not-option.true)

pub returns-then-is_normal : goal.returns-then-is_normal
returns-then-is_normal c = writes-all _ _ _ c.owner-o.ensures.0 (sym c.option.ensures ∙ c.if-not-option.false) (sym c.is_normal.ensures ∙ c.if-is_normal.true) c.written_count.ensures.0

pub returns : goal.returns
returns c = writes-none _ _ _ c.owner-o.ensures.0 (sym c.option.ensures ∙ c.if-not-option.false) (sym c.is_normal.ensures ∙ c.if-is_normal.false)
