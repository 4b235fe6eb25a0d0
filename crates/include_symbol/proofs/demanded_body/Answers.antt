use Rattle.include_symbol.proofs.Demands.{demanded_none, demanded_some}
use mathlib.Core.Path.{◌∙◌, sym}
use native.Mathlib.Omega.{arith}
use Rattle.include_symbol.proofs.demanded_body.Goals as goal

pub returns-then-flag : goal.returns-then-flag
returns-then-flag c = (demanded_none _ _ _ _ (sym c.flag.ensures ∙ c.if-flag.true), omega arith)

pub returns : goal.returns
returns c = (demanded_some _ _ _ _ _ c.root-root.ensures.0 (sym c.flag.ensures ∙ c.if-flag.false) c.body_of_key.ensures.0, c.body_of_key.ensures.1)
