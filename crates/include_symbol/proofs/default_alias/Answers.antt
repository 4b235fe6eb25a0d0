use Rattle.include_symbol.proofs.Bailouts.{alias_none, alias_other, alias_default}
use Rattle.keep_rules.proofs.Picks.{nothing_good}
use Rattle.include_symbol.proofs.default_alias.Goals as goal

pub returns-then-alias-eq0 : goal.returns-then-alias-eq0
returns-then-alias-eq0 c = (alias_none _ _ _ c.alias_namespace-alias.ensures.0 c.if-alias-eq0.true, nothing_good)

pub returns-then-alias_name-ne0 : goal.returns-then-alias_name-ne0
returns-then-alias_name-ne0 c = (alias_other _ _ _ c.alias_namespace-alias.ensures.0 _ c.alias_name.ensures c.if-alias-eq0.false c.if-alias_name-ne0.true, nothing_good)

pub returns : goal.returns
returns c = (alias_default _ _ _ c.alias_namespace-alias.ensures.0 _ c.alias_name.ensures c.if-alias-eq0.false c.if-alias_name-ne0.false c.commonjs_of.ensures.0 c.bailout_candidate.ensures.0, c.bailout_candidate.ensures.1)
