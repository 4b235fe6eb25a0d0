use Rattle.justification.proofs.Joining.{joined_not_module, joined-module, joined-statement, joined-use, joined-checked, joined-bailout, joined-other, joined-declared, good_forward}
use mathlib.Core.Path.{sym, ◌∙◌}
use Rattle.justification.proofs.joined_by.Goals as goal

pub returns-then-kind_of-ne1 : goal.returns-then-kind_of-ne1
returns-then-kind_of-ne1 c = joined_not_module _ _ _ _ _ c.kind_of.ensures c.if-kind_of-ne1.true

pub owner-owner-requires : goal.owner-owner-requires
owner-owner-requires c = record { loaded = c.requires.prepared.loaded; s_bound = good_forward _ _ _ c.requires.good c.in-Forward.is }

pub returns-then-owner-first_part : goal.returns-then-owner-first_part
returns-then-owner-first_part c = joined-other _ _ _ _ (sym c.kind_of.ensures ∙ c.if-kind_of-ne1.false) _ c.in-Forward.is _ _ c.owner-owner.ensures.0 c.first_part.ensures c.if-owner-first_part.true

pub find_declaring-requires : goal.find_declaring-requires
find_declaring-requires c = record { prepared = c.requires.prepared; s_bound = good_forward _ _ _ c.requires.good c.in-Forward.is }

pub returns-in-Module : goal.returns-in-Module
returns-in-Module c = joined-module _ _ _ _ (sym c.kind_of.ensures ∙ c.if-kind_of-ne1.false) _ c.in-Module.is

pub returns-in-Statement : goal.returns-in-Statement
returns-in-Statement c = joined-statement _ _ _ _ (sym c.kind_of.ensures ∙ c.if-kind_of-ne1.false) _ _ c.in-Statement.is

pub returns-in-Use : goal.returns-in-Use
returns-in-Use c = joined-use _ _ _ _ (sym c.kind_of.ensures ∙ c.if-kind_of-ne1.false) _ _ c.in-Use.is

pub returns-in-CheckedUse : goal.returns-in-CheckedUse
returns-in-CheckedUse c = joined-checked _ _ _ _ (sym c.kind_of.ensures ∙ c.if-kind_of-ne1.false) _ _ c.in-CheckedUse.is

pub returns-else-owner-first_part : goal.returns-else-owner-first_part
returns-else-owner-first_part c = joined-declared _ _ _ _ (sym c.kind_of.ensures ∙ c.if-kind_of-ne1.false) _ c.in-Forward.is _ _ c.owner-owner.ensures.0 c.first_part.ensures _ c.if-owner-first_part.false c.find_declaring.ensures

pub returns-in-Bailout : goal.returns-in-Bailout
returns-in-Bailout c = joined-bailout _ _ _ _ (sym c.kind_of.ensures ∙ c.if-kind_of-ne1.false) _ c.in-Bailout.is
