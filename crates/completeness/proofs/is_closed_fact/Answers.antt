use Rattle.completeness.proofs.Walks.{forward_symbol, forward_closed, bailout_closed, module-closed, statement-closed, use-closed, checked-closed}
use mathlib.Core.Bool.{true}
use Rattle.completeness.proofs.is_closed_fact.Goals as goal

pub are_declared-requires : goal.are_declared-requires
are_declared-requires c = record { prepared = c.requires.prepared; s_bound = (forward_symbol _ _ c.requires.good.0 _ c.in-Forward.is, c.requires.good.1) }

pub returns-in-Forward : goal.returns-in-Forward
returns-in-Forward c = forward_closed _ _ _ _ _ _ c.in-Forward.is c.are_declared.ensures

pub returns-in-Bailout : goal.returns-in-Bailout
returns-in-Bailout c = bailout_closed _ _ _ _ true _ c.in-Bailout.is

pub returns-in-Module : goal.returns-in-Module
returns-in-Module c = module-closed _ _ _ _ _ c.is_closed_at.ensures _ c.in-Module.is

pub returns-in-Statement : goal.returns-in-Statement
returns-in-Statement c = statement-closed _ _ _ _ _ c.is_closed_at-in-Statement.ensures _ _ c.in-Statement.is

pub returns-in-Use : goal.returns-in-Use
returns-in-Use c = use-closed _ _ _ _ _ c.is_closed_at-in-Use.ensures _ _ c.in-Use.is

pub returns-in-CheckedUse : goal.returns-in-CheckedUse
returns-in-CheckedUse c = checked-closed _ _ _ _ _ c.is_closed_at-in-CheckedUse.ensures _ _ c.in-CheckedUse.is
