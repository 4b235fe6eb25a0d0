use Rattle.include_statements.proofs.Segments.{segments_none}
use Rattle.include_statements.proofs.Goods.{good_module, good_statement, good_use, good_checked}
use Rattle.keep_rules.specs.Rules.{segments_of}
use Rattle.include_statements.proofs.follow.Goals as goal

pub follow_module-requires : goal.follow_module-requires
follow_module-requires c = let b = good_module _ _ c.requires.good.0 _ c.in-Module.is in record { prepared = c.requires.prepared; held = c.requires.held; m_bound = (b.0, b.1, c.requires.good.1) }

pub follow_statement-requires : goal.follow_statement-requires
follow_statement-requires c = let b = good_statement _ _ c.requires.good.0 _ _ c.in-Statement.is in record { prepared = c.requires.prepared; held = c.requires.held; m_bound = (b.0, b.1, c.requires.good.1) }

pub follow_checked_use-requires : goal.follow_checked_use-requires
follow_checked_use-requires c = let b = good_checked _ _ c.requires.good.0 _ _ c.in-CheckedUse.is in record { prepared = c.requires.prepared; held = c.requires.held; s_bound = (b.0, b.1, b.2, c.requires.good.1) }

pub follow_use-requires : goal.follow_use-requires
follow_use-requires c = let b = good_use _ _ c.requires.good.0 _ _ c.in-Use.is in record { prepared = c.requires.prepared; held = c.requires.held; s_bound = (b.0, b.1, b.2, c.requires.good.1) }

pub returns-in-Module : goal.returns-in-Module
returns-in-Module c = rw c.in-Module.is c.follow_module.ensures

pub returns-in-Statement : goal.returns-in-Statement
returns-in-Statement c = rw c.in-Statement.is c.follow_statement.ensures

pub returns-in-CheckedUse : goal.returns-in-CheckedUse
unfolding segments_of
returns-in-CheckedUse c = rw (c.in-CheckedUse.is, segments_of) c.follow_checked_use.ensures

pub returns-in-Use : goal.returns-in-Use
returns-in-Use c = rw c.in-Use.is c.follow_use.ensures

pub returns-in-Forward : goal.returns-in-Forward
unfolding segments_of
returns-in-Forward c = rw (c.in-Forward.is, segments_of) (segments_none _ _ _ _ _ _ c.requires.held)

pub returns-in-Bailout : goal.returns-in-Bailout
unfolding segments_of
returns-in-Bailout c = rw (c.in-Bailout.is, segments_of) (segments_none _ _ _ _ _ _ c.requires.held)
