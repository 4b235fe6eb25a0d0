use Rattle.worklist.proofs.Joined.{good_module, good_forward, join_module, join_statement, join_use, join_checked, join_bailout, line_low, join-alone, name_old, name_own, name_low, join-forward, owner_linked}
use Rattle.worklist.specs.Drain.{name_of}
use Rattle.determine_side_effects.specs.graph_crate.Check.{graph_in}
use native.Mathlib.Omega.{arith}
use lib.ListN.{get_or}
use mathlib.Core.Path.{◌≡◌, ◌∙◌, sym}
use Rattle.worklist.proofs.join.Goals as goal
use Rattle.worklist.proofs.join.Goals.{else-line-stage, then-line-stage}

pub join_forwards-requires : goal.join_forwards-requires
join_forwards-requires c = record { prepared = c.requires.prepared; held = c.requires.held; linked = c.requires.linked; m_bound = (good_module _ _ c.requires.good.0 _ c.in-Module.is, c.requires.good.1, c.requires.good.2) }

pub owner-owner-requires : goal.owner-owner-requires
owner-owner-requires c = record { loaded = c.requires.prepared.loaded; s_bound = good_forward _ _ c.requires.good.0 _ c.in-Forward.is }

pub bounds-partners-o : goal.bounds-partners-o
bounds-partners-o c = owner_linked _ _ _ _ c.requires.linked _ c.owner-owner.ensures.1

pub returns-then-line-eq0 : goal.returns-then-line-eq0
unfolding graph_in
returns-then-line-eq0 c = join-alone _ _ _ _ _ _ _ _ c.requires.linked _ c.in-Forward.is _ c.owner-owner.ensures.0 c.owner-owner.ensures.1 c.if-line-eq0.true c.requires.held

pub declare-requires : goal.declare-requires
unfolding graph_in
declare-requires c =
    let named : c.if-line-stage.name ≡ name_of c.args.stage.base (get_or c.args.partners.now c.owner-owner.result.0 0) = elim c.if-line-stage.branch [ then-line-stage w ↦ w.name-is ∙ sym (name_old _ _ w.if-line-stage.true) | else-line-stage w ↦ w.name-is ∙ sym (name_own _ _ w.if-line-stage.false) ] in
    let o = c.owner-owner.result.0 in
    let low = line_low _ _ _ _ c.args.marks.now _ _ _ c.requires.linked _ c.in-Forward.is _ c.owner-owner.ensures.0 c.owner-owner.ensures.1 c.requires.good.2 in record { prepared = c.requires.prepared; held = c.requires.held; s_bound = (good_forward _ _ c.requires.good.0 _ c.in-Forward.is, omega (arith, c.requires.good.2), omega (arith, named, name_low c.args.stage.base (get_or c.args.partners.now o 0), low)) }

pub returns-in-Module : goal.returns-in-Module
returns-in-Module c = join_module _ _ _ _ c.args.marks.now _ _ _ c.in-Module.is _ _ _ c.join_forwards.ensures

pub returns-after-line-stage : goal.returns-after-line-stage
unfolding graph_in
returns-after-line-stage c =
    let named : c.if-line-stage.name ≡ name_of c.args.stage.base (get_or c.args.partners.now c.owner-owner.result.0 0) = elim c.if-line-stage.branch [ then-line-stage w ↦ w.name-is ∙ sym (name_old _ _ w.if-line-stage.true) | else-line-stage w ↦ w.name-is ∙ sym (name_own _ _ w.if-line-stage.false) ] in
    join-forward _ _ _ _ c.args.marks.now _ _ _ c.requires.linked _ c.in-Forward.is _ c.owner-owner.ensures.0 c.owner-owner.ensures.1 c.if-line-eq0.false _ named _ _ _ c.declare.ensures

pub returns-in-Statement : goal.returns-in-Statement
returns-in-Statement c = join_statement _ _ _ _ _ _ _ _ _ c.in-Statement.is c.requires.held

pub returns-in-Use : goal.returns-in-Use
returns-in-Use c = join_use _ _ _ _ _ _ _ _ _ c.in-Use.is c.requires.held

pub returns-in-CheckedUse : goal.returns-in-CheckedUse
returns-in-CheckedUse c = join_checked _ _ _ _ _ _ _ _ _ c.in-CheckedUse.is c.requires.held

pub returns-in-Bailout : goal.returns-in-Bailout
returns-in-Bailout c = join_bailout _ _ _ _ _ _ _ _ c.in-Bailout.is c.requires.held
