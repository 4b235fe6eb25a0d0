use Rattle.own_starts.proofs.Noting.{along_start, along_step, along_done}
use Rattle.entry_starts.proofs.Declaring.{declared_whole, declared_over, declared-next, declared_good}
use Rattle.facts.specs.graph_crate.Check.{graph_in}
use mathlib.Core.Path.{refl, ◌∙◌}
use native.Mathlib.Omega.{arith}
use Rattle.own_starts.proofs.note_declaring_statements.Goals as goal

pub owner-owner-requires : goal.owner-owner-requires
owner-owner-requires c = record { loaded = c.requires.prepared.loaded; s_bound = c.requires.s_bound }

pub declaring_count-declaring-requires : goal.declaring_count-declaring-requires
declaring_count-declaring-requires c = record { loaded = c.requires.prepared.loaded; s_bound = c.requires.s_bound }

pub loop-i-init : goal.loop-i-init
loop-i-init c = (refl, refl, omega arith, along_start _ _ _ _ _ _ (declared_whole _ _ _ c.declaring_count-declaring.ensures.0) c.requires.noted)

pub declaring-requires : goal.declaring-requires
declaring-requires c = record { loaded = c.requires.prepared.loaded; s_bound = (c.requires.s_bound, omega (arith, c.loop-i-test.true, c.declaring_count-declaring.ensures.0)) }

pub note-total-requires : goal.note-total-requires
unfolding graph_in
note-total-requires c = let o = c.owner-owner.ensures in let d = c.declaring.ensures in record { prepared = c.requires.prepared; noted = c.loop-i.invariant.3.noted; good = declared_good _ _ _ c.declaring_count-declaring.ensures.0 _ c.loop-i-test.true _ _ o.0 d.0 o.1 d.1 }

pub loop-i-preserved : goal.loop-i-preserved
loop-i-preserved c = let w = c.loop-i.invariant in let t = c.note-total in (t.auto.seen ∙ w.0, t.auto.out ∙ w.1, omega (arith, c.loop-i-test.true), along_step _ _ _ _ _ _ _ _ _ _ _ (declared-next _ _ _ c.declaring_count-declaring.ensures.0 _ c.loop-i-test.true _ _ c.owner-owner.ensures.0 c.declaring.ensures.0) w.3 _ _ _ t.ensures)

pub returns : goal.returns
returns c = along_done _ _ _ _ _ _ _ _ _ (declared_over _ _ _ c.declaring_count-declaring.ensures.0 _ c.loop-i-test.false) c.loop-i.invariant.3
