use Rattle.determine_side_effects.specs.graph_crate.Check.{graph_in}
use Rattle.starts.proofs.Starting.{modules_are, kept_out, kept_in}
use native.Mathlib.Omega.{arith}
use Rattle.starts.proofs.is_normal_index.Goals as goal

pub returns-then-m-h : goal.returns-then-m-h
returns-then-m-h c = kept_out _ _ (omega (arith, c.if-m-h.true, modules_are _ c.header_of-h.ensures))

pub is_normal-requires : goal.is_normal-requires
unfolding graph_in
is_normal-requires c = record { loaded = c.requires; m_bound = omega (arith, c.if-m-h.false, modules_are _ c.header_of-h.ensures) }

pub returns : goal.returns
returns c = kept_in _ _ _ (omega (arith, c.if-m-h.false, modules_are _ c.header_of-h.ensures)) c.is_normal.ensures
