use Rattle.determine_side_effects.specs.graph_crate.Check.{graph_in}
use Rattle.dead_records.proofs.Numbering.{numbering_none, numbering_more, modules_are}
use native.Mathlib.Omega.{arith}
use Rattle.dead_records.proofs.fill_first_records.Goals as goal

pub loop-m-init : goal.loop-m-init
loop-m-init c = numbering_none _ _

pub import_record_count-total-requires : goal.import_record_count-total-requires
unfolding graph_in
import_record_count-total-requires c = record { loaded = c.requires.loaded; m_bound = omega (arith, c.loop-m-test.true, modules_are _ _ c.header_of-h.ensures) }

pub loop-m-preserved : goal.loop-m-preserved
unfolding graph_in
loop-m-preserved c = numbering_more _ _ _ _ _ _ c.loop-m.invariant c.requires.numbers_in_bounds (omega (arith, c.loop-m-test.true, modules_are _ _ c.header_of-h.ensures)) c.import_record_count-total.ensures.0 c.import_record_count-total.ensures.1

pub returns : goal.returns
unfolding graph_in
returns c = λ m l. c.loop-m.invariant.has m (omega (arith, l, c.loop-m-test.false, modules_are _ _ c.header_of-h.ensures))
