use Rattle.determine_side_effects.specs.graph_crate.Check.{graph_in}
use Rattle.dead_records.proofs.Numbering.{counting_none, counting_more, counting_done, modules_are}
use native.Mathlib.Omega.{arith}
use Rattle.dead_records.proofs.record_count.Goals as goal

pub loop-m-init : goal.loop-m-init
loop-m-init c = counting_none _

pub import_record_count-total-requires : goal.import_record_count-total-requires
unfolding graph_in
import_record_count-total-requires c = record { loaded = c.requires; m_bound = omega (arith, c.loop-m-test.true, modules_are _ _ c.header_of-h.ensures) }

pub loop-m-preserved : goal.loop-m-preserved
loop-m-preserved c = counting_more _ _ _ _ c.loop-m.invariant (omega (arith, c.loop-m-test.true, modules_are _ _ c.header_of-h.ensures)) c.import_record_count-total.ensures.0 c.import_record_count-total.ensures.1

pub returns : goal.returns
unfolding graph_in
returns c = let n = c.loop-m.invariant in (counting_done _ _ _ n (omega (arith, c.loop-m-test.false, modules_are _ _ c.header_of-h.ensures)), omega (arith, n.total_small, n.inside, c.requires.few_modules))
