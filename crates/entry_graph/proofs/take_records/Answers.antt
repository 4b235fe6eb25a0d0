use Prim.Native.Nat.{◌<◌}
use mathlib.Core.Path.{refl, ◌∙◌, sym}
use lib.ListN.{length}
use Rattle.graph_access.specs.graph_crate.Check.{graph_in}
use Rattle.entry_graph.specs.Steps.{records_of}
use Rattle.entry_graph.proofs.Walking.{record_inside, going_stay, going-over, takes-upto, takes_all, takes_full}
use Rattle.entry_graph.proofs.take_records.Goals as goal
use Rattle.entry_graph.proofs.take_records.Goals.{in-Walk+else-not-is_over, in-Stay}

pub loop-i-init : goal.loop-i-init
loop-i-init c = record { stored = c.requires.stored; on = refl }

pub read_record-import-requires-clause-m_bound : goal.read_record-import-requires-clause-m_bound
read_record-import-requires-clause-m_bound c = (c.requires.root_bound.1, record_inside (graph_in c.args.numbers.now) c.args.m.0 _ (rw c.record_count-size.ensures at c.loop-i-test.true))

pub returns-then-not-is_over : goal.returns-then-not-is_over
returns-then-not-is_over c =
    let inside : c.loop-i.i < length (records_of (graph_in c.args.numbers.now) c.args.m.0) = rw c.record_count-size.ensures at c.loop-i-test.true in
    takes-upto c.loop-i.invariant inside c.read_record-import.ensures c.take_import.ensures _ _ _ c.in-Walk.is refl (sym c.is_over.ensures ∙ c.if-not-is_over.true)

pub loop-i-preserved : goal.loop-i-preserved
loop-i-preserved c =
    let inside : c.loop-i.i < length (records_of (graph_in c.args.numbers.now) c.args.m.0) = rw c.record_count-size.ensures at c.loop-i-test.true in
    elim c.match-take_import.branch [
      | in-Walk+else-not-is_over w ↦ rw w.c-is (going-over c.loop-i.invariant inside c.read_record-import.ensures c.take_import.ensures _ _ _ w.in-Walk.is (sym w.is_over.ensures ∙ w.if-not-is_over.false))
      | in-Stay w ↦ rw w.c-is (going_stay c.loop-i.invariant inside c.read_record-import.ensures c.take_import.ensures _ w.in-Stay.is)
    ]

pub returns-in-Overfull : goal.returns-in-Overfull
returns-in-Overfull c = takes_full (c.take_import.ensures.too_many c.in-Overfull.is)

pub returns : goal.returns
returns c = takes_all c.loop-i.invariant (rw c.record_count-size.ensures at c.loop-i-test.false)
