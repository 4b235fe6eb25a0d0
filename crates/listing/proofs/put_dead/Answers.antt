use native.Mathlib.Omega.{arith}
use mathlib.Core.Path.{refl}
use Rattle.dynamic_entries.specs.Alive.{records_before}
use Rattle.listing.proofs.Pieces.{go_none, go_more, emits_as}
use Rattle.listing.proofs.Lines.{dead_are}
use Rattle.listing.proofs.Running.{records_inside, records_next}
use Rattle.listing.proofs.put_dead.Goals as goal

pub loop-m-init : goal.loop-m-init
unfolding records_before
loop-m-init c = (go_none, omega arith, refl, omega arith)

pub put_dead_of-end-requires : goal.put_dead_of-end-requires
put_dead_of-end-requires c =
    let s = c.requires in
    let i = c.loop-m.invariant in
    let n = c.import_record_count-size.ensures in
    (omega (arith, i.1, i.0.few, s.loaded.few_modules, s.at_bound.0, s.at_bound.1), omega (arith, i.2, records_inside _ _ _ _ _ c.loop-m-test.true n.0 s.at_bound.2), omega (arith, i.3, i.0.few, s.loaded.few_modules, s.at_bound.1), n.1)

pub loop-m-preserved : goal.loop-m-preserved
loop-m-preserved c =
    let p = c.put_dead_of-end in
    let i = c.loop-m.invariant in
    let n = c.import_record_count-size.ensures in (
      go_more i.0 c.loop-m-test.true p.auto.out (emits_as (dead_are _ _ _ _ _ i.2 n.0) p.ensures.0),
      omega (arith, i.1, p.ensures.1),
      omega (arith, i.2, records_next _ _ _ n.0),
      omega (arith, i.3, n.1),
    )
