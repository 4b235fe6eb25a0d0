use mathlib.Core.Path.{◌∙◌}
use Rattle.worklist.proofs.Draining.{starts_begin, start_is, starts_inside, starts_over, starts_good, starts-full, starts-step, starts_done}
use Rattle.starts.specs.Starts.{starts_of}
use mathlib.Core.Path.{refl}
use Rattle.determine_side_effects.proofs.refusal_crate.Exits.{passed_on}
use Rattle.worklist.proofs.drain_starts.Goals as goal

pub loop-i-init : goal.loop-i-init
loop-i-init c = starts_begin _ _ _ _ _ _ c.requires.held c.requires.linked

pub start-requires : goal.start-requires
start-requires c =
    let i = starts_inside c.args.starts.now _ _ refl c.loop-i-test.true in
    let f = start_is c.args.starts.now _ _ refl c.loop-i-test.true _ _ _ _ c.wide.ensures c.wide-in-loop-i.ensures c.wide-in-loop-i-2.ensures c.fact_of-fact.ensures in
    record { prepared = c.requires.prepared; held = c.loop-i.invariant.held; linked = c.loop-i.invariant.linked; good = starts_good _ (starts_of c.args.starts.now) _ _ c.requires.starts_good i f }

pub returns-in_err-total : goal.returns-in_err-total
returns-in_err-total c =
    let i = starts_inside c.args.starts.now _ _ refl c.loop-i-test.true in
    let f = start_is c.args.starts.now _ _ refl c.loop-i-test.true _ _ _ _ c.wide.ensures c.wide-in-loop-i.ensures c.wide-in-loop-i-2.ensures c.fact_of-fact.ensures in rw (passed_on c.from_residual.result _ c.from_residual.ensures.1) (starts-full _ _ _ _ _ _ _ _ _ _ c.loop-i.invariant i _ f _ _ (rw c.in_err-total.was at c.start.ensures).0)

pub loop-i-preserved : goal.loop-i-preserved
loop-i-preserved c =
    let i = starts_inside c.args.starts.now _ _ refl c.loop-i-test.true in
    let f = start_is c.args.starts.now _ _ refl c.loop-i-test.true _ _ _ _ c.wide.ensures c.wide-in-loop-i.ensures c.wide-in-loop-i-2.ensures c.fact_of-fact.ensures in
    starts-step _ _ _ _ _ _ _ _ _ _ c.loop-i.invariant i _ f _ _ _ _ (rw c.in_ok-total.was at c.start.ensures)

pub returns : goal.returns
returns c = starts_done _ _ _ _ _ _ _ _ _ _ c.loop-i.invariant (starts_over _ _ _ refl c.loop-i-test.false)
