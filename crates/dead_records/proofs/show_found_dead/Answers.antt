use Prim.Native.Nat.{◌<◌}
use native.Mathlib.Omega.{arith}
use Rattle.determine_side_effects.specs.graph_tables_crate.Tables.{header_in}
use Rattle.determine_side_effects.specs.graph_crate.Check.{graph_in}
use Rattle.dead_records.proofs.Numbering.{entries_are}
use Rattle.dead_records.proofs.DeadBits.{showing_none, showing_done, showing-dead, showing-passed, dead_word, live_word}
use Rattle.dead_records.proofs.show_found_dead.Goals as goal
use Rattle.dead_records.proofs.show_found_dead.Goals.{else-plan-dead-eq1, then-plan-dead-eq1}

pub loop-e-init : goal.loop-e-init
loop-e-init c = showing_none _ _ _

pub show_dead_of-requires : goal.show_dead_of-requires
unfolding graph_in
show_dead_of-requires c = record { prepared = c.requires.prepared; e_bound = (omega (arith, c.loop-e-test.true, entries_are _ _ c.header_of-h.ensures), omega (arith, c.loop-e.invariant.same_length, c.requires.numbers_in_bounds.1)); numbers_in_bounds = c.requires.numbers_in_bounds_2 }

pub loop-e-preserved : goal.loop-e-preserved
unfolding graph_in
loop-e-preserved c =
    let b = c.loop-e.invariant in
    let h = c.header_of-h.ensures in
    let l : c.loop-e.e < (header_in c.args.numbers.now).entries = omega (arith, c.loop-e-test.true, entries_are _ _ h) in
    let dead = c.dead_at-dead.ensures in
    elim c.if-plan-dead-eq1.branch [ then-plan-dead-eq1 w ↦ showing-dead _ _ _ _ _ b l _ _ (dead_word _ c.args.plan.now _ h _ l (rw dead at w.if-plan-dead-eq1.true)) w.show_dead_of.auto.bits w.show_dead_of.ensures w.bits-is | else-plan-dead-eq1 w ↦ showing-passed _ _ _ _ _ b l _ (live_word _ c.args.plan.now _ h _ l (rw dead at w.if-plan-dead-eq1.false)) w.bits-is ]

pub returns : goal.returns
unfolding graph_in
returns c = showing_done _ _ _ _ _ c.loop-e.invariant (omega (arith, c.loop-e-test.false, entries_are _ _ c.header_of-h.ensures))
