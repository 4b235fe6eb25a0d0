use Prim.Native.Nat.{◌+◌, ◌<◌, ◌≤◌}
use mathlib.Core.Path.{◌∙◌, sym}
use native.Mathlib.Omega.{arith}
use lib.ListN.{length}
use Rattle.determine_side_effects.specs.graph_tables_crate.Tables.{header_in}
use Rattle.determine_side_effects.specs.graph_crate.Check.{graph_in}
use Rattle.dead_records.proofs.Numbering.{entries_are}
use Rattle.dead_records.proofs.DeadBits.{showing_none, showing_done, showing-dead, showing-passed}
use Rattle.dead_records.proofs.show_dead_now.Goals as goal
use Rattle.dead_records.proofs.show_dead_now.Goals.{else-is_dead_now, then-is_dead_now}

pub header_of-h-requires : goal.header_of-h-requires
header_of-h-requires c = c.requires.prepared.loaded.long

pub loop-e-init : goal.loop-e-init
loop-e-init c = showing_none _ _ _

pub is_dead_now-requires : goal.is_dead_now-requires
unfolding graph_in
is_dead_now-requires c = record { prepared = c.requires.prepared; numbers_in_bounds = (c.requires.numbers_in_bounds.0, omega (arith, c.loop-e-test.true, entries_are _ _ c.header_of-h.ensures), c.requires.numbers_in_bounds.2); has_cycles = c.requires.has_cycles.0 }

pub show_dead_of-requires : goal.show_dead_of-requires
unfolding graph_in
show_dead_of-requires c =
    let long : (header_in c.args.numbers.now).modules + (header_in c.args.numbers.now).statements ≤ length c.args.scratch.now = c.requires.numbers_in_bounds.2.words in record { prepared = c.requires.prepared; e_bound = (omega (arith, c.loop-e-test.true, entries_are _ _ c.header_of-h.ensures), omega (arith, c.loop-e.invariant.same_length, c.requires.numbers_in_bounds.1)); numbers_in_bounds = (omega (arith, long), c.requires.has_cycles.1) }

pub loop-e-preserved : goal.loop-e-preserved
unfolding graph_in
loop-e-preserved c =
    let b = c.loop-e.invariant in
    let l : c.loop-e.e < (header_in c.args.numbers.now).entries = omega (arith, c.loop-e-test.true, entries_are _ _ c.header_of-h.ensures) in
    let d = c.is_dead_now.ensures in
    elim c.if-is_dead_now.branch [ then-is_dead_now w ↦ showing-dead _ _ _ _ _ b l _ _ (sym d ∙ w.if-is_dead_now.true) w.show_dead_of.auto.bits w.show_dead_of.ensures w.bits-is | else-is_dead_now w ↦ showing-passed _ _ _ _ _ b l _ (sym d ∙ w.if-is_dead_now.false) w.bits-is ]

pub returns : goal.returns
unfolding graph_in
returns c = showing_done _ _ _ _ _ c.loop-e.invariant (omega (arith, c.loop-e-test.false, entries_are _ _ c.header_of-h.ensures))
