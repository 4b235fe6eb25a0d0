use Prim.Native.Nat.{◌<◌}
use native.Mathlib.Omega.{arith}
use Rattle.determine_side_effects.specs.graph_tables_crate.Tables.{header_in}
use Rattle.determine_side_effects.specs.graph_crate.Check.{graph_in}
use Rattle.dead_records.proofs.Numbering.{entries_are}
use Rattle.dead_records.proofs.Clearing.{clearing_none, clearing_done, clearing-passed, clearing-live}
use Rattle.dead_records.proofs.exempt.Goals as goal
use Rattle.dead_records.proofs.exempt.Goals.{else-is_live, then-is_live}

pub header_of-h-requires : goal.header_of-h-requires
header_of-h-requires c = c.requires.loaded.long

pub loop-e-init : goal.loop-e-init
loop-e-init c = clearing_none _ _ _ _

pub is_live-requires : goal.is_live-requires
unfolding graph_in
is_live-requires c = record { loaded = c.requires.loaded; numbers_in_bounds = (c.requires.numbers_in_bounds.0, omega (arith, c.loop-e-test.true, entries_are _ _ c.header_of-h.ensures)) }

pub exempt_of-requires : goal.exempt_of-requires
unfolding graph_in
exempt_of-requires c = record { loaded = c.requires.loaded; e_bound = (omega (arith, c.loop-e-test.true, entries_are _ _ c.header_of-h.ensures), omega (arith, c.loop-e.invariant.same_length, c.requires.numbers_in_bounds.1), c.requires.numbers_in_bounds.2); has_firsts = c.requires.has_firsts }

pub loop-e-preserved : goal.loop-e-preserved
unfolding graph_in
loop-e-preserved c =
    let b = c.loop-e.invariant in
    let l : c.loop-e.e < (header_in c.args.numbers.now).entries = omega (arith, c.loop-e-test.true, entries_are _ _ c.header_of-h.ensures) in
    let d = c.is_live.ensures in
    elim c.if-is_live.branch [ then-is_live w ↦ clearing-live _ _ _ _ _ _ b l _ d _ _ w.if-is_live.true w.exempt_of.auto.bits w.exempt_of.ensures w.bits-is | else-is_live w ↦ clearing-passed _ _ _ _ _ _ b l _ d _ w.if-is_live.false w.bits-is ]

pub returns : goal.returns
unfolding graph_in
returns c = clearing_done _ _ _ _ _ _ c.loop-e.invariant (omega (arith, c.loop-e-test.false, entries_are _ _ c.header_of-h.ensures))
