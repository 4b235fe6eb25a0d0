use Rattle.dead_records.proofs.Numbering.{modules_are}
use Rattle.run_rows.proofs.Writing.{word_at, words_done}
use Rattle.determine_side_effects.specs.graph_crate.Check.{graph_in}
use Rattle.determine_side_effects.specs.graph_tables_crate.Tables.{header_in}
use Prim.Native.Nat.{◌<◌}
use mathlib.Core.Path.{◌∙◌}
use lib.ListN.{length}
use Rattle.determine_side_effects.proofs.Reading.{fill_start, fill_step}
use native.Mathlib.Omega.{arith}
use Rattle.run_rows.proofs.show_helpers.Goals as goal

pub loop-m-init : goal.loop-m-init
loop-m-init c = fill_start _ _

pub narrow-requires : goal.narrow-requires
unfolding graph_in
narrow-requires c = let l : c.loop-m.m < (header_in c.args.numbers.now).modules = omega (arith, c.loop-m-test.true, modules_are _ _ c.header_of-h.ensures) in rw c.words_at-at.ensures (omega (arith, word_at _ _ c.header_of-h.ensures c.args.plan.now c.loop-m.m, c.requires.by_index c.loop-m.m l))

pub loop-m-preserved : goal.loop-m-preserved
unfolding graph_in
loop-m-preserved c =
    let n = c.loop-m.invariant in
    let l : c.loop-m.m < length c.args.words.now = omega (arith, c.loop-m-test.true, modules_are _ _ c.header_of-h.ensures, c.requires.in_bounds.2) in
    fill_step _ _ _ _ _ n l ((rw c.words_at-at.ensures at c.narrow.ensures) ∙ word_at _ _ c.header_of-h.ensures c.args.plan.now c.loop-m.m)

pub returns : goal.returns
unfolding graph_in
returns c = words_done _ _ _ _ _ c.loop-m.invariant (omega (arith, c.loop-m-test.false, c.loop-m.auto.m-end, modules_are _ _ c.header_of-h.ensures))
