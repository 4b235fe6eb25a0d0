use Rattle.answer_rows.proofs.Turned.{going_start, going_step, going_end}
use Rattle.answer_rows.proofs.Fitting.{same_lengths, still_enough}
use Rattle.answer_rows.proofs.InRow.{good_same}
use Prim.Native.Nat.{◌<◌, ◌≤◌}
use native.Mathlib.Omega.{arith}
use Rattle.answer_rows.proofs.show_lines.Goals as goal

pub loop-k-init : goal.loop-k-init
loop-k-init c = going_start _ _ _ _ _ _ c.requires.from_le_to.0

pub show_fact-requires : goal.show_fact-requires
show_fact-requires c = record { prepared = c.requires.prepared; good = good_same _ _ _ c.fact_at.ensures (c.requires.from_le_to.2 c.loop-k.k (omega (arith, c.loop-k-test.true))); reason_value = still_enough _ _ _ c.loop-k.invariant.same c.requires.reason_value }

pub loop-k-preserved : goal.loop-k-preserved
loop-k-preserved c =
    let below : c.loop-k.k < c.args.to = omega (arith, c.loop-k-test.true) in
    going_step _ _ _ _ _ _ _ _ c.loop-k.invariant _ _ below c.fact_at.ensures (same_lengths _ _ (c.show_fact.auto.modules_row, (c.show_fact.auto.statements_row, (c.show_fact.auto.used, (c.show_fact.auto.external, (c.show_fact.auto.json, (c.show_fact.auto.reason, tt))))))) c.show_fact.ensures

pub returns : goal.returns
returns c = let over : c.args.to ≤ c.loop-k.k = omega (arith, c.loop-k-test.false) in going_end _ _ _ _ _ _ _ _ c.loop-k.invariant over
