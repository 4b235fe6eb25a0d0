use Rattle.completeness.proofs.Walks.{all_end, all_stop, all-next, lines_start, line_closed, line_good, open_at, none_open}
use Rattle.keep_record.proofs.Rows.{lines-length}
use mathlib.Core.Path.{sym}
use native.Mathlib.Omega.{arith}
use Rattle.completeness.proofs.first_open_plain.Goals as goal

pub loop-k-init : goal.loop-k-init
loop-k-init c = (omega arith, lines_start _ _ _ _ _)

pub is_closed_fact-requires : goal.is_closed_fact-requires
is_closed_fact-requires c = record { prepared = c.requires.0; good = (line_good _ _ _ c.requires.1 _ c.loop-k-test.true _ c.fact_at.ensures, c.requires.2) }

pub returns-then-not-is_closed_fact : goal.returns-then-not-is_closed_fact
returns-then-not-is_closed_fact c = open_at _ _ _ c.loop-k-test.true (all_stop _ _ _ (sym (lines-length _ _)) _ _ c.loop-k.invariant.1 c.loop-k-test.true _ _ (line_closed _ _ _ _ _ _ c.loop-k-test.true _ c.fact_at.ensures _ c.is_closed_fact.ensures) (c.if-not-is_closed_fact.true))

pub loop-k-preserved : goal.loop-k-preserved
loop-k-preserved c = (omega (arith, c.loop-k-test.true), all-next _ _ _ (sym (lines-length _ _)) _ _ c.loop-k.invariant.1 c.loop-k-test.true _ _ (line_closed _ _ _ _ _ _ c.loop-k-test.true _ c.fact_at.ensures _ c.is_closed_fact.ensures) (c.if-not-is_closed_fact.false))

pub returns : goal.returns
returns c = none_open _ _ _ (omega arith) (omega arith) (all_end _ _ _ (sym (lines-length _ _)) _ _ c.loop-k.invariant.1 c.loop-k-test.false)
