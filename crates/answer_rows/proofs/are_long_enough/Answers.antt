use Rattle.answer_rows.specs.Shown.{row_bytes, rows_enough}
use Rattle.answer_rows.proofs.Enough.{too_short, long_enough}
use lib.Dec.{leb}
use mathlib.Core.Path.{ap}
use Rattle.answer_rows.proofs.are_long_enough.Goals as goal

pub returns-then-lengths-row_bytes : goal.returns-then-lengths-row_bytes
unfolding rows_enough row_bytes
returns-then-lengths-row_bytes c = too_short _ _ _ _ c.row_bytes.ensures c.if-lengths-row_bytes.true

pub returns-then-lengths-row_bytes-2 : goal.returns-then-lengths-row_bytes-2
unfolding rows_enough row_bytes
returns-then-lengths-row_bytes-2 c = long_enough _ _ _ _ c.row_bytes.ensures c.if-lengths-row_bytes.false (too_short _ _ _ _ c.row_bytes-2.ensures c.if-lengths-row_bytes-2.true)

pub returns-then-lengths-symbols : goal.returns-then-lengths-symbols
unfolding rows_enough row_bytes
returns-then-lengths-symbols c = long_enough _ _ _ _ c.row_bytes.ensures c.if-lengths-row_bytes.false (long_enough _ _ _ _ c.row_bytes-2.ensures c.if-lengths-row_bytes-2.false (too_short _ _ _ _ c.row_bytes-symbols.ensures c.if-lengths-symbols.true))

pub returns-then-lengths-symbols-2 : goal.returns-then-lengths-symbols-2
unfolding rows_enough row_bytes
returns-then-lengths-symbols-2 c = long_enough _ _ _ _ c.row_bytes.ensures c.if-lengths-row_bytes.false (long_enough _ _ _ _ c.row_bytes-2.ensures c.if-lengths-row_bytes-2.false (long_enough _ _ _ _ c.row_bytes-symbols.ensures c.if-lengths-symbols.false (too_short _ _ _ _ c.row_bytes-symbols.ensures c.if-lengths-symbols-2.true)))

pub returns-then-lengths-symbols-3 : goal.returns-then-lengths-symbols-3
unfolding rows_enough row_bytes
returns-then-lengths-symbols-3 c = long_enough _ _ _ _ c.row_bytes.ensures c.if-lengths-row_bytes.false (long_enough _ _ _ _ c.row_bytes-2.ensures c.if-lengths-row_bytes-2.false (long_enough _ _ _ _ c.row_bytes-symbols.ensures c.if-lengths-symbols.false (long_enough _ _ _ _ c.row_bytes-symbols.ensures c.if-lengths-symbols-2.false (too_short _ _ _ _ c.row_bytes-symbols.ensures c.if-lengths-symbols-3.true))))

pub returns : goal.returns
unfolding rows_enough row_bytes
returns c = long_enough _ _ _ _ c.row_bytes.ensures c.if-lengths-row_bytes.false (long_enough _ _ _ _ c.row_bytes-2.ensures c.if-lengths-row_bytes-2.false (long_enough _ _ _ _ c.row_bytes-symbols.ensures c.if-lengths-symbols.false (long_enough _ _ _ _ c.row_bytes-symbols.ensures c.if-lengths-symbols-2.false (long_enough _ _ _ _ c.row_bytes-symbols.ensures c.if-lengths-symbols-3.false (ap (λ n. leb n c.args.lengths.reason) c.row_bytes-3.ensures)))))
