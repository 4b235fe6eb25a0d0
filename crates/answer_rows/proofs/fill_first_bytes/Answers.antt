use mathlib.Core.Path.{ap}
use native.Mathlib.Omega.{arith}
use Rattle.bit_row.proofs.Size.{bytes_at_most}
use Rattle.determine_side_effects.proofs.tables_crate.Sections.{word_inside}
use Rattle.determine_side_effects.specs.graph_format_crate.declared.Header.{Header}
use Rattle.answer_rows.proofs.FirstBytes.{modules_below, filling_none, filling-done, word-there, still_loaded, filling-more, total_small}
use Rattle.answer_rows.proofs.fill_first_bytes.Goals as goal

pub bounds-tables-9 : goal.bounds-tables-9
bounds-tables-9 c = word_inside c.requires.laid 9 (omega arith)

pub loop-m-init : goal.loop-m-init
loop-m-init c = filling_none _ _ c.requires.loaded c.requires.laid

pub overflow_add-tables : goal.overflow_add-tables
overflow_add-tables c =
    let below = modules_below _ _ c.header_of-h.ensures c.loop-m.m c.loop-m-test.true in
    let there = word-there _ _ c.requires.loaded c.requires.laid _ _ _ c.loop-m.invariant below in
    record { fits = omega (arith, there, c.loop-m.invariant.kept.same_length, c.requires.laid.few) }

pub offset_bounds-tables-base : goal.offset_bounds-tables-base
offset_bounds-tables-base c =
    let below = modules_below _ _ c.header_of-h.ensures c.loop-m.m c.loop-m-test.true in
    let there = word-there _ _ c.requires.loaded c.requires.laid _ _ _ c.loop-m.invariant below in
    record { fits = omega (arith, there, c.loop-m.invariant.kept.same_length, c.requires.laid.few) }

pub bounds-tables-base : goal.bounds-tables-base
bounds-tables-base c =
    let below = modules_below _ _ c.header_of-h.ensures c.loop-m.m c.loop-m-test.true in
    word-there _ _ c.requires.loaded c.requires.laid _ _ _ c.loop-m.invariant below

pub statement_count-requires : goal.statement_count-requires
statement_count-requires c =
    let below = modules_below _ _ c.header_of-h.ensures c.loop-m.m c.loop-m-test.true in
    record { loaded = still_loaded _ _ c.requires.loaded c.requires.laid _ _ _ c.loop-m.invariant below; m_bound = below }

pub overflow_add-total : goal.overflow_add-total
overflow_add-total c =
    let below = modules_below _ _ c.header_of-h.ensures c.loop-m.m c.loop-m-test.true in
    let few = total_small _ _ c.requires.loaded c.requires.laid _ _ _ c.loop-m.invariant below in
    record { fits = omega (arith, few, c.bytes_for-total.ensures, bytes_at_most c.statement_count.result, c.statement_count.ensures.1) }

pub loop-m-preserved : goal.loop-m-preserved
loop-m-preserved c =
    let below = modules_below _ _ c.header_of-h.ensures c.loop-m.m c.loop-m-test.true in
    filling-more _ _ c.requires.loaded c.requires.laid _ _ _ c.loop-m.invariant below _ _ c.statement_count.ensures.0 c.bytes_for-total.ensures

pub returns : goal.returns
returns c =
    let f = c.loop-m.invariant in
    (filling-done _ _ c.requires.loaded c.requires.laid _ _ _ f (omega (arith, c.loop-m-test.false, ap (λ (h : Header). h.modules) c.header_of-h.ensures)), f.kept)
