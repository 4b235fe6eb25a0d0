use mathlib.Core.Path.{ap}
use native.Mathlib.Omega.{arith}
use Rattle.determine_side_effects.specs.graph_crate.Check.{graph_in}
use Rattle.rule_tables.proofs.Readying.{few_marks}
use Rattle.run_parts.proofs.Readying.{marks_short, rows_short, dead-short, helpers-short, entries-left}
use Rattle.run_parts.proofs.are_enough.Goals as goal

pub bytes_for-requires : goal.bytes_for-requires
bytes_for-requires c = omega (arith, c.mark_count.ensures, few_marks _ _ c.requires.0)

pub returns-then-l-bytes_for : goal.returns-then-l-bytes_for
returns-then-l-bytes_for c = marks_short _ c.args.l c.mark_count.ensures c.bytes_for.ensures c.if-l-bytes_for.true

pub returns-then-not-are_long_enough : goal.returns-then-not-are_long_enough
returns-then-not-are_long_enough c = rows_short _ c.args.l c.mark_count.ensures c.bytes_for.ensures c.if-l-bytes_for.false c.are_long_enough.ensures (c.if-not-are_long_enough.true)

pub returns-then-l-bytes_for-2 : goal.returns-then-l-bytes_for-2
returns-then-l-bytes_for-2 c = dead-short _ c.args.l c.mark_count.ensures c.bytes_for.ensures c.if-l-bytes_for.false c.are_long_enough.ensures (c.if-not-are_long_enough.false) c.record_count.ensures.0 c.bytes_for-2.ensures c.if-l-bytes_for-2.true

pub returns-then-l-h : goal.returns-then-l-h
unfolding graph_in
returns-then-l-h c = helpers-short _ c.args.l c.mark_count.ensures c.bytes_for.ensures c.if-l-bytes_for.false c.are_long_enough.ensures (c.if-not-are_long_enough.false) c.record_count.ensures.0 c.bytes_for-2.ensures c.if-l-bytes_for-2.false (ap (λ w. w.modules) c.header_of-h.ensures) (ap (λ w. w.entries) c.header_of-h.ensures) c.if-l-h.true

pub returns : goal.returns
unfolding graph_in
returns c = entries-left _ c.args.l c.mark_count.ensures c.bytes_for.ensures c.if-l-bytes_for.false c.are_long_enough.ensures (c.if-not-are_long_enough.false) c.record_count.ensures.0 c.bytes_for-2.ensures c.if-l-bytes_for-2.false (ap (λ w. w.modules) c.header_of-h.ensures) (ap (λ w. w.entries) c.header_of-h.ensures) c.if-l-h.false
