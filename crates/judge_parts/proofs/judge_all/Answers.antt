use Rattle.judge_parts.proofs.Answering.{lines_good, line_bad, start-absent, following-absent, all_there}
use Rattle.judge_parts.proofs.judge_all.Goals as goal

pub mark_starts-requires : goal.mark_starts-requires
mark_starts-requires c = record { prepared = c.requires.prepared.0; starts_good = (c.requires.prepared.1, c.requires.marks.0) }

pub judge_lines-first-requires : goal.judge_lines-first-requires
judge_lines-first-requires c = record { prepared = c.requires.prepared.0; marks = (c.mark_starts.ensures, c.requires.marks.1) }

pub returns-then-first-count : goal.returns-then-first-count
returns-then-first-count c = line_bad _ _ _ _ c.judge_lines-first.ensures.0 c.if-first-count.true

pub are_marked-requires : goal.are_marked-requires
are_marked-requires c = record { prepared = c.requires.prepared.0; starts_good = (c.requires.prepared.1, (c.judge_lines-first.ensures.1.marks_are c.if-first-count.false).wide) }

pub returns-then-not-are_marked : goal.returns-then-not-are_marked
returns-then-not-are_marked c = start-absent _ _ _ _ c.judge_lines-first.ensures.0 c.if-first-count.false _ (c.judge_lines-first.ensures.1.marks_are c.if-first-count.false) _ c.are_marked.ensures c.if-not-are_marked.true

pub are_closed-requires : goal.are_closed-requires
are_closed-requires c = record { prepared = c.requires.prepared.0; by_index = (lines_good _ _ _ _ (c.judge_lines-first.ensures.1.all_stand c.if-first-count.false), (c.judge_lines-first.ensures.1.marks_are c.if-first-count.false).wide) }

pub returns-then-not-are_closed : goal.returns-then-not-are_closed
returns-then-not-are_closed c = following-absent _ _ _ _ c.judge_lines-first.ensures.0 c.if-first-count.false _ (c.judge_lines-first.ensures.1.marks_are c.if-first-count.false) _ c.are_marked.ensures c.if-not-are_marked.false _ c.are_closed.ensures c.if-not-are_closed.true

pub returns : goal.returns
returns c = all_there _ _ _ _ c.judge_lines-first.ensures.0 c.if-first-count.false _ (c.judge_lines-first.ensures.1.marks_are c.if-first-count.false) _ c.are_marked.ensures c.if-not-are_marked.false _ c.are_closed.ensures c.if-not-are_closed.false
