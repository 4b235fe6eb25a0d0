use Rattle.judge_parts.proofs.Starting.{no_marks}
use mathlib.Core.Path.{◌∙◌, sym}
use Rattle.determine_side_effects.proofs.refusal_crate.Exits.{passed_on}
use Rattle.judge_parts.proofs.judge_in.Goals as goal

pub may_judge-requires : goal.may_judge-requires
may_judge-requires c = record { header_read = c.requires.header_read; all_sections_in_bounds = c.requires.all_sections_in_bounds }

pub judge_all-requires : goal.judge_all-requires
judge_all-requires c = record { prepared = c.may_judge.ensures.good c.in_ok-may_judge.was; marks = (no_marks _ _ c.requires.header_read.is _ c.requires.symbols_bound.0 c.requires.symbols_bound.2, no_marks _ _ c.requires.header_read.is _ c.requires.symbols_bound.1 c.requires.symbols_bound.3) }

pub returns-in_err-may_judge : goal.returns-in_err-may_judge
returns-in_err-may_judge c = rw (passed_on c.from_residual.result _ c.from_residual.ensures.1) (sym (c.may_judge.ensures.refused _ c.in_err-may_judge.was))

pub returns : goal.returns
returns c = c.judge_all.ensures ∙ sym (c.may_judge.ensures.goes c.in_ok-may_judge.was)
