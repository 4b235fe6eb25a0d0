use mathlib.Core.Path.{◌∙◌, sym}
use native.Mathlib.Omega.{arith}
use Rattle.determine_side_effects.specs.graph_crate.Check.{graph_in}
use Rattle.dead_records.proofs.Numbering.{modules_are}
use Rattle.dead_records.proofs.Exempting.{statement_place, unmarked_not_kept, kept_by_word}
use Rattle.dead_records.proofs.is_kept.Goals as goal

pub header_of-h-requires : goal.header_of-h-requires
header_of-h-requires c = c.requires.loaded.long

pub mark_of-at-requires : goal.mark_of-at-requires
unfolding graph_in
mark_of-at-requires c = record { loaded = c.requires.loaded; good = (c.requires.m_bound.0, c.requires.m_bound.1) }

pub returns-then-not-test : goal.returns-then-not-test
unfolding graph_in
returns-then-not-test c =
    unmarked_not_kept _ c.args.marks.now _ _ _ c.mark_of-at.ensures.0 (sym c.test.ensures ∙ c.if-not-test.true)

pub overflow_sub-result : goal.overflow_sub-result
unfolding graph_in
overflow_sub-result c =
    let p = statement_place c.requires.loaded c.args.m.0 c.args.i.0 c.requires.m_bound.0 c.requires.m_bound.1 in
    omega (arith, p.0, modules_are _ _ c.header_of-h.ensures, c.mark_of-at.ensures.0)

pub offset_bounds-scratch-at : goal.offset_bounds-scratch-at
unfolding graph_in
offset_bounds-scratch-at c =
    let p = statement_place c.requires.loaded c.args.m.0 c.args.i.0 c.requires.m_bound.0 c.requires.m_bound.1 in
    record { fits = omega (arith, p.0, p.1, modules_are _ _ c.header_of-h.ensures, c.mark_of-at.ensures.0, c.requires.loaded.few_modules, c.requires.loaded.few_statements) }

pub bounds-scratch-at : goal.bounds-scratch-at
unfolding graph_in
bounds-scratch-at c =
    let p = statement_place c.requires.loaded c.args.m.0 c.args.i.0 c.requires.m_bound.0 c.requires.m_bound.1 in
    omega (arith, p.0, p.1, modules_are _ _ c.header_of-h.ensures, c.mark_of-at.ensures.0, c.requires.m_bound.2.words)

pub returns : goal.returns
unfolding graph_in
returns c =
    kept_by_word _ c.args.marks.now c.args.scratch.now _ _ _ c.mark_of-at.ensures.0 (sym c.test.ensures ∙ c.if-not-test.false) (modules_are _ _ c.header_of-h.ensures)
