use Rattle.passes.proofs.Helping.{module_marked, all_runtime, all_other}
use Rattle.determine_side_effects.specs.graph_format_crate.declared.Header.{Header}
use Rattle.determine_side_effects.specs.graph_crate.Check.{graph_in}
use Rattle.determine_side_effects.specs.facts_crate.Facts.{mark_count}
use mathlib.Core.Bool.{not}
use mathlib.Core.Path.{ap, ◌∙◌, sym}
use native.Mathlib.Omega.{arith}
use Rattle.passes.proofs.has_all.Goals as goal

pub header_of-h-requires : goal.header_of-h-requires
header_of-h-requires c = c.requires.prepared.loaded.long

pub returns-then-m-h : goal.returns-then-m-h
unfolding graph_in
returns-then-m-h c = all_runtime _ _ _ (c.if-m-h.true ∙ ap (λ (h : Header). h.runtime) c.header_of-h.ensures)

pub test-requires : goal.test-requires
unfolding graph_in mark_count
test-requires c = omega (arith, c.requires.m_bound.0, c.requires.m_bound.1)

pub returns : goal.returns
unfolding graph_in
returns c = ap not (c.test.ensures ∙ module_marked _ _ _) ∙ all_other _ _ _ (λ e. c.if-m-h.false (e ∙ sym (ap (λ (h : Header). h.runtime) c.header_of-h.ensures)))
