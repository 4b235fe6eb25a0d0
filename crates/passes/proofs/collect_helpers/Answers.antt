use Rattle.passes.proofs.Helping.{word_place}
use Rattle.passes.proofs.Planning.{planned_start, planned-step}
use Rattle.entry_order.specs.Plan.{words_at}
use Rattle.determine_side_effects.specs.graph_format_crate.declared.Header.{Header}
use mathlib.Core.Path.{ap, ◌∙◌}
use native.Mathlib.Omega.{arith}
use Rattle.passes.proofs.collect_helpers.Goals as goal

pub header_of-h-requires : goal.header_of-h-requires
header_of-h-requires c = c.requires.prepared.loaded.long

pub words_at-at-requires : goal.words_at-at-requires
words_at-at-requires c = rw c.header_of-h.ensures (omega (arith, c.requires.prepared.loaded.few_modules, c.requires.prepared.loaded.few_entries))

pub loop-m-init : goal.loop-m-init
loop-m-init c = (c.words_at-at.ensures ∙ ap words_at c.header_of-h.ensures, planned_start _ _ _ _)

pub helper_word-requires : goal.helper_word-requires
helper_word-requires c = record { prepared = c.requires.prepared; m_bound = (word_place c.loop-m-test.true (ap (λ (x : Header). x.modules) c.header_of-h.ensures), c.requires.numbers_bound.0) }

pub loop-m-preserved : goal.loop-m-preserved
loop-m-preserved c = let v = c.loop-m.invariant in let taken = c.loop-m-test.true in (v.0, planned-step _ _ _ _ _ _ v.1 _ _ v.0 (omega (arith, taken, ap (λ (x : Header). x.modules) c.header_of-h.ensures)) c.requires.numbers_bound.1 c.helper_word.ensures.0 c.helper_word.ensures.1)

pub returns : goal.returns
returns c = let v = c.loop-m.invariant in record { by_index = λ m l. v.1.done m (omega (arith, l, c.loop-m-test.false, ap (λ (x : Header). x.modules) c.header_of-h.ensures)); untouched = v.1.untouched }
