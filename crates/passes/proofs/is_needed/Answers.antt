use Rattle.passes.proofs.Helping.{module_marked, uniting_start, uniting-here, uniting-lost, uniting-without, uniting-over, word_place, word_is}
use Rattle.entry_order.specs.Plan.{words_at}
use Rattle.determine_side_effects.specs.facts_crate.Facts.{mark_count}
use Rattle.determine_side_effects.specs.graph_format_crate.declared.Header.{Header}
use Rattle.determine_side_effects.specs.graph_crate.Check.{graph_in}
use mathlib.Core.Path.{ap, ◌∙◌, sym}
use native.Mathlib.Omega.{arith}
use Rattle.passes.proofs.is_needed.Goals as goal
use Rattle.passes.proofs.is_needed.Goals.{else-flag, then-flag+else-test}

pub header_of-h-requires : goal.header_of-h-requires
header_of-h-requires c = c.requires.prepared.loaded.long

pub words_at-at-requires : goal.words_at-at-requires
words_at-at-requires c = rw c.header_of-h.ensures (omega (arith, c.requires.prepared.loaded.few_modules, c.requires.prepared.loaded.few_entries))

pub loop-m-init : goal.loop-m-init
loop-m-init c = (c.words_at-at.ensures ∙ ap words_at c.header_of-h.ensures, uniting_start _ _ _ _)

pub flag-requires : goal.flag-requires
flag-requires c = c.requires.numbers_bound.2

pub test-requires : goal.test-requires
unfolding graph_in mark_count
test-requires c = omega (arith, c.loop-m-test.true, ap (λ (x : Header). x.modules) c.header_of-h.ensures, c.requires.numbers_bound.0)

pub returns-then-test : goal.returns-then-test
returns-then-test c = let q = ap (λ (x : Header). x.modules) c.header_of-h.ensures in let v = c.loop-m.invariant in let l = word_place c.loop-m-test.true q in uniting-here _ _ _ _ _ v.1 l _ (word_is c.args.plan.now _ _ c.loop-m.m v.0 (c.requires.by_index _ l)) _ c.flag.ensures c.if-flag.true (sym (c.test.ensures ∙ module_marked _ _ _) ∙ c.if-test.true)

pub loop-m-preserved : goal.loop-m-preserved
loop-m-preserved c = let q = ap (λ (x : Header). x.modules) c.header_of-h.ensures in let v = c.loop-m.invariant in let taken = c.loop-m-test.true in let l = word_place taken q in let is = word_is c.args.plan.now _ _ c.loop-m.m v.0 (c.requires.by_index _ l) in let say = c.flag.ensures in (v.0, elim c.if-flag.branch [ then-flag+else-test w ↦ uniting-lost _ _ _ _ _ v.1 l _ is _ say (sym (w.test.ensures ∙ module_marked _ _ _) ∙ w.if-test.false) | else-flag w ↦ uniting-without _ _ _ _ _ v.1 l _ is _ say w.if-flag.false ])

pub returns : goal.returns
returns c = uniting-over _ _ _ _ _ c.loop-m.invariant.1 (omega (arith, c.loop-m-test.false, ap (λ (x : Header). x.modules) c.header_of-h.ensures))
