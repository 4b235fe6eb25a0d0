use Rattle.passes.proofs.Helping.{needs_none}
use Rattle.passes.proofs.Words.{few_bits, word_room, word_set, word_kept, word_done}
use Rattle.passes.proofs.Accepted.{helpers_few}
use Rattle.passes.specs.Helpers.{word_of, helper_word}
use Rattle.determine_side_effects.specs.graph_format_crate.declared.Header.{Header}
use Rattle.determine_side_effects.specs.graph_crate.Check.{graph_in}
use mathlib.Core.Path.{refl, ap, ◌∙◌, sym}
use native.Mathlib.Omega.{arith}
use Rattle.passes.proofs.helper_word.Goals as goal
use Rattle.passes.proofs.helper_word.Goals.{else-needs_helper, then-needs_helper}

pub header_of-h-requires : goal.header_of-h-requires
header_of-h-requires c = c.requires.prepared.loaded.long

pub returns-then-h-eq0 : goal.returns-then-h-eq0
unfolding helper_word graph_in word_of
returns-then-h-eq0 c = word_done _ 0 _ 0 refl (omega arith) (omega (arith, c.if-h-eq0.true, ap (λ (x : Header). x.helpers) c.header_of-h.ensures)) (helpers_few c.requires.prepared.loaded)

pub helper_count-requires : goal.helper_count-requires
helper_count-requires c = record { loaded = c.requires.prepared.loaded; m_bound = c.requires.m_bound.0 }

pub returns-then-helper_count-eq0 : goal.returns-then-helper_count-eq0
returns-then-helper_count-eq0 c = (needs_none _ _ _ _ c.helper_count.ensures.0 c.if-helper_count-eq0.true, omega arith)

pub has_all-all-requires : goal.has_all-all-requires
has_all-all-requires c = record { prepared = c.requires.prepared; m_bound = c.requires.m_bound }

pub loop-k-init : goal.loop-k-init
unfolding word_of
loop-k-init c = (refl)

pub needs_helper-requires : goal.needs_helper-requires
needs_helper-requires c = record { prepared = c.requires.prepared; m_bound = c.requires.m_bound; all_value = c.has_all-all.ensures }

pub overflow_shl-word : goal.overflow_shl-word
overflow_shl-word c = omega (arith, c.loop-k-test.true, ap (λ (x : Header). x.helpers) c.header_of-h.ensures, helpers_few c.requires.prepared.loaded)

pub overflow_add-word : goal.overflow_add-word
overflow_add-word c = record { fits = word_room _ _ _ (omega (arith, c.loop-k-test.true, ap (λ (x : Header). x.helpers) c.header_of-h.ensures, helpers_few c.requires.prepared.loaded)) c.loop-k.invariant }

pub loop-k-preserved : goal.loop-k-preserved
loop-k-preserved c = let v = c.loop-k.invariant in let taken = c.loop-k-test.true in let few = few_bits taken (ap (λ (x : Header). x.helpers) c.header_of-h.ensures) (helpers_few c.requires.prepared.loaded) in let says = c.needs_helper.ensures in (elim c.if-needs_helper.branch [ then-needs_helper w ↦ word_set _ _ _ few v w.word-is (sym says ∙ w.if-needs_helper.true) | else-needs_helper w ↦ word_kept _ _ _ few v w.word-is (sym says ∙ w.if-needs_helper.false) ])

pub returns : goal.returns
unfolding helper_word graph_in
returns c = let v = c.loop-k.invariant in let q = ap (λ (x : Header). x.helpers) c.header_of-h.ensures in word_done _ _ _ _ v (omega (arith, c.loop-k.auto.k-end, q)) (omega (arith, c.loop-k-test.false, q)) (helpers_few c.requires.prepared.loaded)
