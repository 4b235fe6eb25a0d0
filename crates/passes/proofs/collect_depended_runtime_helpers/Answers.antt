use Rattle.passes.proofs.Helping.{some_need, union_is}
use Rattle.passes.proofs.Words.{few_bits, word_room, word_set, word_kept, word_done}
use Rattle.passes.proofs.Accepted.{helpers_few}
use Rattle.passes.specs.Helpers.{word_of}
use Rattle.determine_side_effects.specs.graph_format_crate.declared.Header.{Header}
use Rattle.determine_side_effects.specs.graph_crate.Check.{graph_in}
use mathlib.Core.Path.{refl, ap, ◌∙◌, sym}
use native.Mathlib.Omega.{arith}
use Rattle.passes.proofs.collect_depended_runtime_helpers.Goals as goal
use Rattle.passes.proofs.collect_depended_runtime_helpers.Goals.{else-is_needed, then-is_needed}

pub header_of-h-requires : goal.header_of-h-requires
header_of-h-requires c = c.requires.prepared.loaded.long

pub loop-k-init : goal.loop-k-init
unfolding word_of
loop-k-init c = (refl)

pub is_needed-requires : goal.is_needed-requires
is_needed-requires c = record { prepared = c.requires.prepared; numbers_bound = (c.requires.numbers_bound.0, c.requires.numbers_bound.1, omega (arith, c.loop-k-test.true, ap (λ (x : Header). x.helpers) c.header_of-h.ensures, helpers_few c.requires.prepared.loaded)); by_index = c.requires.by_index }

pub overflow_shl-word : goal.overflow_shl-word
overflow_shl-word c = omega (arith, c.loop-k-test.true, ap (λ (x : Header). x.helpers) c.header_of-h.ensures, helpers_few c.requires.prepared.loaded)

pub overflow_add-word : goal.overflow_add-word
overflow_add-word c = record { fits = word_room _ _ _ (omega (arith, c.loop-k-test.true, ap (λ (x : Header). x.helpers) c.header_of-h.ensures, helpers_few c.requires.prepared.loaded)) c.loop-k.invariant }

pub loop-k-preserved : goal.loop-k-preserved
unfolding some_need
loop-k-preserved c = let v = c.loop-k.invariant in let taken = c.loop-k-test.true in let few = few_bits taken (ap (λ (x : Header). x.helpers) c.header_of-h.ensures) (helpers_few c.requires.prepared.loaded) in let says = c.is_needed.ensures in (elim c.if-is_needed.branch [ then-is_needed w ↦ word_set _ _ _ few v w.word-is (sym says ∙ w.if-is_needed.true) | else-is_needed w ↦ word_kept _ _ _ few v w.word-is (sym says ∙ w.if-is_needed.false) ])

pub returns : goal.returns
unfolding graph_in
returns c = let v = c.loop-k.invariant in let q = ap (λ (x : Header). x.helpers) c.header_of-h.ensures in (word_done _ _ _ _ v (omega (arith, c.loop-k.auto.k-end, q)) (omega (arith, c.loop-k-test.false, q)) (helpers_few c.requires.prepared.loaded)).0 ∙ union_is _ _
