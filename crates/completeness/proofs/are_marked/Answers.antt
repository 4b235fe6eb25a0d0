use Rattle.completeness.proofs.Walks.{all_end, all_stop, all-next, starts-length, start_is, start_good}
use Rattle.marked.specs.Marked.{marked}
use Rattle.determine_side_effects.specs.graph_crate.Check.{graph_in}
use mathlib.Core.Path.{ap, ◌∙◌, sym}
use native.Mathlib.Omega.{arith}
use Rattle.completeness.proofs.are_marked.Goals as goal

pub is_marked-requires : goal.is_marked-requires
is_marked-requires c = record { loaded = c.requires.prepared.loaded; good = (start_good _ _ c.loop-i-test.true _ c.start_at.ensures _ c.requires.starts_good.0, c.requires.starts_good.1) }

pub returns-then-not-is_marked : goal.returns-then-not-is_marked
returns-then-not-is_marked c = all_stop _ _ _ (sym (starts-length _)) _ _ c.loop-i.invariant.1 c.loop-i-test.true _ _ (c.is_marked.ensures ∙ ap (λ f. marked (graph_in c.args.numbers.now) c.args.marks.now f) (start_is _ _ c.loop-i-test.true _ c.start_at.ensures)) (c.if-not-is_marked.true)

pub loop-i-preserved : goal.loop-i-preserved
loop-i-preserved c = (omega (arith, c.loop-i-test.true), all-next _ _ _ (sym (starts-length _)) _ _ c.loop-i.invariant.1 c.loop-i-test.true _ _ (c.is_marked.ensures ∙ ap (λ f. marked (graph_in c.args.numbers.now) c.args.marks.now f) (start_is _ _ c.loop-i-test.true _ c.start_at.ensures)) (c.if-not-is_marked.false))

pub returns : goal.returns
returns c = all_end _ _ _ (sym (starts-length _)) _ _ c.loop-i.invariant.1 c.loop-i-test.false
