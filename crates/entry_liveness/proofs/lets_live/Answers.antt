use Rattle.determine_side_effects.specs.graph_crate.Check.{graph_in}
use Rattle.entry_liveness.proofs.Related.{module_inside, statement_inside, never-reached, unkept, kept-used, kept-unused}
use mathlib.Core.Path.{◌∙◌, sym}
use Rattle.entry_liveness.proofs.lets_live.Goals as goal

pub returns-then-r-ne0 : goal.returns-then-r-ne0
returns-then-r-ne0 c = never-reached _ _ _ c.related_statement-r.ensures _ _ _ c.if-r-ne0.true

pub is_marked-requires-clause-good : goal.is_marked-requires-clause-good
unfolding graph_in
is_marked-requires-clause-good c = ((module_inside _ _ _ c.related_statement-r.ensures, statement_inside _ _ _ c.related_statement-r.ensures), c.requires.e_bound.2)

pub returns-then-not-is_marked : goal.returns-then-not-is_marked
returns-then-not-is_marked c = unkept _ _ _ c.related_statement-r.ensures _ _ _ c.if-r-ne0.false _ c.is_marked.ensures c.if-not-is_marked.true

pub returns-then-not-unused : goal.returns-then-not-unused
returns-then-not-unused c = kept-used _ _ _ c.related_statement-r.ensures _ _ _ c.if-r-ne0.false _ c.is_marked.ensures c.if-not-is_marked.false (sym c.requires.unused_value ∙ c.if-not-unused.true)

pub returns : goal.returns
returns c = kept-unused _ _ _ c.related_statement-r.ensures _ _ _ c.if-r-ne0.false _ c.is_marked.ensures c.if-not-is_marked.false (sym c.requires.unused_value ∙ c.if-not-unused.false) _ c.is_pure.ensures
