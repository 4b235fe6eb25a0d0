use Rattle.determine_side_effects.specs.graph_crate.Check.{graph_in}
use Rattle.entry_liveness.proofs.Related.{module_inside, statement_inside, never-reached, unkept, kept-used, kept-unused}
use mathlib.Core.Path.{◌∙◌, sym}
use Rattle.dead_records.proofs.lets_live.Goals as goal

pub related_statement-r-requires : goal.related_statement-r-requires
related_statement-r-requires c = record { loaded = c.requires.prepared.loaded; e_bound = (c.requires.e_bound.0, c.requires.e_bound.1) }

pub returns-then-r-ne0 : goal.returns-then-r-ne0
returns-then-r-ne0 c = never-reached _ _ _ c.related_statement-r.ensures _ _ _ c.if-r-ne0.true

pub is_kept-requires : goal.is_kept-requires
unfolding graph_in
is_kept-requires c = record { loaded = c.requires.prepared.loaded; m_bound = (module_inside _ _ _ c.related_statement-r.ensures, statement_inside _ _ _ c.related_statement-r.ensures, c.requires.e_bound.2) }

pub returns-then-not-is_kept : goal.returns-then-not-is_kept
returns-then-not-is_kept c = unkept _ _ _ c.related_statement-r.ensures _ _ _ c.if-r-ne0.false _ c.is_kept.ensures (c.if-not-is_kept.true)

pub returns-then-not-unused : goal.returns-then-not-unused
returns-then-not-unused c = kept-used _ _ _ c.related_statement-r.ensures _ _ _ c.if-r-ne0.false _ c.is_kept.ensures (c.if-not-is_kept.false) (sym c.requires.unused_value ∙ c.if-not-unused.true)

pub is_pure-requires : goal.is_pure-requires
is_pure-requires c = record { prepared = c.requires.prepared; e_bound = (c.requires.e_bound.0, c.requires.e_bound.1) }

pub returns : goal.returns
returns c = kept-unused _ _ _ c.related_statement-r.ensures _ _ _ c.if-r-ne0.false _ c.is_kept.ensures (c.if-not-is_kept.false) (sym c.requires.unused_value ∙ c.if-not-unused.false) _ c.is_pure.ensures
