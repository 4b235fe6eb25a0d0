use Rattle.justification.proofs.Spans.{placed_begin, first_inside, span_module, span_references, span_record, span_checked, span_use, span_forward, span_bailout}
use mathlib.Core.Path.{refl}
use Rattle.justification.proofs.rule_span.Goals as goal

pub place_behind-place-requires : goal.place_behind-place-requires
place_behind-place-requires c = record { prepared = c.requires.prepared; good = c.requires.good; j_in_bounds = (first_inside _ _ _ _ c.in-Statement.is, placed_begin _ _ _ _ refl) }

pub returns-then-rule-eq8 : goal.returns-then-rule-eq8
returns-then-rule-eq8 c = span_references _ _ _ _ _ c.segment_count-count.ensures _ _ c.in-Statement.is c.if-rule-eq8.true refl refl c.place_behind-place.ensures

pub returns-in-Module : goal.returns-in-Module
returns-in-Module c = span_module _ _ _ _ _ c.segment_count-count.ensures _ c.in-Module.is c.span_at.ensures

pub returns-else-rule-eq8 : goal.returns-else-rule-eq8
returns-else-rule-eq8 c = span_record _ _ _ _ _ _ c.in-Statement.is c.if-rule-eq8.false c.span_at-in-Statement.ensures

pub returns-in-CheckedUse : goal.returns-in-CheckedUse
returns-in-CheckedUse c = span_checked _ _ _ _ _ c.segment_count-count.ensures _ _ c.in-CheckedUse.is c.span_at-in-CheckedUse.ensures

pub returns-in-Use : goal.returns-in-Use
returns-in-Use c = span_use _ _ _ _ _ c.segment_count-count.ensures _ _ c.in-Use.is c.span_at-in-Use.ensures

pub returns-in-Forward : goal.returns-in-Forward
returns-in-Forward c = span_forward _ _ _ _ _ c.in-Forward.is c.span_at-in-Forward.ensures

pub returns-in-Bailout : goal.returns-in-Bailout
returns-in-Bailout c = span_bailout _ _ _ _ _ c.in-Bailout.is c.span_at-in-Bailout.ensures
