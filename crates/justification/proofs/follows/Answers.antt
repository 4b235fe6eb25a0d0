use Rattle.justification.proofs.Searches.{span_found, span_all}
use mathlib.Core.Path.{refl}
use Rattle.justification.proofs.follows.Goals as goal

pub returns-in-Some : goal.returns-in-Some
returns-in-Some c = span_found _ _ _ _ _ c.rule_span-span.ensures _ _ c.seek_span.ensures c.if-cursor-span.true _ c.in-Some.is

pub returns : goal.returns
returns c = span_all _ _ _ _ _ c.rule_span-span.ensures _ _ c.seek_span-2.ensures refl refl
