use Rattle.include_symbol.proofs.ByName.{pick_none, pick_external, pick_default, pick_missing, pick_found}
use mathlib.Core.Path.{◌∙◌, sym}
use native.Mathlib.Omega.{arith}
use Rattle.determine_side_effects.specs.graph_crate.Check.{graph_in}
use Rattle.keep_rules.proofs.Picks.{gives_good, nothing_good}
use Rattle.include_symbol.proofs.export_candidate.Goals as goal

pub returns-then-n-eq0 : goal.returns-then-n-eq0
returns-then-n-eq0 c = (pick_none _ _ _ c.if-n-eq0.true, nothing_good)

pub returns-then-not-is_normal : goal.returns-then-not-is_normal
returns-then-not-is_normal c = (pick_external _ _ _ c.if-n-eq0.false (sym c.is_normal.ensures ∙ c.if-not-is_normal.true), nothing_good)

pub returns-then-name-eq0 : goal.returns-then-name-eq0
returns-then-name-eq0 c = (pick_default _ _ _ c.if-n-eq0.false (sym c.is_normal.ensures ∙ c.if-not-is_normal.false) c.if-name-eq0.true, nothing_good)

pub returns-then-export-eq0 : goal.returns-then-export-eq0
returns-then-export-eq0 c = (pick_missing _ _ _ c.if-n-eq0.false (sym c.is_normal.ensures ∙ c.if-not-is_normal.false) c.if-name-eq0.false (sym c.export_of-export.ensures.0 ∙ c.if-export-eq0.true), nothing_good)

pub returns : goal.returns
unfolding graph_in
returns c = (pick_found _ _ _ _ c.if-n-eq0.false (sym c.is_normal.ensures ∙ c.if-not-is_normal.false) c.if-name-eq0.false c.export_of-export.ensures.0 c.if-export-eq0.false, gives_good (omega (arith, c.if-export-eq0.false, c.export_of-export.ensures.1), omega arith, omega arith))
