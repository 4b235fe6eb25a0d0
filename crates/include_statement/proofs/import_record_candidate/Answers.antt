use Rattle.include_statement.proofs.Bailing.{record-unresolved, record-bails, record-stays}
use mathlib.Core.Path.{◌∙◌, sym}
use native.Mathlib.Omega.{arith}
use Rattle.determine_side_effects.specs.graph_crate.Check.{graph_in}
use Rattle.keep_rules.proofs.Picks.{gives_good, nothing_good}
use Rattle.include_statement.proofs.import_record_candidate.Goals as goal

pub returns-then-target-eq0 : goal.returns-then-target-eq0
returns-then-target-eq0 c = (record-unresolved _ _ _ _ _ _ c.import_record-e.ensures.0 _ c.import_record_target-target.ensures.0 c.if-target-eq0.true, nothing_good)

pub returns-then-bails_out : goal.returns-then-bails_out
unfolding graph_in
returns-then-bails_out c = let t = c.import_record_target-target.ensures in
    (record-bails _ _ _ _ _ _ c.import_record-e.ensures.0 _ t.0 (sym c.bails_out.ensures ∙ c.if-bails_out.true), gives_good (omega (arith, c.if-target-eq0.false, t.1)))

pub returns : goal.returns
returns c = (record-stays _ _ _ _ _ _ c.import_record-e.ensures.0 _ c.import_record_target-target.ensures.0 (sym c.bails_out.ensures ∙ c.if-bails_out.false), nothing_good)
