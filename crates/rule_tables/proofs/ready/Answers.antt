use mathlib.Core.Path.{◌∙◌, sym}
use Rattle.determine_side_effects.proofs.graph_crate.Checking.{once_refused}
use Rattle.rule_tables.proofs.Readying.{places_fit, all_laid}
use Rattle.determine_side_effects.proofs.refusal_crate.Exits.{passed_on}
use Rattle.rule_tables.proofs.ready.Goals as goal

pub load-requires : goal.load-requires
load-requires c = record { header_read = c.requires.header_read; at_verdicts_in_bounds = (places_fit _ _ c.requires.all_sections_in_bounds.0, c.requires.all_sections_in_bounds.1) }

pub fill-requires : goal.fill-requires
fill-requires c = let l = c.load.ensures.1.known c.in_ok-load.was in record { loaded = l; laid = all_laid _ _ _ _ c.requires.header_read.is l c.load.auto.tables c.requires.all_sections_in_bounds.0 }

pub returns-in_err-load : goal.returns-in_err-load
returns-in_err-load c = rw (passed_on c.from_residual.result _ c.from_residual.ensures.1) ((sym c.in_err-load.was ∙ c.load.ensures.0, once_refused _))

pub returns : goal.returns
returns c = (sym c.in_ok-load.was ∙ c.load.ensures.0, record { known = λ e. c.fill.ensures })
