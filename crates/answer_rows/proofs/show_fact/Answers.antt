use Rattle.answer_rows.proofs.Turned.{checked_none, forward_none, bailout_none, fact_none, fact_module, fact_statement, fact_use}
use Rattle.answer_rows.proofs.InRow.{good_module, good_statement, good_use}
use Rattle.answer_rows.proofs.Fitting.{wide}
use Rattle.answer_rows.proofs.FirstBytes.{statement_inside}
use Rattle.determine_side_effects.specs.graph_tables_crate.Tables.{header_in}
use Rattle.determine_side_effects.specs.graph_access_crate.Words.{statement_list}
use Rattle.determine_side_effects.specs.graph_crate.Check.{graph_in}
use native.Mathlib.Omega.{arith}
use Rattle.answer_rows.proofs.show_fact.Goals as goal

pub show_module-requires : goal.show_module-requires
unfolding graph_in
show_module-requires c = let w = wide _ _ c.requires.reason_value in record { prepared = c.requires.prepared.0; m_bound = ((good_module _ _ _ c.in-Module.is c.requires.good).0, w.modules_wide, w.reason_wide) }

pub first_byte_of-requires : goal.first_byte_of-requires
unfolding graph_in
first_byte_of-requires c = record { first_bytes = c.requires.prepared.1; m_bound = (good_statement _ _ _ _ c.in-Statement.is c.requires.good).0 }

pub set_in_part-requires : goal.set_in_part-requires
unfolding graph_in statement_list
set_in_part-requires c =
    let w = (wide _ _ c.requires.reason_value).statements_wide in
    let h = good_statement _ _ _ _ c.in-Statement.is c.requires.good in
    let i = statement_inside (graph_in c.args.numbers.now).statements _ (header_in c.args.numbers.now).modules _ h.0 h.1 in record { base_in_bounds = omega (arith, w, i, c.first_byte_of.ensures); i_bound = omega (arith, w, i, c.first_byte_of.ensures) }

pub show_use-requires : goal.show_use-requires
unfolding graph_in
show_use-requires c = let w = wide _ _ c.requires.reason_value in record { prepared = c.requires.prepared.0; s_bound = (good_use _ _ _ _ c.in-Use.is c.requires.good).0; numbers_bound = (w.used_wide, w.external_wide, w.json_wide, w.reason_wide) }

pub returns-in-Module : goal.returns-in-Module
returns-in-Module c = fact_module _ _ _ _ _ _ _ c.in-Module.is c.show_module.ensures

pub returns-in-Statement : goal.returns-in-Statement
returns-in-Statement c = fact_statement _ _ _ _ _ _ _ _ c.in-Statement.is c.first_byte_of.ensures c.set_in_part.ensures

pub returns-in-Use : goal.returns-in-Use
returns-in-Use c = fact_use _ _ _ _ _ _ _ _ _ _ c.in-Use.is c.show_use.ensures

pub returns-in-CheckedUse : goal.returns-in-CheckedUse
returns-in-CheckedUse c = fact_none _ _ _ _ _ c.in-CheckedUse.is (λ row. checked_none _ row _ _)

pub returns-in-Forward : goal.returns-in-Forward
returns-in-Forward c = fact_none _ _ _ _ _ c.in-Forward.is (λ row. forward_none _ row _)

pub returns-in-Bailout : goal.returns-in-Bailout
returns-in-Bailout c = fact_none _ _ _ _ _ c.in-Bailout.is (λ row. bailout_none _ row _)
