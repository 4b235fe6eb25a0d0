use Rattle.determine_side_effects.specs.graph_crate.Check.{graph_in}
use Rattle.starts.proofs.Starting.{statement_not, statement_in, statement_out, kept_both}
use native.Mathlib.Omega.{arith}
use mathlib.Core.Path.{◌∙◌, sym}
use Rattle.starts.proofs.statement_fault.Goals as goal

pub returns-then-not-is_normal_index : goal.returns-then-not-is_normal_index
returns-then-not-is_normal_index c = statement_not _ _ _ (sym c.is_normal_index.ensures ∙ c.if-not-is_normal_index.true)

pub statement_count-requires : goal.statement_count-requires
unfolding graph_in
statement_count-requires c = record { loaded = c.requires; m_bound = (kept_both _ _ (sym c.is_normal_index.ensures ∙ c.if-not-is_normal_index.false)).0 }

pub returns-then-b-statement_count : goal.returns-then-b-statement_count
returns-then-b-statement_count c = statement_in _ _ _ (sym c.is_normal_index.ensures ∙ c.if-not-is_normal_index.false) (omega (arith, c.if-b-statement_count.true, c.statement_count.ensures))

pub returns : goal.returns
returns c = statement_out _ _ _ (sym c.is_normal_index.ensures ∙ c.if-not-is_normal_index.false) (omega (arith, c.if-b-statement_count.false, c.statement_count.ensures))
