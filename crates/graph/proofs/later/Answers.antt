use mathlib.Core.Path.{ap, ◌∙◌, sym}
use Rattle.graph.proofs.LaterRules.{later_none, later_stop, later_go}
use Rattle.graph_entries.proofs.refusal_crate.Exits.{passed_on}
use Rattle.graph.proofs.later.Goals as goal

pub namespaces-requires : goal.namespaces-requires
namespaces-requires c = record { module_table = c.requires.module_table; symbol_table = c.requires.symbol_table; count_value = ap (λ h. h.modules) c.requires.h_value }

pub roots-requires : goal.roots-requires
roots-requires c = record { symbol_table = c.requires.symbol_table; count_value = ap (λ h. h.symbols) c.requires.h_value }

pub returns-in_err-namespaces : goal.returns-in_err-namespaces
returns-in_err-namespaces c = rw (passed_on c.from_residual.result _ c.from_residual.ensures.1) (later_stop _ (sym c.if-runtime_normal.true ∙ c.runtime_normal.ensures) (sym c.namespaces.ensures ∙ c.in_err-namespaces.was))

pub returns-then-runtime_normal : goal.returns-then-runtime_normal
returns-then-runtime_normal c = c.roots.ensures ∙ later_go _ (sym c.if-runtime_normal.true ∙ c.runtime_normal.ensures) (sym c.namespaces.ensures ∙ c.in_ok-namespaces.was)

pub returns : goal.returns
returns c = later_none _ (sym c.if-runtime_normal.false ∙ c.runtime_normal.ensures)
