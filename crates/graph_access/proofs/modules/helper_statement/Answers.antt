use native.Mathlib.Omega.{arith}
use Rattle.graph_access.specs.Lists.{module_widths}
use Rattle.graph_access.specs.Names.{module_helpers, helper_statement}
use Rattle.graph_access.proofs.Indexes.{found_below, helper_row_below}
use Rattle.graph_access.proofs.modules.helper_statement.Goals as goal

pub list_number-requires : goal.list_number-requires
unfolding module_helpers module_widths
list_number-requires c = record { loaded = c.requires.loaded; m_bound = (c.requires.m_bound.0, omega arith, c.requires.m_bound.1, omega arith) }

pub returns : goal.returns
unfolding module_helpers helper_statement
returns c = found_below c.list_number.ensures (helper_row_below c.requires.loaded _ _ c.requires.m_bound.0 c.requires.m_bound.1).1
