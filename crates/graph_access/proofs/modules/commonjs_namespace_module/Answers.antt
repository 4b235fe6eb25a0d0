use native.Mathlib.Omega.{arith}
use Rattle.graph_access.specs.Lists.{module_widths}
use Rattle.graph_access.specs.Names.{common_js_namespaces, namespace_module}
use Rattle.graph_access.proofs.Indexes.{found_below, namespace_row_below}
use Rattle.graph_access.proofs.modules.commonjs_namespace_module.Goals as goal

pub list_number-requires : goal.list_number-requires
unfolding common_js_namespaces module_widths
list_number-requires c = record { loaded = c.requires.loaded; m_bound = (c.requires.m_bound.0, omega arith, c.requires.m_bound.1, omega arith) }

pub returns : goal.returns
unfolding common_js_namespaces namespace_module
returns c = found_below c.list_number.ensures (namespace_row_below c.requires.loaded _ _ c.requires.m_bound.0 c.requires.m_bound.1).1
