use Prim.Native.Nat.{◌+◌}
use mathlib.Core.Path.{ap, ◌∙◌}
use native.Mathlib.Omega.{arith}
use Rattle.graph.proofs.graph_tables_crate.Facts.{its-place, at-inside}
use Rattle.graph_access.specs.Lists.{place_of, module_widths}
use Rattle.graph_access.proofs.OfItems.{module_inside}
use Rattle.graph_access.proofs.lists.module_list.Goals as goal

pub overflow_add-p : goal.overflow_add-p
overflow_add-p c = omega (arith, at-inside _ _ c.requires.module_table _ c.requires.m_bound.0 11 (omega arith))

pub list_place-requires : goal.list_place-requires
unfolding module_widths
list_place-requires c = rw (its-place _ _ c.requires.module_table _ c.requires.m_bound.0) (module_inside _ _ c.requires.module_table _ c.requires.m_bound.0 _ c.requires.m_bound.1)

pub returns : goal.returns
unfolding module_widths
returns c = c.list_place.ensures ∙ ap (λ p. place_of c.args.numbers.now (p + 12) module_widths c.args.j) (its-place _ _ c.requires.module_table _ c.requires.m_bound.0)
