use Prim.Native.Nat.{◌+◌}
use mathlib.Core.Path.{ap, ◌∙◌}
use native.Mathlib.Omega.{arith}
use Rattle.graph.proofs.graph_tables_crate.Facts.{symbol-place, symbol_inside}
use Rattle.graph_access.specs.Lists.{place_of, symbol_widths}
use Rattle.graph_access.proofs.OfItems.{symbol_lists_inside}
use Rattle.graph_access.proofs.lists.symbol_list.Goals as goal

pub overflow_add-p : goal.overflow_add-p
overflow_add-p c = omega (arith, symbol_inside _ _ c.requires.symbol_table _ c.requires.s_bound.0 5 (omega arith))

pub list_place-requires : goal.list_place-requires
unfolding symbol_widths
list_place-requires c = rw (symbol-place _ _ c.requires.symbol_table _ c.requires.s_bound.0) (symbol_lists_inside _ _ c.requires.symbol_table _ c.requires.s_bound.0 _ c.requires.s_bound.1)

pub returns : goal.returns
unfolding symbol_widths
returns c = c.list_place.ensures ∙ ap (λ p. place_of c.args.numbers.now (p + 6) symbol_widths c.args.j) (symbol-place _ _ c.requires.symbol_table _ c.requires.s_bound.0)
