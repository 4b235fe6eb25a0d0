use mathlib.Core.Path.{◌∙◌}
use mathlib.Core.List.{[]}
use native.Mathlib.Omega.{arith}
use lib.ListN.{get_or}
use Rattle.graph.specs.rows_crate.Walk.{no_item}
use Rattle.graph_access.proofs.Fixed.{Stands}
use Rattle.graph.specs.graph_tables_crate.Tables.{symbols_in}
use Rattle.graph_access.specs.Lists.{symbol_widths}
use Rattle.graph_access.proofs.OfItems.{symbol_stands}
use Rattle.graph_access.proofs.lists.symbol_list_length.Goals as goal

pub offset_bounds-numbers-p : goal.offset_bounds-numbers-p
offset_bounds-numbers-p c =
    let its : Stands c.args.numbers.now c.symbol_list-p.result (get_or symbol_widths c.args.j 0) (get_or (get_or (symbols_in c.args.numbers.now) c.args.s no_item).rows c.args.j []) = rw c.symbol_list-p.ensures (symbol_stands _ _ c.requires.symbol_table _ c.requires.s_bound.0 _ c.requires.s_bound.1) in
    omega (arith, its.inside)

pub bounds-numbers-p : goal.bounds-numbers-p
bounds-numbers-p c =
    let its : Stands c.args.numbers.now c.symbol_list-p.result (get_or symbol_widths c.args.j 0) (get_or (get_or (symbols_in c.args.numbers.now) c.args.s no_item).rows c.args.j []) = rw c.symbol_list-p.ensures (symbol_stands _ _ c.requires.symbol_table _ c.requires.s_bound.0 _ c.requires.s_bound.1) in
    its.inside

pub returns : goal.returns
returns c =
    let its : Stands c.args.numbers.now c.symbol_list-p.result (get_or symbol_widths c.args.j 0) (get_or (get_or (symbols_in c.args.numbers.now) c.args.s no_item).rows c.args.j []) = rw c.symbol_list-p.ensures (symbol_stands _ _ c.requires.symbol_table _ c.requires.s_bound.0 _ c.requires.s_bound.1) in
    c.wide.ensures ∙ its.counted
