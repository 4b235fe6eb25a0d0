use mathlib.Core.Path.{◌∙◌}
use mathlib.Core.List.{[]}
use native.Mathlib.Omega.{arith}
use lib.ListN.{get_or}
use Rattle.graph.specs.rows_crate.Walk.{no_item}
use Rattle.graph_access.proofs.Fixed.{Stands}
use Rattle.graph.specs.graph_tables_crate.Tables.{modules_in}
use Rattle.graph_access.specs.Lists.{module_widths}
use Rattle.graph_access.proofs.OfItems.{module_stands}
use Rattle.graph_access.proofs.lists.module_list_length.Goals as goal

pub offset_bounds-numbers-p : goal.offset_bounds-numbers-p
offset_bounds-numbers-p c =
    let its : Stands c.args.numbers.now c.module_list-p.result (get_or module_widths c.args.j 0) (get_or (get_or (modules_in c.args.numbers.now) c.args.m no_item).rows c.args.j []) = rw c.module_list-p.ensures (module_stands _ _ c.requires.module_table _ c.requires.m_bound.0 _ c.requires.m_bound.1) in
    omega (arith, its.inside)

pub bounds-numbers-p : goal.bounds-numbers-p
bounds-numbers-p c =
    let its : Stands c.args.numbers.now c.module_list-p.result (get_or module_widths c.args.j 0) (get_or (get_or (modules_in c.args.numbers.now) c.args.m no_item).rows c.args.j []) = rw c.module_list-p.ensures (module_stands _ _ c.requires.module_table _ c.requires.m_bound.0 _ c.requires.m_bound.1) in
    its.inside

pub returns : goal.returns
returns c =
    let its : Stands c.args.numbers.now c.module_list-p.result (get_or module_widths c.args.j 0) (get_or (get_or (modules_in c.args.numbers.now) c.args.m no_item).rows c.args.j []) = rw c.module_list-p.ensures (module_stands _ _ c.requires.module_table _ c.requires.m_bound.0 _ c.requires.m_bound.1) in
    c.wide.ensures ∙ its.counted
