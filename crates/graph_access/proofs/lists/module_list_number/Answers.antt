use mathlib.Core.Path.{◌∙◌, sym}
use mathlib.Core.List.{[]}
use native.Mathlib.Omega.{arith}
use lib.ListN.{get_or}
use Rattle.graph.specs.rows_crate.Walk.{no_item}
use Rattle.graph_access.proofs.Fixed.{Stands}
use Rattle.graph.specs.graph_tables_crate.Tables.{modules_in}
use Rattle.graph_access.specs.Lists.{module_widths}
use Rattle.graph_access.proofs.OfItems.{module_stands}
use Rattle.graph_access.proofs.lists.module_list_number.Goals as goal

pub overflow_add-p : goal.overflow_add-p
overflow_add-p c =
    let its : Stands c.args.numbers.now c.module_list-p.result (get_or module_widths c.args.j 0) (get_or (get_or (modules_in c.args.numbers.now) c.args.m no_item).rows c.args.j []) = rw c.module_list-p.ensures (module_stands _ _ c.requires.module_table _ c.requires.m_bound.0 _ c.requires.m_bound.1) in
    omega (arith, its.inside)

pub overflow_mul-widths : goal.overflow_mul-widths
unfolding module_widths
overflow_mul-widths c =
    let its : Stands c.args.numbers.now c.module_list-p.result (get_or module_widths c.args.j 0) (get_or (get_or (modules_in c.args.numbers.now) c.args.m no_item).rows c.args.j []) = rw c.module_list-p.ensures (module_stands _ _ c.requires.module_table _ c.requires.m_bound.0 _ c.requires.m_bound.1) in
    omega (arith, its.here _ _ c.requires.m_bound.2 c.requires.m_bound.3)

pub overflow_add-p-2 : goal.overflow_add-p-2
unfolding module_widths
overflow_add-p-2 c =
    let its : Stands c.args.numbers.now c.module_list-p.result (get_or module_widths c.args.j 0) (get_or (get_or (modules_in c.args.numbers.now) c.args.m no_item).rows c.args.j []) = rw c.module_list-p.ensures (module_stands _ _ c.requires.module_table _ c.requires.m_bound.0 _ c.requires.m_bound.1) in
    omega (arith, its.here _ _ c.requires.m_bound.2 c.requires.m_bound.3)

pub overflow_add-p-3 : goal.overflow_add-p-3
unfolding module_widths
overflow_add-p-3 c =
    let its : Stands c.args.numbers.now c.module_list-p.result (get_or module_widths c.args.j 0) (get_or (get_or (modules_in c.args.numbers.now) c.args.m no_item).rows c.args.j []) = rw c.module_list-p.ensures (module_stands _ _ c.requires.module_table _ c.requires.m_bound.0 _ c.requires.m_bound.1) in
    omega (arith, its.here _ _ c.requires.m_bound.2 c.requires.m_bound.3)

pub offset_bounds-numbers-p : goal.offset_bounds-numbers-p
unfolding module_widths
offset_bounds-numbers-p c =
    let its : Stands c.args.numbers.now c.module_list-p.result (get_or module_widths c.args.j 0) (get_or (get_or (modules_in c.args.numbers.now) c.args.m no_item).rows c.args.j []) = rw c.module_list-p.ensures (module_stands _ _ c.requires.module_table _ c.requires.m_bound.0 _ c.requires.m_bound.1) in
    omega (arith, its.here _ _ c.requires.m_bound.2 c.requires.m_bound.3)

pub bounds-numbers-p : goal.bounds-numbers-p
unfolding module_widths
bounds-numbers-p c =
    let its : Stands c.args.numbers.now c.module_list-p.result (get_or module_widths c.args.j 0) (get_or (get_or (modules_in c.args.numbers.now) c.args.m no_item).rows c.args.j []) = rw c.module_list-p.ensures (module_stands _ _ c.requires.module_table _ c.requires.m_bound.0 _ c.requires.m_bound.1) in
    its.here _ _ c.requires.m_bound.2 c.requires.m_bound.3

pub returns : goal.returns
unfolding module_widths
returns c =
    let its : Stands c.args.numbers.now c.module_list-p.result (get_or module_widths c.args.j 0) (get_or (get_or (modules_in c.args.numbers.now) c.args.m no_item).rows c.args.j []) = rw c.module_list-p.ensures (module_stands _ _ c.requires.module_table _ c.requires.m_bound.0 _ c.requires.m_bound.1) in
    c.wide.ensures ∙ sym (its.same _ _ c.requires.m_bound.2 c.requires.m_bound.3)
