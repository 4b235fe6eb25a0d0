use Prim.Native.Nat.{ℕ, zero, suc, ◌+◌, ◌*◌, ◌<◌}
use mathlib.Core.Path.{◌≡◌, refl, ◌∙◌, sym}
use mathlib.Core.List.{[]}
use native.Mathlib.Omega.{arith}
use lib.ListN.{length, get_or}
use Rattle.graph.specs.rows_crate.Walk.{no_item}
use Rattle.graph_access.proofs.Fixed.{Stands}
use Rattle.graph.specs.graph_tables_crate.Tables.{symbols_in}
use Rattle.graph_access.specs.Lists.{symbol_widths}
use Rattle.graph_access.proofs.OfItems.{symbol_stands}
use native.Mathlib.Nat.{one-mul}
use Rattle.graph_access.proofs.lists.symbol_list_number.Goals as goal

-- its rows have one number
one : (j : ℕ) → j < 3 → get_or symbol_widths j 0 ≡ 1
unfolding symbol_widths
one zero l = refl
one (suc zero) l = refl
one (suc (suc zero)) l = refl
one (suc (suc (suc j))) l = absurd (omega arith)

spot : (p w k : ℕ) → w ≡ 1 → p + 1 + w * k + 0 ≡ p + 1 + k
spot p w k e = rw e (omega (arith, one-mul k))

pub overflow_add-p : goal.overflow_add-p
overflow_add-p c =
    let its : Stands c.args.numbers.now c.symbol_list-p.result (get_or symbol_widths c.args.j 0) (get_or (get_or (symbols_in c.args.numbers.now) c.args.s no_item).rows c.args.j []) = rw c.symbol_list-p.ensures (symbol_stands _ _ c.requires.symbol_table _ c.requires.s_bound.0 _ c.requires.s_bound.1) in
    omega (arith, its.inside)

pub overflow_add-p-2 : goal.overflow_add-p-2
overflow_add-p-2 c =
    let its : Stands c.args.numbers.now c.symbol_list-p.result (get_or symbol_widths c.args.j 0) (get_or (get_or (symbols_in c.args.numbers.now) c.args.s no_item).rows c.args.j []) = rw c.symbol_list-p.ensures (symbol_stands _ _ c.requires.symbol_table _ c.requires.s_bound.0 _ c.requires.s_bound.1) in
    let there : c.symbol_list-p.result + 1 + c.args.k < length c.args.numbers.now = let w = one c.args.j c.requires.s_bound.1 in rw (spot _ _ _ w) at (its.here _ 0 c.requires.s_bound.2 (omega (arith, w))) in
    omega (arith, there)

pub offset_bounds-numbers-p : goal.offset_bounds-numbers-p
offset_bounds-numbers-p c =
    let its : Stands c.args.numbers.now c.symbol_list-p.result (get_or symbol_widths c.args.j 0) (get_or (get_or (symbols_in c.args.numbers.now) c.args.s no_item).rows c.args.j []) = rw c.symbol_list-p.ensures (symbol_stands _ _ c.requires.symbol_table _ c.requires.s_bound.0 _ c.requires.s_bound.1) in
    let there : c.symbol_list-p.result + 1 + c.args.k < length c.args.numbers.now = let w = one c.args.j c.requires.s_bound.1 in rw (spot _ _ _ w) at (its.here _ 0 c.requires.s_bound.2 (omega (arith, w))) in
    omega (arith, there)

pub bounds-numbers-p : goal.bounds-numbers-p
bounds-numbers-p c =
    let its : Stands c.args.numbers.now c.symbol_list-p.result (get_or symbol_widths c.args.j 0) (get_or (get_or (symbols_in c.args.numbers.now) c.args.s no_item).rows c.args.j []) = rw c.symbol_list-p.ensures (symbol_stands _ _ c.requires.symbol_table _ c.requires.s_bound.0 _ c.requires.s_bound.1) in
    let there : c.symbol_list-p.result + 1 + c.args.k < length c.args.numbers.now = let w = one c.args.j c.requires.s_bound.1 in rw (spot _ _ _ w) at (its.here _ 0 c.requires.s_bound.2 (omega (arith, w))) in
    there

pub returns : goal.returns
returns c =
    let its : Stands c.args.numbers.now c.symbol_list-p.result (get_or symbol_widths c.args.j 0) (get_or (get_or (symbols_in c.args.numbers.now) c.args.s no_item).rows c.args.j []) = rw c.symbol_list-p.ensures (symbol_stands _ _ c.requires.symbol_table _ c.requires.s_bound.0 _ c.requires.s_bound.1) in
    let w = one c.args.j c.requires.s_bound.1 in
    c.wide.ensures ∙ sym (rw (spot _ _ _ w) at (its.same _ 0 c.requires.s_bound.2 (omega (arith, w))))
