use Prim.Native.Nat.{ℕ, ◌+◌, ◌-◌, ◌<◌, ◌≤◌}
use mathlib.Core.Path.{◌≡◌, ap, ◌∙◌, sym}
use mathlib.Core.List.{List, [], ◌∷◌, ◌++◌}
use lib.ListN.{length, get_or}
use Rattle.tables.specs.rows_crate.Walk.{got, Item}
use Rattle.tables.proofs.rows_crate.Walks.{at_got}
use Rattle.tables.specs.graph_format_crate.declared.Header.{Header}
use Rattle.tables.specs.graph_format_crate.Format.{module_at, modules_at, less_module}
use Rattle.tables.specs.Layout.{sizes, start_of, at_modules}
use Rattle.tables.proofs.Sections.{ends_inside, word_inside}
use Rattle.graph_tables.proofs.Facts.{read_place, nine_inside, nine_same, nine_fits, less}
use Rattle.graph_tables.proofs.Filling.{filling_start, filling_inside, filling_step, filling_stop, filling_end}
use native.Mathlib.Omega.{arith}
use Rattle.tables.proofs.refusal_crate.Exits.{passed_on}
use Rattle.graph_tables.proofs.modules.Goals as goal

-- and what is left behind it
behind : (h : Header) (numbers : List ℕ) (left k q : ℕ) {x : Item} {p : ℕ} → module_at h numbers (record { statements = left; modules = h.modules - k }) q ≡ got x p
    → less_module (record { statements = left; modules = h.modules - k }) x ≡ record { statements = left - get_or numbers (q + 9) 0; modules = h.modules - (k + 1) }
behind h numbers left k q e =
    let z : h.modules - k - 1 ≡ h.modules - (k + 1) = omega arith in
    less h numbers _ q e ∙ ap (λ m. record { statements = left - get_or numbers (q + 9) 0; modules = m }) z

pub bounds-tables-0 : goal.bounds-tables-0
bounds-tables-0 c = word_inside c.requires.laid 0 (omega arith)

pub loop-k-init : goal.loop-k-init
loop-k-init c = let z : c.args.h.modules - 0 ≡ c.args.h.modules = omega arith in ([], omega arith, rw z filling_start)

pub module-requires : goal.module-requires
module-requires c = let p = c.requires.symbols_bound in (p.0, p.1, omega (arith, p.2, c.loop-k.invariant.1))

pub returns-in_err-next : goal.returns-in_err-next
unfolding modules_at
returns-in_err-next c = rw (passed_on c.from_residual.result _ c.from_residual.ensures.1) (filling_stop c.loop-k.invariant.2 c.loop-k-test.true (sym c.«module».ensures ∙ c.in_err-next.was))

pub overflow_add-tables : goal.overflow_add-tables
unfolding sizes
overflow_add-tables c =
    let room : start_of c.args.h at_modules + c.args.h.modules ≤ length c.args.tables.now = ends_inside c.requires.laid 0 (omega arith) in
    let room : start_of c.args.h at_modules + c.args.h.modules ≤ length c.args.tables.now = ends_inside c.requires.laid 0 (omega arith) in
    let spot : get_or c.args.tables.now 0 0 + c.loop-k.k ≡ start_of c.args.h at_modules + c.loop-k.k = ap (λ b. b + c.loop-k.k) (c.requires.laid.starts 0 (omega arith)) in
    let room : start_of c.args.h at_modules + c.args.h.modules ≤ length c.args.tables.now = ends_inside c.requires.laid 0 (omega arith) in
    let writes : get_or c.args.tables.now 0 0 + c.loop-k.k < length c.loop-k.tables = rw spot (filling_inside c.loop-k.invariant.2 room c.loop-k-test.true) in
    omega (arith, writes, c.loop-k.invariant.2.kept.same_length, c.requires.laid.few)

pub offset_bounds-tables-base : goal.offset_bounds-tables-base
unfolding sizes
offset_bounds-tables-base c =
    let room : start_of c.args.h at_modules + c.args.h.modules ≤ length c.args.tables.now = ends_inside c.requires.laid 0 (omega arith) in
    let room : start_of c.args.h at_modules + c.args.h.modules ≤ length c.args.tables.now = ends_inside c.requires.laid 0 (omega arith) in
    let spot : get_or c.args.tables.now 0 0 + c.loop-k.k ≡ start_of c.args.h at_modules + c.loop-k.k = ap (λ b. b + c.loop-k.k) (c.requires.laid.starts 0 (omega arith)) in
    let room : start_of c.args.h at_modules + c.args.h.modules ≤ length c.args.tables.now = ends_inside c.requires.laid 0 (omega arith) in
    let writes : get_or c.args.tables.now 0 0 + c.loop-k.k < length c.loop-k.tables = rw spot (filling_inside c.loop-k.invariant.2 room c.loop-k-test.true) in
    omega (arith, writes, c.loop-k.invariant.2.kept.same_length, c.requires.laid.few)

pub bounds-tables-base : goal.bounds-tables-base
unfolding sizes
bounds-tables-base c =
    let room : start_of c.args.h at_modules + c.args.h.modules ≤ length c.args.tables.now = ends_inside c.requires.laid 0 (omega arith) in
    let room : start_of c.args.h at_modules + c.args.h.modules ≤ length c.args.tables.now = ends_inside c.requires.laid 0 (omega arith) in
    let spot : get_or c.args.tables.now 0 0 + c.loop-k.k ≡ start_of c.args.h at_modules + c.loop-k.k = ap (λ b. b + c.loop-k.k) (c.requires.laid.starts 0 (omega arith)) in
    let room : start_of c.args.h at_modules + c.args.h.modules ≤ length c.args.tables.now = ends_inside c.requires.laid 0 (omega arith) in
    let writes : get_or c.args.tables.now 0 0 + c.loop-k.k < length c.loop-k.tables = rw spot (filling_inside c.loop-k.invariant.2 room c.loop-k-test.true) in
    writes

pub overflow_add-q : goal.overflow_add-q
overflow_add-q c =
    let turned : let l = c.loop-k in (x : Item) × (module_at c.args.h c.args.numbers.now (record { statements = l.left; modules = c.args.h.modules - l.k }) l.q ≡ got x c.in_ok-next.next) = at_got _ _ (sym c.«module».ensures ∙ c.in_ok-next.was) in
    omega (arith, nine_inside _ _ _ _ turned.1)

pub offset_bounds-numbers-q : goal.offset_bounds-numbers-q
offset_bounds-numbers-q c =
    let turned : let l = c.loop-k in (x : Item) × (module_at c.args.h c.args.numbers.now (record { statements = l.left; modules = c.args.h.modules - l.k }) l.q ≡ got x c.in_ok-next.next) = at_got _ _ (sym c.«module».ensures ∙ c.in_ok-next.was) in
    omega (arith, nine_inside _ _ _ _ turned.1)

pub bounds-numbers-q : goal.bounds-numbers-q
bounds-numbers-q c =
    let turned : let l = c.loop-k in (x : Item) × (module_at c.args.h c.args.numbers.now (record { statements = l.left; modules = c.args.h.modules - l.k }) l.q ≡ got x c.in_ok-next.next) = at_got _ _ (sym c.«module».ensures ∙ c.in_ok-next.was) in
    nine_inside _ _ _ _ turned.1

pub overflow_sub-left : goal.overflow_sub-left
overflow_sub-left c =
    let turned : let l = c.loop-k in (x : Item) × (module_at c.args.h c.args.numbers.now (record { statements = l.left; modules = c.args.h.modules - l.k }) l.q ≡ got x c.in_ok-next.next) = at_got _ _ (sym c.«module».ensures ∙ c.in_ok-next.was) in
    let t = turned.1 in omega (arith, c.wide-left.ensures, nine_same _ _ _ _ t, nine_fits _ _ _ _ t)

pub loop-k-preserved : goal.loop-k-preserved
unfolding sizes
loop-k-preserved c =
    let room : start_of c.args.h at_modules + c.args.h.modules ≤ length c.args.tables.now = ends_inside c.requires.laid 0 (omega arith) in
    let room : start_of c.args.h at_modules + c.args.h.modules ≤ length c.args.tables.now = ends_inside c.requires.laid 0 (omega arith) in
    let room : start_of c.args.h at_modules + c.args.h.modules ≤ length c.args.tables.now = ends_inside c.requires.laid 0 (omega arith) in
    let spot : get_or c.args.tables.now 0 0 + c.loop-k.k ≡ start_of c.args.h at_modules + c.loop-k.k = ap (λ b. b + c.loop-k.k) (c.requires.laid.starts 0 (omega arith)) in
    let room : start_of c.args.h at_modules + c.args.h.modules ≤ length c.args.tables.now = ends_inside c.requires.laid 0 (omega arith) in
    let turned : let l = c.loop-k in (x : Item) × (module_at c.args.h c.args.numbers.now (record { statements = l.left; modules = c.args.h.modules - l.k }) l.q ≡ got x c.in_ok-next.next) = at_got _ _ (sym c.«module».ensures ∙ c.in_ok-next.was) in
    let i = c.loop-k.invariant in
    let t = turned in
    let g = filling_step i.2 room c.loop-k-test.true t.1 (read_place _ _ _ _ t.1) spot in
    (i.0 ++ (t.0 ∷ []), omega (arith, i.1), rw c.wide-left.ensures (rw (behind _ _ _ _ _ t.1) at g))

pub returns : goal.returns
unfolding modules_at
returns c = filling_end c.loop-k.invariant.2 c.loop-k-test.false
