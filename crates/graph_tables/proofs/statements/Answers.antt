use Prim.Native.Nat.{ℕ, ◌+◌, ◌<◌, ◌≤◌}
use mathlib.Core.Path.{◌≡◌, ap, ◌∙◌, sym}
use mathlib.Core.List.{[], ◌∷◌, ◌++◌}
use lib.ListN.{length, get_or}
use Rattle.tables.specs.rows_crate.Walk.{many, walk_of}
use Rattle.tables.proofs.rows_crate.Walks.{at_got}
use Rattle.tables.specs.graph_format_crate.Format.{statement_at, following, module_statements, statements_of}
use Rattle.tables.specs.Layout.{sizes, start_of, Kept, at_first_statements, at_statements}
use Rattle.tables.proofs.Sections.{ends_inside, word_inside}
use Rattle.graph_tables.specs.Tables.{header_in, modules_in, first_of}
use Rattle.graph_tables.proofs.Facts.{modules_long}
use Rattle.graph_tables.proofs.ByModule.{outer_start, outer-writes, outer-step, outer_stop, outer-end, as_module, in_table, first_fits}
use Rattle.graph_tables.proofs.Sections.{modules_inside, modules_kept}
use native.Mathlib.Omega.{arith}
use Rattle.tables.proofs.refusal_crate.Exits.{passed_on}
use Rattle.graph_tables.proofs.statements.Goals as goal

pub bounds-tables-2 : goal.bounds-tables-2
bounds-tables-2 c = word_inside c.requires.laid.0 2 (omega arith)

pub bounds-tables-3 : goal.bounds-tables-3
bounds-tables-3 c = word_inside c.requires.laid.0 3 (omega arith)

pub loop-m-init : goal.loop-m-init
loop-m-init c = ([], outer_start _ _ _ _ _)

pub section-requires : goal.section-requires
section-requires c = modules_inside c.requires.laid.0 2 (omega arith) (omega arith) c.loop-m.invariant.1.kept

pub module_number-count-requires : goal.module_number-count-requires
module_number-count-requires c =
    let in-header : c.loop-m.m < (header_in c.args.numbers.now).modules = rw (sym c.requires.h_value) c.loop-m-test.true in
    let p = c.requires.laid in record { module_table = modules_kept p.0 2 (omega arith) (omega arith) c.loop-m.invariant.1.kept p.1 c.section.ensures; m_bound = (in-header, omega arith) }

pub section-requires-in-loop-m : goal.section-requires-in-loop-m
section-requires-in-loop-m c = modules_inside c.requires.laid.0 2 (omega arith) (omega arith) c.loop-m.invariant.1.kept

pub import_record_count-imports-requires : goal.import_record_count-imports-requires
import_record_count-imports-requires c =
    let in-header : c.loop-m.m < (header_in c.args.numbers.now).modules = rw (sym c.requires.h_value) c.loop-m-test.true in
    let p = c.requires.laid in record { module_table = modules_kept p.0 2 (omega arith) (omega arith) c.loop-m.invariant.1.kept p.1 c.section-in-loop-m.ensures; m_bound = in-header }

pub overflow_add-places : goal.overflow_add-places
unfolding sizes
overflow_add-places c =
    let in-header : c.loop-m.m < (header_in c.args.numbers.now).modules = rw (sym c.requires.h_value) c.loop-m-test.true in
    let in-header : c.loop-m.m < (header_in c.args.numbers.now).modules = rw (sym c.requires.h_value) c.loop-m-test.true in
    let places_at : get_or c.args.tables.now 3 0 ≡ start_of c.args.h at_statements = c.requires.laid.0.starts 3 (omega arith) in
    let room : start_of c.args.h at_statements + c.args.h.statements ≤ length c.args.tables.now = ends_inside c.requires.laid.0 3 (omega arith) in
    let in-header : c.loop-m.m < (header_in c.args.numbers.now).modules = rw (sym c.requires.h_value) c.loop-m-test.true in
    let fits : get_or c.args.tables.now 3 0 + c.loop-m.first + c.module_number-count.result ≤ length c.loop-m.tables = let o = c.loop-m.invariant.1 in
    omega (arith, in_table _ _ c.requires.laid.1 _ _ in-header c.module_number-count.ensures, o.sum, o.kept.same_length, room, places_at, ap (λ x. x.statements) c.requires.h_value) in
    omega (arith, fits, c.loop-m.invariant.1.kept.same_length, c.requires.laid.0.few)

pub module_statements-requires : goal.module_statements-requires
unfolding sizes
module_statements-requires c =
    let in-header : c.loop-m.m < (header_in c.args.numbers.now).modules = rw (sym c.requires.h_value) c.loop-m-test.true in
    let in-header : c.loop-m.m < (header_in c.args.numbers.now).modules = rw (sym c.requires.h_value) c.loop-m-test.true in
    let places_at : get_or c.args.tables.now 3 0 ≡ start_of c.args.h at_statements = c.requires.laid.0.starts 3 (omega arith) in
    let room : start_of c.args.h at_statements + c.args.h.statements ≤ length c.args.tables.now = ends_inside c.requires.laid.0 3 (omega arith) in
    let in-header : c.loop-m.m < (header_in c.args.numbers.now).modules = rw (sym c.requires.h_value) c.loop-m-test.true in
    let fits : get_or c.args.tables.now 3 0 + c.loop-m.first + c.module_number-count.result ≤ length c.loop-m.tables = let o = c.loop-m.invariant.1 in
    omega (arith, in_table _ _ c.requires.laid.1 _ _ in-header c.module_number-count.ensures, o.sum, o.kept.same_length, room, places_at, ap (λ x. x.statements) c.requires.h_value) in
    fits

pub returns-in_err-next : goal.returns-in_err-next
returns-in_err-next c =
    let places_at : get_or c.args.tables.now 3 0 ≡ start_of c.args.h at_statements = c.requires.laid.0.starts 3 (omega arith) in
    let kept : Kept (start_of c.args.h at_statements + c.loop-m.first) c.loop-m.tables c.module_statements.new.tables = rw places_at at c.module_statements.ensures.2 in
    let this : many (statement_at c.args.h c.import_record_count-imports.result c.args.numbers.now) following c.module_number-count.result 0 c.loop-m.q
    ≡ module_statements c.args.h (modules_in c.args.numbers.now) c.args.numbers.now c.loop-m.m c.loop-m.q = as_module _ _ _ _ _ _ _ c.module_number-count.ensures c.import_record_count-imports.ensures in rw (passed_on c.from_residual.result _ c.from_residual.ensures.1) (outer_stop c.loop-m.invariant.1 c.loop-m-test.true (sym (ap walk_of this) ∙ sym c.module_statements.ensures.0 ∙ c.in_err-next.was) kept)

pub overflow_add-tables : goal.overflow_add-tables
unfolding sizes
overflow_add-tables c =
    let places_at : get_or c.args.tables.now 3 0 ≡ start_of c.args.h at_statements = c.requires.laid.0.starts 3 (omega arith) in
    let spot : get_or c.args.tables.now 2 0 + c.loop-m.m ≡ start_of c.args.h at_first_statements + c.loop-m.m = ap (λ b. b + c.loop-m.m) (c.requires.laid.0.starts 2 (omega arith)) in
    let kept : Kept (start_of c.args.h at_statements + c.loop-m.first) c.loop-m.tables c.module_statements.new.tables = rw places_at at c.module_statements.ensures.2 in
    let places_at : get_or c.args.tables.now 3 0 ≡ start_of c.args.h at_statements = c.requires.laid.0.starts 3 (omega arith) in
    let room : start_of c.args.h at_statements + c.args.h.statements ≤ length c.args.tables.now = ends_inside c.requires.laid.0 3 (omega arith) in
    let writes : get_or c.args.tables.now 2 0 + c.loop-m.m < length c.module_statements.new.tables = outer-writes c.loop-m.invariant.1 c.loop-m-test.true (omega (arith, room)) kept spot in
    let kept : Kept (start_of c.args.h at_statements + c.loop-m.first) c.loop-m.tables c.module_statements.new.tables = rw places_at at c.module_statements.ensures.2 in
    omega (arith, writes, kept.same_length, c.loop-m.invariant.1.kept.same_length, c.requires.laid.0.few)

pub offset_bounds-tables-firsts : goal.offset_bounds-tables-firsts
unfolding sizes
offset_bounds-tables-firsts c =
    let places_at : get_or c.args.tables.now 3 0 ≡ start_of c.args.h at_statements = c.requires.laid.0.starts 3 (omega arith) in
    let spot : get_or c.args.tables.now 2 0 + c.loop-m.m ≡ start_of c.args.h at_first_statements + c.loop-m.m = ap (λ b. b + c.loop-m.m) (c.requires.laid.0.starts 2 (omega arith)) in
    let kept : Kept (start_of c.args.h at_statements + c.loop-m.first) c.loop-m.tables c.module_statements.new.tables = rw places_at at c.module_statements.ensures.2 in
    let places_at : get_or c.args.tables.now 3 0 ≡ start_of c.args.h at_statements = c.requires.laid.0.starts 3 (omega arith) in
    let room : start_of c.args.h at_statements + c.args.h.statements ≤ length c.args.tables.now = ends_inside c.requires.laid.0 3 (omega arith) in
    let writes : get_or c.args.tables.now 2 0 + c.loop-m.m < length c.module_statements.new.tables = outer-writes c.loop-m.invariant.1 c.loop-m-test.true (omega (arith, room)) kept spot in
    let kept : Kept (start_of c.args.h at_statements + c.loop-m.first) c.loop-m.tables c.module_statements.new.tables = rw places_at at c.module_statements.ensures.2 in
    omega (arith, writes, kept.same_length, c.loop-m.invariant.1.kept.same_length, c.requires.laid.0.few)

pub bounds-tables-firsts : goal.bounds-tables-firsts
unfolding sizes
bounds-tables-firsts c =
    let places_at : get_or c.args.tables.now 3 0 ≡ start_of c.args.h at_statements = c.requires.laid.0.starts 3 (omega arith) in
    let spot : get_or c.args.tables.now 2 0 + c.loop-m.m ≡ start_of c.args.h at_first_statements + c.loop-m.m = ap (λ b. b + c.loop-m.m) (c.requires.laid.0.starts 2 (omega arith)) in
    let kept : Kept (start_of c.args.h at_statements + c.loop-m.first) c.loop-m.tables c.module_statements.new.tables = rw places_at at c.module_statements.ensures.2 in
    let room : start_of c.args.h at_statements + c.args.h.statements ≤ length c.args.tables.now = ends_inside c.requires.laid.0 3 (omega arith) in
    let writes : get_or c.args.tables.now 2 0 + c.loop-m.m < length c.module_statements.new.tables = outer-writes c.loop-m.invariant.1 c.loop-m-test.true (omega (arith, room)) kept spot in
    writes

pub overflow_add-first : goal.overflow_add-first
unfolding sizes
overflow_add-first c =
    let in-header : c.loop-m.m < (header_in c.args.numbers.now).modules = rw (sym c.requires.h_value) c.loop-m-test.true in
    let in-header : c.loop-m.m < (header_in c.args.numbers.now).modules = rw (sym c.requires.h_value) c.loop-m-test.true in
    let places_at : get_or c.args.tables.now 3 0 ≡ start_of c.args.h at_statements = c.requires.laid.0.starts 3 (omega arith) in
    let room : start_of c.args.h at_statements + c.args.h.statements ≤ length c.args.tables.now = ends_inside c.requires.laid.0 3 (omega arith) in
    let in-header : c.loop-m.m < (header_in c.args.numbers.now).modules = rw (sym c.requires.h_value) c.loop-m-test.true in
    let fits : get_or c.args.tables.now 3 0 + c.loop-m.first + c.module_number-count.result ≤ length c.loop-m.tables = let o = c.loop-m.invariant.1 in
    omega (arith, in_table _ _ c.requires.laid.1 _ _ in-header c.module_number-count.ensures, o.sum, o.kept.same_length, room, places_at, ap (λ x. x.statements) c.requires.h_value) in
    omega (arith, fits, c.loop-m.invariant.1.kept.same_length, c.requires.laid.0.few)

pub loop-m-preserved : goal.loop-m-preserved
unfolding statements_of sizes
loop-m-preserved c =
    let places_at : get_or c.args.tables.now 3 0 ≡ start_of c.args.h at_statements = c.requires.laid.0.starts 3 (omega arith) in
    let spot : get_or c.args.tables.now 2 0 + c.loop-m.m ≡ start_of c.args.h at_first_statements + c.loop-m.m = ap (λ b. b + c.loop-m.m) (c.requires.laid.0.starts 2 (omega arith)) in
    let kept : Kept (start_of c.args.h at_statements + c.loop-m.first) c.loop-m.tables c.module_statements.new.tables = rw places_at at c.module_statements.ensures.2 in
    let this : many (statement_at c.args.h c.import_record_count-imports.result c.args.numbers.now) following c.module_number-count.result 0 c.loop-m.q
    ≡ module_statements c.args.h (modules_in c.args.numbers.now) c.args.numbers.now c.loop-m.m c.loop-m.q = as_module _ _ _ _ _ _ _ c.module_number-count.ensures c.import_record_count-imports.ensures in
    let places_at : get_or c.args.tables.now 3 0 ≡ start_of c.args.h at_statements = c.requires.laid.0.starts 3 (omega arith) in
    let room : start_of c.args.h at_statements + c.args.h.statements ≤ length c.args.tables.now = ends_inside c.requires.laid.0 3 (omega arith) in
    let in-header : c.loop-m.m < (header_in c.args.numbers.now).modules = rw (sym c.requires.h_value) c.loop-m-test.true in
    let i = c.loop-m.invariant in
    let t = at_got _ _ (sym (ap walk_of this) ∙ sym c.module_statements.ensures.0 ∙ c.in_ok-next.was) in
    let few : c.loop-m.m < length (modules_in c.args.numbers.now) = omega (arith, modules_long _ _ c.requires.laid.1, in-header) in
    let placed = rw (this ∙ t.1, places_at) at c.module_statements.ensures.1 in
    (i.0 ++ (t.0 ∷ []), outer-step i.1 c.loop-m-test.true (omega (arith, room)) kept spot few t.1 c.module_number-count.ensures placed)

pub returns : goal.returns
returns c = let fit : (j : ℕ) → first_of (modules_in c.args.numbers.now) j ≤ c.args.h.statements = rw c.requires.h_value (first_fits _ _ c.requires.laid.1) in
    outer-end c.loop-m.invariant.1 c.requires.laid.0 fit (omega (arith, modules_long _ _ c.requires.laid.1, ap (λ x. x.modules) c.requires.h_value)) c.loop-m-test.false
