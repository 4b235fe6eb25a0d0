-- where the helpers end
use Prim.Native.Nat.{◌+◌}
use mathlib.Core.Path.{◌≡◌, refl, ◌∙◌, sym}
use native.Mathlib.Omega.{arith}
use Rattle.graph_entries.specs.tables_crate.Layout.{module_places, Laid, at_verdicts}
use Rattle.graph_entries.proofs.tables_crate.Sections.{laid_kept, kept_none, kept_then}
use Rattle.graph_entries.specs.graph_tables_crate.Places.{ModuleTable}
use Rattle.graph_entries.proofs.graph_tables_crate.Sections.{modules_kept}
use Rattle.graph.proofs.Loading.{once_fault, once_places, end_is, helpers_end, modules_part, module-table, graph_stop_helpers, graph_stop_modules, graph_go}
use Rattle.graph_entries.proofs.refusal_crate.Exits.{passed_on}
use Rattle.graph.proofs.parts.Goals as goal

pub modules-requires : goal.modules-requires
modules-requires c = record { laid = c.requires.laid; symbols_bound = (c.requires.h_value.2, c.requires.h_value.1, c.requires.h_value.3) }

pub body-requires : goal.body-requires
body-requires c =
    let helped : c.in_ok-a.a ≡ 7 + c.args.h.helpers = helpers_end _ _ c.requires.h_value.0 (sym c.plain_rows.ensures ∙ c.in_ok-a.was) in
    let laid : Laid c.args.h at_verdicts c.modules.new.tables = laid_kept c.requires.laid 0 (omega arith) c.modules.ensures.2 in
    let table : ModuleTable c.args.numbers.now (module_places c.modules.new.tables) = module-table _ _ c.requires.h_value.0 _ laid _ _ helped (sym c.modules.ensures.0 ∙ c.in_ok-b.was) c.modules.ensures.1 in
    let p = c.requires.h_value in
    let e = sym c.modules.ensures.0 ∙ c.in_ok-b.was in
    let z = sym (end_is _ (rw (modules_part _ _ p.0 _ helped) at e)) in record { laid = (laid, table); h_value = (p.0, z, p.2) }

pub returns-in_err-a : goal.returns-in_err-a
returns-in_err-a c = rw (passed_on c.from_residual.result _ c.from_residual.ensures.1) ((sym (graph_stop_helpers _ _ c.requires.h_value.0 (sym c.plain_rows.ensures ∙ c.in_err-a.was)), once_fault _, kept_none))

pub returns-in_err-b : goal.returns-in_err-b
returns-in_err-b c = rw (passed_on c.from_residual-in_err-b.result _ c.from_residual-in_err-b.ensures.1) ((sym (graph_stop_modules _ _ c.requires.h_value.0 (sym c.plain_rows.ensures ∙ c.in_ok-a.was) (sym c.modules.ensures.0 ∙ c.in_err-b.was)), once_fault _, c.modules.ensures.2))

pub returns : goal.returns
returns c =
    let helped : c.in_ok-a.a ≡ 7 + c.args.h.helpers = helpers_end _ _ c.requires.h_value.0 (sym c.plain_rows.ensures ∙ c.in_ok-a.was) in
    let laid : Laid c.args.h at_verdicts c.modules.new.tables = laid_kept c.requires.laid 0 (omega arith) c.modules.ensures.2 in
    let table : ModuleTable c.args.numbers.now (module_places c.modules.new.tables) = module-table _ _ c.requires.h_value.0 _ laid _ _ helped (sym c.modules.ensures.0 ∙ c.in_ok-b.was) c.modules.ensures.1 in
    let k = c.body.ensures.2 in (
      c.body.ensures.0 ∙ sym (graph_go _ _ c.requires.h_value.0 (sym c.plain_rows.ensures ∙ c.in_ok-a.was) (sym c.modules.ensures.0 ∙ c.in_ok-b.was)),
      once_places (modules_kept laid 1 (omega arith) (omega arith) k table refl) c.body.ensures.1,
      kept_then c.args.h 0 1 (omega arith) c.modules.ensures.2 k,
    )
