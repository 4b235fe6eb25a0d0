-- the layout, once the symbols are read
use mathlib.Core.Path.{refl, ◌∙◌, sym}
use native.Mathlib.Omega.{arith}
use Rattle.graph_entries.specs.tables_crate.Layout.{Laid, at_verdicts}
use Rattle.graph_entries.proofs.tables_crate.Sections.{laid_kept, kept_then}
use Rattle.graph_entries.proofs.graph_tables_crate.Sections.{modules_kept}
use Rattle.graph.proofs.Loading.{once_fault, once_more, end_is, symbols_part, body_stop, body_go, symbol-table}
use Rattle.graph.proofs.Kept.{symbols_kept}
use Rattle.graph_entries.proofs.refusal_crate.Exits.{passed_on}
use Rattle.graph.proofs.body.Goals as goal

pub symbols-requires : goal.symbols-requires
symbols-requires c = record { laid = c.requires.laid; h_value = (c.requires.h_value.0, c.requires.h_value.2) }

pub tail-requires : goal.tail-requires
tail-requires c =
    let laid : Laid c.args.h at_verdicts c.symbols.new.tables = laid_kept c.requires.laid.0 1 (omega arith) c.symbols.ensures.2 in
    let e = sym c.symbols.ensures.0 ∙ c.in_ok-q.was in
    let z = sym (end_is _ (rw (symbols_part _ _ c.requires.h_value.0 _ c.requires.h_value.1) at e)) in record { laid = (laid, modules_kept c.requires.laid.0 1 (omega arith) (omega arith) c.symbols.ensures.2 c.requires.laid.1 refl); h_value = (c.requires.h_value.0, z) }

pub returns-in_err-q : goal.returns-in_err-q
returns-in_err-q c = rw (passed_on c.from_residual.result _ c.from_residual.ensures.1) ((sym (body_stop _ _ c.requires.h_value.0 _ (sym c.symbols.ensures.0 ∙ c.in_err-q.was)), once_fault _, c.symbols.ensures.2))

pub returns : goal.returns
returns c =
    let laid : Laid c.args.h at_verdicts c.symbols.new.tables = laid_kept c.requires.laid.0 1 (omega arith) c.symbols.ensures.2 in
    let p = c.requires.h_value in
    let e = sym c.symbols.ensures.0 ∙ c.in_ok-q.was in
    let t = laid in
    let k = c.tail.ensures.2 in (
      c.tail.ensures.0 ∙ sym (body_go _ _ p.0 _ e),
      once_more (symbols_kept t 2 (omega arith) k (omega arith) (symbol-table _ _ p.0 _ t _ _ p.1 e c.symbols.ensures.1)) c.tail.ensures.1,
      kept_then c.args.h 1 2 (omega arith) c.symbols.ensures.2 k,
    )
