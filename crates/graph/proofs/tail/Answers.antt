-- the layout, once the statements are read
use mathlib.Core.Path.{refl, ◌∙◌, sym}
use native.Mathlib.Omega.{arith}
use Rattle.graph_entries.specs.tables_crate.Layout.{Laid, at_verdicts}
use Rattle.graph_entries.proofs.tables_crate.Sections.{laid_kept, kept_then}
use Rattle.graph_entries.proofs.graph_tables_crate.Sections.{modules_kept}
use Rattle.graph.proofs.Loading.{once_fault, end_is, statements_part, tail_stop, tail_go, statement-table, entry-table}
use Rattle.graph.proofs.Kept.{statements_kept}
use Rattle.graph_entries.proofs.refusal_crate.Exits.{passed_on}
use Rattle.graph.proofs.tail.Goals as goal

pub statements-requires : goal.statements-requires
statements-requires c = record { laid = c.requires.laid; h_value = c.requires.h_value.0 }

pub entries-requires : goal.entries-requires
entries-requires c =
    let laid : Laid c.args.h at_verdicts c.statements.new.tables = laid_kept c.requires.laid.0 2 (omega arith) c.statements.ensures.2 in
    record { laid = (laid, modules_kept c.requires.laid.0 2 (omega arith) (omega arith) c.statements.ensures.2 c.requires.laid.1 refl); h_value = c.requires.h_value.0 }

pub returns-in_err-q : goal.returns-in_err-q
returns-in_err-q c = rw (passed_on c.from_residual.result _ c.from_residual.ensures.1) ((sym (tail_stop _ _ c.requires.h_value.0 _ (sym c.statements.ensures.0 ∙ c.in_err-q.was)), once_fault _, c.statements.ensures.2))

pub returns : goal.returns
returns c =
    let laid : Laid c.args.h at_verdicts c.statements.new.tables = laid_kept c.requires.laid.0 2 (omega arith) c.statements.ensures.2 in
    let p = c.requires.h_value in
    let e = sym c.statements.ensures.0 ∙ c.in_ok-q.was in
    let z = sym (end_is _ (rw (statements_part _ _ p.0 _ p.1) at e)) in
    let t = laid in
    let k = c.entries.ensures.2 in (
      c.entries.ensures.0 ∙ sym (tail_go _ _ p.0 _ e),
      record { known = λ q f. (statements_kept t 4 (omega arith) k (omega arith) (statement-table _ _ p.0 _ t _ _ p.1 e c.statements.ensures.1), entry-table _ _ p.0 _ (laid_kept t 4 (omega arith) k) _ _ z (sym c.entries.ensures.0 ∙ f) c.entries.ensures.1) },
      kept_then c.args.h 2 4 (omega arith) c.statements.ensures.2 k,
    )
