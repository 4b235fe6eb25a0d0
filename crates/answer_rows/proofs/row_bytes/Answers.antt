use Rattle.answer_rows.proofs.InRow.{modules_bytes, statements_bytes, used_bytes, external_bytes, json_bytes, reasons_bytes}
use Rattle.bit_row.specs.Row.{bytes_for}
use Rattle.determine_side_effects.specs.graph_format_crate.declared.Header.{Header}
use Rattle.determine_side_effects.specs.graph_crate.Check.{graph_in}
use mathlib.Core.Path.{ap, ◌∙◌, sym}
use Rattle.answer_rows.proofs.row_bytes.Goals as goal

pub returns-in-Modules : goal.returns-in-Modules
unfolding graph_in
returns-in-Modules c = c.bytes_for.ensures ∙ ap (λ (h : Header). bytes_for h.modules) c.header_of-h.ensures ∙ sym (modules_bytes _ _ c.in-Modules.is)

pub returns-in-Statements : goal.returns-in-Statements
returns-in-Statements c = c.statement_bytes.ensures ∙ sym (statements_bytes _ _ c.in-Statements.is)

pub returns-in-Used : goal.returns-in-Used
unfolding graph_in
returns-in-Used c = c.bytes_for-in-Used.ensures ∙ ap (λ (h : Header). bytes_for h.symbols) c.header_of-h.ensures ∙ sym (used_bytes _ _ c.in-Used.is)

pub returns-in-External : goal.returns-in-External
unfolding graph_in
returns-in-External c = c.bytes_for-in-External.ensures ∙ ap (λ (h : Header). bytes_for h.symbols) c.header_of-h.ensures ∙ sym (external_bytes _ _ c.in-External.is)

pub returns-in-Json : goal.returns-in-Json
unfolding graph_in
returns-in-Json c = c.bytes_for-in-Json.ensures ∙ ap (λ (h : Header). bytes_for h.symbols) c.header_of-h.ensures ∙ sym (json_bytes _ _ c.in-Json.is)

pub returns-in-NamespaceReason : goal.returns-in-NamespaceReason
unfolding graph_in
returns-in-NamespaceReason c = ap (λ (h : Header). h.modules) c.header_of-h.ensures ∙ sym (reasons_bytes _ _ c.in-NamespaceReason.is)
