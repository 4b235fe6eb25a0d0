use mathlib.Core.Path.{◌∙◌, sym}
use Rattle.entry_graph.proofs.Imports.{ask_unresolved, ask-plain, ask-root, ask-edge}
use Rattle.entry_graph.proofs.read_record.Goals as goal

pub returns-then-target-eq0 : goal.returns-then-target-eq0
returns-then-target-eq0 c = ask_unresolved _ _ _ _ c.import_record_target-target.ensures.0 c.if-target-eq0.true

pub returns-then-import_record_kind-ne2 : goal.returns-then-import_record_kind-ne2
returns-then-import_record_kind-ne2 c = ask-plain _ _ _ _ c.import_record_target-target.ensures.0 c.if-target-eq0.false c.import_record_target-target.ensures.1 (λ q. c.if-import_record_kind-ne2.true (c.import_record_kind.ensures ∙ q))

pub returns-then-root-t : goal.returns-then-root-t
returns-then-root-t c = ask-root _ _ _ _ c.import_record_target-target.ensures.0 c.if-target-eq0.false c.import_record_target-target.ensures.1 (sym c.import_record_kind.ensures ∙ c.if-import_record_kind-ne2.false) c.if-root-t.true

pub returns : goal.returns
returns c = ask-edge _ _ _ _ c.import_record_target-target.ensures.0 c.if-target-eq0.false c.import_record_target-target.ensures.1 (sym c.import_record_kind.ensures ∙ c.if-import_record_kind-ne2.false) c.if-root-t.false
