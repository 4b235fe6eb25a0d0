use mathlib.Core.Path.{ap, ◌∙◌, sym}
use Rattle.graph_format.proofs.ReferenceParts.{parts_symbol, parts_none, parts_depended, parts_member}
use Rattle.rows.specs.Walk.{walk_of, plain_row, columns_of}
use Rattle.graph_format.proofs.parts.Goals as goal

pub returns-then-kind-eq0 : goal.returns-then-kind-eq0
unfolding columns_of plain_row
returns-then-kind-eq0 c = c.row.ensures ∙ sym (ap walk_of (parts_symbol _ _ _ _ c.if-kind-eq0.true))

pub returns-then-kind-eq1 : goal.returns-then-kind-eq1
unfolding walk_of
returns-then-kind-eq1 c = sym (ap walk_of (parts_none _ _ _ _ c.if-kind-eq0.false c.if-kind-eq1.true))

pub returns-then-kind-eq2 : goal.returns-then-kind-eq2
returns-then-kind-eq2 c = c.depended.ensures ∙ sym (ap walk_of (parts_depended _ _ _ _ c.if-kind-eq0.false c.if-kind-eq1.false c.if-kind-eq2.true))

pub returns : goal.returns
returns c = c.member.ensures ∙ sym (ap walk_of (parts_member _ _ _ _ c.if-kind-eq0.false c.if-kind-eq1.false c.if-kind-eq2.false))
