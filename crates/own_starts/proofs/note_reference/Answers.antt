use Rattle.own_starts.proofs.Noting.{notes_none, notes_then, notes_as, noted_on}
use Rattle.entry_starts.proofs.Referring.{reference_none, reference_is}
use Rattle.facts.specs.graph_crate.Check.{graph_in}
use native.Mathlib.Omega.{arith}
use mathlib.Core.Path.{◌∙◌, sym}
use Rattle.own_starts.proofs.note_reference.Goals as goal

pub owner-owner-requires : goal.owner-owner-requires
owner-owner-requires c = record { loaded = c.requires.prepared.loaded; s_bound = c.requires.s_bound }

pub is_normal-requires : goal.is_normal-requires
is_normal-requires c = record { loaded = c.requires.prepared.loaded; m_bound = c.owner-owner.ensures.1 }

pub returns-then-not-is_normal : goal.returns-then-not-is_normal
returns-then-not-is_normal c = notes_none _ _ (reference_none _ _ _ c.owner-owner.ensures.0 (sym c.is_normal.ensures ∙ c.if-not-is_normal.true)) _ _ _

pub note_declaring_statements-total-requires : goal.note_declaring_statements-total-requires
note_declaring_statements-total-requires c = record { prepared = c.requires.prepared; noted = c.requires.noted; s_bound = c.requires.s_bound }

pub note-requires : goal.note-requires
unfolding graph_in
note-requires c = record { prepared = c.requires.prepared; noted = noted_on _ _ _ _ _ _ _ _ c.requires.noted c.note_declaring_statements-total.ensures; good = (c.requires.s_bound, omega arith, omega arith) }

pub returns : goal.returns
returns c = notes_as _ _ _ (reference_is _ _ _ c.owner-owner.ensures.0 (sym c.is_normal.ensures ∙ c.if-not-is_normal.false)) _ _ _ _ _ _ (notes_then _ _ _ _ _ _ _ _ _ _ _ _ c.note_declaring_statements-total.ensures c.note.ensures)
