use Rattle.own_starts.proofs.Noting.{notes_none, notes_then, notes_as, noted_on}
use Rattle.entry_starts.proofs.Referring.{user_none, user_is}
use Rattle.facts.specs.graph_crate.Check.{graph_in}
use mathlib.Core.Path.{◌∙◌, sym}
use Rattle.own_starts.proofs.note_user_entry.Goals as goal

pub is_normal-requires : goal.is_normal-requires
is_normal-requires c = record { loaded = c.requires.prepared.loaded; m_bound = c.requires.m_bound }

pub returns-then-not-is_normal : goal.returns-then-not-is_normal
returns-then-not-is_normal c = notes_none _ _ (user_none _ _ (sym c.is_normal.ensures ∙ c.if-not-is_normal.true)) _ _ _

pub note-total-requires : goal.note-total-requires
unfolding graph_in
note-total-requires c = record { prepared = c.requires.prepared; noted = c.requires.noted; good = c.requires.m_bound }

pub note_entry-requires : goal.note_entry-requires
note_entry-requires c = record { prepared = c.requires.prepared; noted = noted_on _ _ _ _ _ _ _ _ c.requires.noted c.note-total.ensures; m_bound = c.requires.m_bound }

pub returns : goal.returns
returns c = notes_as _ _ _ (user_is _ _ (sym c.is_normal.ensures ∙ c.if-not-is_normal.false)) _ _ _ _ _ _ (notes_then _ _ _ _ _ _ _ _ _ _ _ _ c.note-total.ensures c.note_entry.ensures)
