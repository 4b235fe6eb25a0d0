use Rattle.own_starts.proofs.Noting.{along_start, along_step, along_last, notes_none}
use Rattle.entry_starts.proofs.Referring.{module_none, referred_whole, referred_over, referred_next}
use Rattle.facts.specs.graph_crate.Check.{graph_in}
use mathlib.Core.Path.{refl, ◌∙◌, sym}
use native.Mathlib.Omega.{arith}
use Rattle.own_starts.proofs.note_entry.Goals as goal

pub is_normal-requires : goal.is_normal-requires
is_normal-requires c = record { loaded = c.requires.prepared.loaded; m_bound = c.requires.m_bound }

pub returns-then-not-is_normal : goal.returns-then-not-is_normal
returns-then-not-is_normal c = notes_none _ _ (module_none _ _ (sym c.is_normal.ensures ∙ c.if-not-is_normal.true)) _ _ _

pub entry_reference_count-references-requires : goal.entry_reference_count-references-requires
entry_reference_count-references-requires c = record { loaded = c.requires.prepared.loaded; m_bound = c.requires.m_bound }

pub loop-k-init : goal.loop-k-init
loop-k-init c = (refl, refl, omega arith, along_start _ _ _ _ _ _ (referred_whole _ _ _ c.entry_reference_count-references.ensures.0 (sym c.is_normal.ensures ∙ c.if-not-is_normal.false)) c.requires.noted)

pub entry_reference-s-requires : goal.entry_reference-s-requires
entry_reference-s-requires c = record { loaded = c.requires.prepared.loaded; m_bound = (c.requires.m_bound, omega (arith, c.loop-k-test.true, c.entry_reference_count-references.ensures.0)) }

pub note_reference-total-requires : goal.note_reference-total-requires
note_reference-total-requires c = record { prepared = c.requires.prepared; noted = c.loop-k.invariant.3.noted; s_bound = c.entry_reference-s.ensures.1 }

pub loop-k-preserved : goal.loop-k-preserved
loop-k-preserved c = let w = c.loop-k.invariant in let t = c.note_reference-total in (t.auto.seen ∙ w.0, t.auto.out ∙ w.1, omega (arith, c.loop-k-test.true), along_step _ _ _ _ _ _ _ _ _ _ _ (referred_next _ _ _ c.entry_reference_count-references.ensures.0 _ c.loop-k-test.true _ c.entry_reference-s.ensures.0) w.3 _ _ _ t.ensures)

pub note-requires : goal.note-requires
unfolding graph_in
note-requires c = record { prepared = c.requires.prepared; noted = c.loop-k.invariant.3.noted; good = (c.requires.m_bound, (sym c.is_normal.ensures ∙ c.if-not-is_normal.false)) }

pub returns : goal.returns
returns c = along_last _ _ _ _ _ _ _ _ _ _ (referred_over _ _ _ c.entry_reference_count-references.ensures.0 _ c.loop-k-test.false) c.loop-k.invariant.3 _ _ _ c.note.ensures
