use Rattle.own_starts.proofs.Noting.{notes_then, noted_on}
use Rattle.tree_shaking.specs.Own.{starts_by_kind}
use Rattle.facts.specs.graph_crate.Check.{graph_in}
use Rattle.own_starts.proofs.note_all.Goals as goal

pub note_cjs_bailout_exports-bailouts-requires : goal.note_cjs_bailout_exports-bailouts-requires
note_cjs_bailout_exports-bailouts-requires c = record { prepared = c.requires.prepared; noted = noted_on _ _ _ _ _ _ _ _ c.requires.noted.0 c.note_user_entries-users.ensures; count_in_bounds = c.requires.taken_in_bounds }

pub note_live_modules-requires : goal.note_live_modules-requires
unfolding graph_in
note_live_modules-requires c = record { prepared = c.requires.prepared; noted = (noted_on _ _ _ _ _ _ _ _ (noted_on _ _ _ _ _ _ _ _ c.requires.noted.0 c.note_user_entries-users.ensures) c.note_cjs_bailout_exports-bailouts.ensures, c.requires.noted.1.long) }

pub returns : goal.returns
unfolding starts_by_kind graph_in
returns c = notes_then _ _ _ _ _ _ _ _ _ _ _ _ c.note_user_entries-users.ensures (notes_then _ _ _ _ _ _ _ _ _ _ _ _ c.note_cjs_bailout_exports-bailouts.ensures c.note_live_modules.ensures)
