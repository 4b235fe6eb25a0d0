use mathlib.Core.Path.{◌∙◌}
use Rattle.worklist.proofs.Draining.{start_writable, start_full, start-more, start-linked, start-done}
use mathlib.Core.Path.{refl}
use Rattle.determine_side_effects.proofs.refusal_crate.Exits.{passed_on}
use Rattle.worklist.proofs.start.Goals as goal

pub add-requires : goal.add-requires
add-requires c = record { loaded = c.requires.prepared.loaded; held = c.requires.held; writable = start_writable _ _ _ c.requires.good }

pub drain_work_items-requires : goal.drain_work_items-requires
drain_work_items-requires c = let w = rw c.in_ok-n.was at c.add.ensures in record { prepared = c.requires.prepared; held = (w.held _ refl).1; linked = start-linked _ _ _ _ _ _ _ _ w _ c.requires.linked; base_le_k = (c.requires.held.base_inside, start-more _ _ _ _ _ _ _ _ w) }

pub returns-in_err-n : goal.returns-in_err-n
returns-in_err-n c = rw (passed_on c.from_residual.result _ c.from_residual.ensures.1) (start_full _ _ _ _ _ _ _ _ _ (rw c.in_err-n.was at c.add.ensures))

pub returns : goal.returns
returns c = start-done _ _ _ _ _ _ _ _ (rw c.in_ok-n.was at c.add.ensures) _ _ _ _ _ c.drain_work_items.ensures
