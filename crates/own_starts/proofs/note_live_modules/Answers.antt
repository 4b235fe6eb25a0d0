use Rattle.own_starts.proofs.Noting.{along_start, along_step, along_as, along_same, along_done}
use Rattle.own_starts.proofs.Live.{lives_all, lives-over, lives-here, lives-other, modules_same, entries_same}
use mathlib.Core.Path.{refl, ap, ◌∙◌}
use lib.ListN.{length}
use native.Mathlib.Omega.{arith}
use Rattle.own_starts.proofs.note_live_modules.Goals as goal
use Rattle.own_starts.proofs.note_live_modules.Goals.{else-plan-live-eq1, then-plan-live-eq1}

pub header_of-h-requires : goal.header_of-h-requires
header_of-h-requires c = c.requires.prepared.loaded.long

pub live_at-live-requires : goal.live_at-live-requires
live_at-live-requires c = let t = c.requires.prepared.loaded in rw c.header_of-h.ensures (omega (arith, t.few_modules, t.few_entries))

pub loop-m-init : goal.loop-m-init
loop-m-init c = (refl, refl, omega arith, along_start _ _ _ _ _ _ (lives_all _ _ _) c.requires.noted.0)

pub overflow_add-live : goal.overflow_add-live
overflow_add-live c = let t = c.requires.prepared.loaded in let is = c.header_of-h.ensures in record { fits = omega (arith, c.loop-m-test.true, c.live_at-live.ensures, modules_same is, entries_same is, t.few_modules, t.few_entries) }

pub offset_bounds-plan-live : goal.offset_bounds-plan-live
offset_bounds-plan-live c = let t = c.requires.prepared.loaded in let is = c.header_of-h.ensures in record { fits = omega (arith, c.loop-m-test.true, c.live_at-live.ensures, modules_same is, entries_same is, t.few_modules, t.few_entries) }

pub bounds-plan-live : goal.bounds-plan-live
bounds-plan-live c = let is = c.header_of-h.ensures in omega (arith, c.loop-m-test.true, c.live_at-live.ensures, modules_same is, entries_same is, c.requires.noted.1)

pub note_entry-total-requires : goal.note_entry-total-requires
note_entry-total-requires c = record { prepared = c.requires.prepared; noted = c.loop-m.invariant.3.noted; m_bound = omega (arith, c.loop-m-test.true, modules_same c.header_of-h.ensures) }

pub loop-m-preserved : goal.loop-m-preserved
loop-m-preserved c = let v = c.loop-m.invariant in let inside = c.loop-m-test.true in let live = c.live_at-live.ensures in let is = c.header_of-h.ensures in elim c.if-plan-live-eq1.branch [ then-plan-live-eq1 w ↦ (ap length w.seen-is ∙ w.note_entry-total.auto.seen ∙ v.0, ap length w.out-is ∙ w.note_entry-total.auto.out ∙ v.1, omega (arith, inside), along_same _ _ _ _ _ _ _ _ _ (along_step _ _ _ _ _ _ _ _ _ _ _ (lives-here _ _ _ _ is _ inside (rw live at w.if-plan-live-eq1.true)) v.3 _ _ _ w.note_entry-total.ensures) w.seen-is w.out-is w.total-is) | else-plan-live-eq1 w ↦ (ap length w.seen-is ∙ v.0, ap length w.out-is ∙ v.1, omega (arith, inside), along_same _ _ _ _ _ _ _ _ _ (along_as _ _ _ _ _ _ _ _ _ _ (lives-other _ _ _ _ is _ inside (rw live at w.if-plan-live-eq1.false)) v.3) w.seen-is w.out-is w.total-is) ]

pub returns : goal.returns
returns c = along_done _ _ _ _ _ _ _ _ _ (lives-over _ _ _ _ c.header_of-h.ensures _ c.loop-m-test.false) c.loop-m.invariant.3
