use native.Mathlib.Omega.{arith}
use Rattle.dynamic_entries.proofs.Firsts.{begins, ends, turn-entry, turn-words, turn_room, turn-here, turn-not}
use Rattle.dynamic_entries.proofs.take_first.Goals as goal
use Rattle.dynamic_entries.proofs.take_first.Goals.{else-goes_first, then-goes_first}

pub cycled_at-at-requires : goal.cycled_at-at-requires
cycled_at-at-requires c = rw c.header_of-h.ensures (omega (arith, c.requires.loaded.few_entries, c.requires.loaded.few_modules))

pub loop-i-init : goal.loop-i-init
loop-i-init c = begins _ _ _ _ _ c.requires.parted _ c.header_of-h.ensures

pub bounds-plan-i : goal.bounds-plan-i
bounds-plan-i c = (turn-entry _ _ _ _ _ c.requires.parted _ c.header_of-h.ensures _ _ _ c.loop-i.invariant c.loop-i-test.true).0

pub entry_module-m-requires-clause-e_bound : goal.entry_module-m-requires-clause-e_bound
entry_module-m-requires-clause-e_bound c = (turn-entry _ _ _ _ _ c.requires.parted _ c.header_of-h.ensures _ _ _ c.loop-i.invariant c.loop-i-test.true).1

pub goes_first-requires : goal.goes_first-requires
goes_first-requires c = rw c.cycled_at-at.ensures (turn-words _ _ _ _ _ c.requires.parted _ c.header_of-h.ensures _ _ _ c.loop-i.invariant c.loop-i-test.true _ c.entry_module-m.ensures)

pub narrow-requires : goal.narrow-requires
narrow-requires c =
    let t = (turn-entry _ _ _ _ _ c.requires.parted _ c.header_of-h.ensures _ _ _ c.loop-i.invariant c.loop-i-test.true).1 in
    omega (arith, t, c.requires.loaded.few_entries)

pub bounds-list-n : goal.bounds-list-n
bounds-list-n c =
    turn_room _ _ _ _ _ c.requires.parted _ c.header_of-h.ensures _ _ _ c.loop-i.invariant c.loop-i-test.true _ c.entry_module-m.ensures _ (rw c.cycled_at-at.ensures at c.goes_first.ensures) c.if-goes_first.true

pub loop-i-preserved : goal.loop-i-preserved
loop-i-preserved c =
    let i = c.loop-i.invariant in
    let l = c.loop-i-test.true in
    let o = c.entry_module-m.ensures in
    let e = rw c.cycled_at-at.ensures at c.goes_first.ensures in
    let h = c.header_of-h.ensures in
    elim c.if-goes_first.branch [
      | then-goes_first w ↦ rw (w.list-is, w.n-is) (turn-here _ _ _ _ _ c.requires.parted _ h _ _ _ i l _ o _ e w.if-goes_first.true _ w.narrow.ensures)
      | else-goes_first w ↦ rw (w.list-is, w.n-is) (turn-not _ _ _ _ _ c.requires.parted _ h _ _ _ i l _ o _ e w.if-goes_first.false)
    ]

pub returns : goal.returns
returns c = ends _ _ _ _ _ c.requires.parted _ c.header_of-h.ensures _ _ _ c.loop-i.invariant c.loop-i-test.false
