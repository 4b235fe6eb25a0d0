use Rattle.tree_shaking.proofs.Lives.{by_modules, by_lines, by_live}
use Rattle.dynamic_entries.specs.Tries.{progress_in}
use Prim.Native.Nat.{ℕ}
use mathlib.Core.Path.{ap}
use lib.Dec.{ltb}
use Rattle.keep_record.proofs.Rows.{lines-length}
use Rattle.tree_shaking.proofs.goes_on.Goals as goal

pub returns-then-not-option : goal.returns-then-not-option
unfolding progress_in
returns-then-not-option c = by_modules _ _ _ _ _ _ c.option.ensures (c.if-not-option.true) c.has_module.ensures

pub returns-then-from-to : goal.returns-then-from-to
unfolding progress_in
returns-then-from-to c = by_lines _ _ _ _ _ c.option.ensures (c.if-not-option.false) (rw (lines-length _ _) c.if-from-to.true)

pub returns : goal.returns
unfolding progress_in
returns c = by_live _ _ _ _ _ _ c.option.ensures (c.if-not-option.false) (rw (lines-length _ _) c.if-from-to.false) (ap (λ (k : ℕ). ltb c.args.live k) c.live_count.ensures)
