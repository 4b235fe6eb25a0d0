use mathlib.Core.Path.{ap, ◌∙◌}
use Prim.Native.Nat.{ℕ}
use Rattle.bit_row.specs.Row.{bit_at}
use Rattle.marked.specs.Marked.{marked}
use Rattle.marked.proofs.is_marked.Goals as goal

pub returns : goal.returns
unfolding marked
returns c = c.test.ensures ∙ ap (λ (i : ℕ). bit_at c.args.marks.now i) c.mark_of.ensures.0
