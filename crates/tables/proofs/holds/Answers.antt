use mathlib.Core.Bool.{false≢true}
use Rattle.tables.proofs.holds.Goals as goal

pub returns-then-h-few : goal.returns-then-h-few
returns-then-h-few c = λ e. absurd (false≢true e)

pub returns-then-h-many : goal.returns-then-h-many
returns-then-h-many c = λ e. absurd (false≢true e)

pub returns-then-h-many-2 : goal.returns-then-h-many-2
returns-then-h-many-2 c = λ e. absurd (false≢true e)
