use Rattle.line_judgement.proofs.Judging.{Going}
use Rattle.starts.specs.Starts.{starts_of}
use mathlib.Core.Path.{◌≡◌}
use lib.ListN.{length}
use Rattle.line_judgement.proofs.judge_lines.Given as goal

abbrev pub invariant-loop-k : goal.invariant-loop-k
invariant-loop-k l = Going l.numbers (starts_of l.starts) l.lines l.marks l.k l.trail × (length l.marks ≡ length l.initial.marks)
