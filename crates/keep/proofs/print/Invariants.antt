-- `print` has written the first `skip` bytes of the text.
use Rattle.std.proofs.Common.{◌++◌, ◌-◌, ◌≤◌, length, take}
use Rattle.std.specs.Io.KnownBytes.{Appends}
use Rattle.answer_text.specs.Program.{file_text}
use Rattle.keep.proofs.print.Given as goal

abbrev pub invariant-loop-count : goal.invariant-loop-count
invariant-loop-count g l =
    let text = file_text (l.front ++ l.behind) in
    (l.skip ≤ length text) × Appends (g.W.Write.contents l.initial.writer) (g.W.Write.contents l.writer) (take l.skip text)

abbrev pub decreases-loop-count : goal.decreases-loop-count
decreases-loop-count g l = length (file_text (l.front ++ l.behind)) - l.skip
