use borrow.Author.Tests.{lt-leb, le-leb}
use Rattle.entry_sizes.proofs.is_within.Goals as goal

pub returns-then-h-limit : goal.returns-then-h-limit
returns-then-h-limit c = rw (lt-leb _ _ c.if-h-limit.true)

pub returns : goal.returns
returns c = rw (le-leb _ _ c.if-h-limit.false)
