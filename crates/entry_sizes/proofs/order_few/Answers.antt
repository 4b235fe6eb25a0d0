use Rattle.entry_sizes.proofs.Splitting.{all_users}
use Rattle.entry_sizes.proofs.Outcome.{full_done}
use Rattle.entry_sizes.proofs.order_few.Goals as goal

pub returns-then-users-h : goal.returns-then-users-h
returns-then-users-h c = all_users _ _ _ c.split_with-users.ensures _ c.requires.h_value.0 c.if-users-h.true

pub returns : goal.returns
returns c = full_done _ _ _ _ _ _ c.requires.h_value.1 c.order_with.ensures
