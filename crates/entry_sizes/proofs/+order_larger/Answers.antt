use Rattle.entry_sizes.proofs.Tiers.{within}
use Rattle.entry_sizes.proofs.Splitting.{all_users}
use Rattle.entry_sizes.proofs.Outcome.{orders_ready, full_done}
use Rattle.entry_sizes.proofs.+order_larger.Goals as goal

pub returns-then-users-h : goal.returns-then-users-h
returns-then-users-h t c = all_users _ _ _ c.split_with-users.ensures _ c.requires.h_value.0 c.if-users-h.true

pub order_with-requires-clause-numbers_bound : goal.order_with-requires-clause-numbers_bound
order_with-requires-clause-numbers_bound t c = within _ _ c.requires.h_value.0 _ _ c.is_within.ensures c.if-is_within.true

pub returns-then-is_within : goal.returns-then-is_within
returns-then-is_within t c =
    let w = within _ _ c.requires.h_value.0 _ _ c.is_within.ensures c.if-is_within.true in
    full_done _ _ _ _ _ _ w.0 c.order_with.ensures

pub order_with-requires-in-Full-clause-parted : goal.order_with-requires-in-Full-clause-parted
order_with-requires-in-Full-clause-parted t c = orders_ready _ _ _ _ _ _ c.order_with-2.ensures c.in-Full.is c.split_with-users.ensures

pub returns-in-Done : goal.returns-in-Done
returns-in-Done t c = c.order_with-2.ensures.done c.in-Done.is

pub returns-in-Full : goal.returns-in-Full
returns-in-Full t c = full_done _ _ _ _ _ _ c.requires.loaded.few_modules c.order_with-in-Full.ensures
