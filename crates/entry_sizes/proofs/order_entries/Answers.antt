use Rattle.entry_sizes.proofs.Tiers.{within}
use Rattle.entry_sizes.proofs.Splitting.{all_cleared}
use Rattle.entry_sizes.proofs.order_entries.Goals as goal

pub order_few-requires-clause-h_value : goal.order_few-requires-clause-h_value
order_few-requires-clause-h_value c =
    let w = within _ _ c.header_of-h.ensures _ _ c.is_within.ensures c.if-is_within.true in
    (c.header_of-h.ensures, w.0, w.1)

pub order_few-requires-clause-cleared : goal.order_few-requires-clause-cleared
order_few-requires-clause-cleared c = all_cleared _ _ c.requires.numbers_in_bounds

pub order_larger-requires-clause-h_value : goal.order_larger-requires-clause-h_value
order_larger-requires-clause-h_value c = (c.header_of-h.ensures, all_cleared _ _ c.requires.numbers_in_bounds)
