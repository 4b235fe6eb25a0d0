use mathlib.Core.Path.{sym}
use Rattle.entry_order.specs.Order.{module_of_entry}
use Rattle.entry_liveness.proofs.Related.{search_start, search_end, search-found, search-next, unused_is}
use native.Mathlib.Omega.{arith}
use Rattle.dead_records.proofs.is_alive.Goals as goal

pub entry_module-m-requires : goal.entry_module-m-requires
entry_module-m-requires c = record { loaded = c.requires.prepared.loaded; e_bound = c.requires.e_bound.0 }

pub flags-requires : goal.flags-requires
flags-requires c = record { loaded = c.requires.prepared.loaded; m_bound = c.entry_module-m.ensures.1 }

pub related_count-count-requires : goal.related_count-count-requires
related_count-count-requires c = record { loaded = c.requires.prepared.loaded; e_bound = c.requires.e_bound.0 }

pub loop-k-init : goal.loop-k-init
loop-k-init c =
    (search_start _ _ _ _)

pub lets_live-requires : goal.lets_live-requires
unfolding module_of_entry
lets_live-requires c = record { prepared = c.requires.prepared; e_bound = (c.requires.e_bound.0, omega (arith, c.loop-k-test.true, c.related_count-count.ensures), c.requires.e_bound.1); unused_value = unused_is _ _ _ _ _ c.flag-unused.ensures c.flags.ensures c.entry_module-m.ensures.0 }

pub returns-then-lets_live : goal.returns-then-lets_live
returns-then-lets_live c =
    sym (search-found _ _ _ _ _ c.loop-k.invariant _ c.related_count-count.ensures c.loop-k-test.true _ c.lets_live.ensures c.if-lets_live.true)

pub loop-k-preserved : goal.loop-k-preserved
loop-k-preserved c =
    (search-next _ _ _ _ _ c.loop-k.invariant _ c.related_count-count.ensures c.loop-k-test.true _ c.lets_live.ensures c.if-lets_live.false)

pub returns : goal.returns
returns c =
    sym (search_end _ _ _ _ _ c.loop-k.invariant _ c.related_count-count.ensures (omega (arith, c.loop-k-test.false)))
