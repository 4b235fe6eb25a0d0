use Rattle.determine_side_effects.specs.graph_tables_crate.Tables.{header_in}
use Rattle.determine_side_effects.specs.graph_crate.Check.{graph_in}
use Rattle.entry_order.specs.Plan.{live_in}
use Rattle.dead_records.proofs.Clearing.{word_tells, no_dynamic, dynamic_live}
use Rattle.dead_records.proofs.is_live.Goals as goal

pub returns-then-entry_kind-ne2 : goal.returns-then-entry_kind-ne2
returns-then-entry_kind-ne2 c = no_dynamic _ (live_in (header_in c.args.numbers.now) c.args.plan.now) _ _ c.entry_kind.ensures.0 c.if-entry_kind-ne2.true

pub returns : goal.returns
unfolding graph_in
returns c =
    dynamic_live _ (live_in (header_in c.args.numbers.now) c.args.plan.now) _ _ c.entry_kind.ensures.0 c.if-entry_kind-ne2.false _ c.entry_module-m.ensures.0 _
    (word_tells _ c.args.plan.now _ c.header_of-h.ensures _ c.live_at-live.ensures _ c.entry_module-m.ensures.1)
