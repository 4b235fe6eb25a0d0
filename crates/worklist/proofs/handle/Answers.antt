use mathlib.Core.Path.{◌∙◌}
use Rattle.determine_side_effects.specs.graph_crate.Check.{graph_in}
use Rattle.determine_side_effects.specs.Effects.{last_verdicts}
use Rattle.worklist.proofs.Handled.{handle_full, handle-done, link-ready, still-linked}
use mathlib.Core.Path.{refl}
use Rattle.determine_side_effects.proofs.refusal_crate.Exits.{passed_on}
use Rattle.worklist.proofs.handle.Goals as goal

pub join-requires : goal.join-requires
join-requires c = record { prepared = c.requires.prepared; held = c.requires.held; linked = c.requires.linked; good = (rw c.fact_at-fact.ensures (c.requires.held.good _ c.requires.base_le_k.1), c.requires.base_le_k.0, c.requires.base_le_k.1) }

pub link-requires : goal.link-requires
link-requires c = record { prepared = c.requires.prepared; link_ready = link-ready _ _ (last_verdicts (graph_in c.args.numbers.now)) _ _ _ _ c.requires.base_le_k.1 c.fact_at-fact.ensures _ _ _ (rw c.in_ok-joined.was at c.join.ensures) c.requires.base_le_k.0; linked = still-linked _ _ (last_verdicts (graph_in c.args.numbers.now)) _ _ _ _ c.requires.base_le_k.1 c.fact_at-fact.ensures _ _ _ (rw c.in_ok-joined.was at c.join.ensures) _ c.requires.linked }

pub follow-requires : goal.follow-requires
follow-requires c = record { prepared = c.requires.prepared; held = ((rw c.in_ok-joined.was at c.join.ensures).held _ refl).1; good = (rw c.fact_at-fact.ensures (c.requires.held.good _ c.requires.base_le_k.1), (link-ready _ _ (last_verdicts (graph_in c.args.numbers.now)) _ _ _ _ c.requires.base_le_k.1 c.fact_at-fact.ensures _ _ _ (rw c.in_ok-joined.was at c.join.ensures) c.requires.base_le_k.0).inside) }

pub returns-in_err-joined : goal.returns-in_err-joined
returns-in_err-joined c = rw (passed_on c.from_residual.result _ c.from_residual.ensures.1) (handle_full _ _ _ _ _ _ _ c.requires.base_le_k.1 c.fact_at-fact.ensures _ _ _ (rw c.in_err-joined.was at c.join.ensures))

pub returns : goal.returns
returns c = handle-done _ _ (last_verdicts (graph_in c.args.numbers.now)) _ _ _ _ c.requires.base_le_k.1 c.fact_at-fact.ensures _ _ _ (rw c.in_ok-joined.was at c.join.ensures) _ _ _ _ c.link.ensures c.follow.ensures
