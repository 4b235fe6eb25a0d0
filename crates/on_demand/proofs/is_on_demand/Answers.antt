use mathlib.Core.Path.{ap, ◌∙◌}
use native.Mathlib.Omega.{arith}
use lib.Dec.{eqb}
use lib.ListN.{length, get_or}
use Rattle.determine_side_effects.specs.tables_crate.Layout.{sizes}
use Rattle.determine_side_effects.proofs.tables_crate.Sections.{inside, kept_none}
use Rattle.determine_side_effects.specs.graph_crate.Check.{graph_in}
use Rattle.determine_side_effects.proofs.InSection.{word_fits}
use Rattle.on_demand.proofs.Deciding.{one_is}
use Rattle.on_demand.proofs.is_on_demand.Goals as goal

pub section-demand-requires : goal.section-demand-requires
section-demand-requires c = inside c.requires.demands.laid 6 (omega arith)

pub offset_bounds-demand-i : goal.offset_bounds-demand-i
unfolding sizes
offset_bounds-demand-i c = record { fits = omega (arith, word_fits c.requires.demands.laid 6 (omega arith) kept_none c.args.m.0 c.requires.m_bound, c.requires.demands.laid.few) }

pub bounds-demand-i : goal.bounds-demand-i
unfolding graph_in
bounds-demand-i c = omega (arith, ap length c.section-demand.ensures, c.requires.demands.of_demand.long, c.requires.m_bound)

pub returns : goal.returns
unfolding graph_in
returns c =
    ap (λ v. eqb (get_or v c.args.m.0 0) 1) c.section-demand.ensures ∙ ap (λ x. eqb x 1) (c.requires.demands.of_demand.has c.args.m.0 c.requires.m_bound) ∙ one_is _
