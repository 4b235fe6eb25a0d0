use mathlib.Core.Path.{ap, ◌∙◌}
use native.Mathlib.Omega.{arith}
use lib.ListN.{length, get_or}
use Rattle.determine_side_effects.specs.tables_crate.Layout.{sizes}
use Rattle.determine_side_effects.proofs.tables_crate.Sections.{inside, kept_none}
use Rattle.determine_side_effects.specs.graph_crate.Check.{graph_in}
use Rattle.determine_side_effects.specs.Effects.{last_verdicts}
use Rattle.determine_side_effects.proofs.InSection.{word_fits}
use Rattle.on_demand.proofs.Entering.{body_fits}
use Rattle.on_demand.proofs.body_of_key.Goals as goal

pub section-bodies-requires : goal.section-bodies-requires
section-bodies-requires c = inside c.requires.keyed.laid 7 (omega arith)

pub offset_bounds-bodies-i : goal.offset_bounds-bodies-i
unfolding sizes
offset_bounds-bodies-i c = record { fits = omega (arith, word_fits c.requires.keyed.laid 7 (omega arith) kept_none c.args.s.0 c.requires.s_bound, c.requires.keyed.laid.few) }

pub bounds-bodies-i : goal.bounds-bodies-i
unfolding graph_in
bounds-bodies-i c = omega (arith, ap length c.section-bodies.ensures, c.requires.keyed.of_keys.long, c.requires.s_bound)

pub returns : goal.returns
unfolding graph_in
returns c =
    let g = graph_in c.args.numbers.now in
    let e = ap (λ v. get_or v c.args.s.0 0) c.section-bodies.ensures ∙ c.requires.keyed.of_keys.has c.args.s.0 c.requires.s_bound in
    (e, omega (arith, e, body_fits g (last_verdicts g) c.args.s.0))
