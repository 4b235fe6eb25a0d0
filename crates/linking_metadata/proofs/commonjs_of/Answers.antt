use mathlib.Core.Path.{ap, ◌∙◌}
use native.Mathlib.Omega.{arith}
use lib.ListN.{length, get_or}
use Rattle.graph_access.specs.graph_crate.Check.{graph_in}
use Rattle.graph_access.proofs.tables_crate.Sections.{inside}
use Rattle.linking_metadata.proofs.FillingUp.{namespaces_fit}
use Rattle.linking_metadata.proofs.commonjs_of.Goals as goal

pub section-namespaces-requires : goal.section-namespaces-requires
section-namespaces-requires c = inside c.requires.named.laid 8 (omega arith)

pub bounds-namespaces-i : goal.bounds-namespaces-i
unfolding graph_in
bounds-namespaces-i c = omega (arith, ap length c.section-namespaces.ensures, c.requires.named.of_namespaces.long, c.requires.s_bound)

pub returns : goal.returns
unfolding graph_in
returns c =
    let e = ap (λ t. get_or t c.args.s.0 0) c.section-namespaces.ensures ∙ c.requires.named.of_namespaces.has c.args.s.0 c.requires.s_bound in
    (e, omega (arith, e, namespaces_fit c.requires.named.loaded c.args.s.0 c.requires.s_bound))
