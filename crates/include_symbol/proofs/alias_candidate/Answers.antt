use Rattle.include_symbol.proofs.ByName.{no_alias, an_alias}
use Rattle.determine_side_effects.specs.graph_access_crate.Names.{alias_namespace, alias_name}
use Rattle.determine_side_effects.specs.graph_access_crate.Words.{symbol_of, root_of}
use mathlib.Core.Path.{◌≡◌, ap, ◌∙◌}
use Rattle.determine_side_effects.specs.graph_crate.Check.{graph_in}
use Rattle.keep_rules.proofs.Picks.{nothing_good}
use Rattle.include_symbol.proofs.alias_candidate.Goals as goal

pub returns-then-alias-eq0 : goal.returns-then-alias-eq0
unfolding graph_in
returns-then-alias-eq0 c =
    let alias : c.alias_namespace-alias.result ≡ alias_namespace (symbol_of (graph_in c.args.numbers.now) (root_of (graph_in c.args.numbers.now).symbols c.args.s.0)) = c.alias_namespace-alias.ensures.0 ∙ ap (λ r. alias_namespace (symbol_of (graph_in c.args.numbers.now) r)) c.root-root.ensures.0 in
    (no_alias _ _ _ _ alias c.if-alias-eq0.true, nothing_good)

pub returns : goal.returns
unfolding graph_in
returns c =
    let alias : c.alias_namespace-alias.result ≡ alias_namespace (symbol_of (graph_in c.args.numbers.now) (root_of (graph_in c.args.numbers.now).symbols c.args.s.0)) = c.alias_namespace-alias.ensures.0 ∙ ap (λ r. alias_namespace (symbol_of (graph_in c.args.numbers.now) r)) c.root-root.ensures.0 in
    (an_alias _ _ _ _ alias _ c.if-alias-eq0.false (c.alias_name-name.ensures ∙ ap (λ r. alias_name (symbol_of (graph_in c.args.numbers.now) r)) c.root-root.ensures.0) c.commonjs_of.ensures.0 c.export_candidate.ensures.0, c.export_candidate.ensures.1)
