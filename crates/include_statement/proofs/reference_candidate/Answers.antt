use mathlib.Core.List.{List, []}
use Rattle.determine_side_effects.specs.graph_access_crate.Words.{statement_of}
use Rattle.include_statement.proofs.Stands.{kind_here, kind_is, symbol-here, symbol_is, symbol_below}
use Rattle.include_statement.proofs.Places.{no_places, pick_resolved, pick-forward, pick-checked}
use Rattle.determine_side_effects.specs.graph_access_crate.Names.{references}
use Prim.Native.Nat.{ℕ, ◌<◌}
use mathlib.Core.Path.{◌≡◌, ◌∙◌}
use native.Mathlib.Omega.{arith}
use lib.ListN.{get_or}
use Rattle.include_statement.specs.Here.{Here}
use Rattle.keep_rules.specs.Rules.{reference_candidates}
use Rattle.determine_side_effects.specs.graph_tables_crate.Tables.{header_in}
use Rattle.determine_side_effects.specs.graph_crate.Check.{graph_in}
use Rattle.keep_rules.proofs.Picks.{gives_good}
use Rattle.include_statement.proofs.reference_candidate.Goals as goal

-- a kind that has a symbol
some-kind : {numbers : List ℕ} {m i r place k : ℕ} → Here numbers m i r place → k < reference_candidates (graph_in numbers) (get_or (references (statement_of (graph_in numbers) m i)) r []) → get_or numbers place 0 ≡ 1 → ⊥
some-kind {numbers} h l z = omega (arith, l, no_places (graph_in numbers) _ _ (kind_is h) z)

pub bounds-numbers-place : goal.bounds-numbers-place
bounds-numbers-place c = kind_here c.requires.here

pub resolved_candidate-requires : goal.resolved_candidate-requires
resolved_candidate-requires c = record { prepared = c.requires.prepared; here = c.requires.here; place_value = (c.if-numbers-place-eq2.true, c.requires.k_bound) }

pub returns-then-numbers-place-eq2 : goal.returns-then-numbers-place-eq2
returns-then-numbers-place-eq2 c = (pick_resolved _ _ _ (kind_is c.requires.here) _ _ c.if-numbers-place-eq2.true c.resolved_candidate.ensures.0, c.resolved_candidate.ensures.1)

pub bounds-numbers-place-2 : goal.bounds-numbers-place-2
bounds-numbers-place-2 c = omega (arith, symbol-here c.requires.here (some-kind c.requires.here c.requires.k_bound) c.if-numbers-place-eq2.false)

pub forward_count-requires : goal.forward_count-requires
forward_count-requires c =
    let symbol = c.wide.ensures ∙ symbol_is c.requires.here (some-kind c.requires.here c.requires.k_bound) c.if-numbers-place-eq2.false in
    let below : c.wide.result < (header_in c.args.numbers.now).symbols = omega (arith, symbol, symbol_below c.requires.here c.requires.prepared.loaded (some-kind c.requires.here c.requires.k_bound)) in record { prepared = c.requires.prepared; s_bound = below }

pub forward_candidate-requires : goal.forward_candidate-requires
forward_candidate-requires c =
    let symbol = c.wide.ensures ∙ symbol_is c.requires.here (some-kind c.requires.here c.requires.k_bound) c.if-numbers-place-eq2.false in
    let below : c.wide.result < (header_in c.args.numbers.now).symbols = omega (arith, symbol, symbol_below c.requires.here c.requires.prepared.loaded (some-kind c.requires.here c.requires.k_bound)) in record { prepared = c.requires.prepared; s_bound = (below, omega (arith, c.if-k-forward_count.true, c.forward_count.ensures.0)) }

pub returns-then-k-forward_count : goal.returns-then-k-forward_count
returns-then-k-forward_count c =
    let symbol = c.wide.ensures ∙ symbol_is c.requires.here (some-kind c.requires.here c.requires.k_bound) c.if-numbers-place-eq2.false in
    (pick-forward _ _ _ (kind_is c.requires.here) _ _ _ _ c.if-numbers-place-eq2.false symbol c.forward_count.ensures.0 c.if-k-forward_count.true c.forward_candidate.ensures.0, c.forward_candidate.ensures.1)

pub include_kind-requires : goal.include_kind-requires
unfolding graph_in
include_kind-requires c = record { prepared = c.requires.prepared; m_bound = (c.requires.here.module_inside, c.requires.here.statement_inside) }

pub returns : goal.returns
unfolding graph_in
returns c =
    let symbol = c.wide.ensures ∙ symbol_is c.requires.here (some-kind c.requires.here c.requires.k_bound) c.if-numbers-place-eq2.false in
    let below : c.wide.result < (header_in c.args.numbers.now).symbols = omega (arith, symbol, symbol_below c.requires.here c.requires.prepared.loaded (some-kind c.requires.here c.requires.k_bound)) in
    (pick-checked _ _ _ (kind_is c.requires.here) _ _ _ _ c.if-numbers-place-eq2.false symbol c.forward_count.ensures.0 _ c.if-k-forward_count.false c.include_kind.ensures.0, gives_good (below, c.include_kind.ensures.1, c.include_kind.ensures.2))
