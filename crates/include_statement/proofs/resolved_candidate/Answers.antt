use Rattle.include_statement.proofs.Stands.{parts_here, depended_is, depends-is, resolved-is, target_is, symbol_below, depends-below}
use Rattle.include_statement.proofs.Places.{resolved_forward, resolved-use, resolved-checked}
use Prim.Native.Nat.{◌+◌, ◌<◌}
use mathlib.Core.Path.{◌∙◌}
use native.Mathlib.Omega.{arith}
use lib.ListN.{get_or}
use Rattle.determine_side_effects.specs.graph_tables_crate.Tables.{header_in}
use Rattle.determine_side_effects.specs.graph_crate.Check.{graph_in}
use Rattle.keep_rules.proofs.Picks.{gives_good}
use Rattle.include_statement.proofs.resolved_candidate.Goals as goal

pub bounds-numbers-place-then-k-wide : goal.bounds-numbers-place-then-k-wide
bounds-numbers-place-then-k-wide c = omega (arith, parts_here c.requires.here c.requires.place_value.0, c.if-k-wide.true, c.wide.ensures)

pub returns-then-k-wide : goal.returns-then-k-wide
unfolding graph_in
returns-then-k-wide c = let l : c.args.k < get_or c.args.numbers.now (c.args.place + 3) 0 = omega (arith, c.if-k-wide.true, c.wide.ensures) in let i = c.wide-then-k-wide.ensures ∙ depends-is c.requires.here c.requires.place_value.0 c.args.k l in (resolved_forward _ _ _ _ (c.wide.ensures ∙ depended_is c.requires.here c.requires.place_value.0) _ c.if-k-wide.true i, gives_good (omega (arith, i, depends-below c.requires.here c.requires.prepared.loaded c.requires.place_value.0 c.args.k l)))

pub include_kind-x-requires : goal.include_kind-x-requires
unfolding graph_in
include_kind-x-requires c = record { prepared = c.requires.prepared; m_bound = (c.requires.here.module_inside, c.requires.here.statement_inside) }

pub returns-then-numbers-place-eq1 : goal.returns-then-numbers-place-eq1
unfolding graph_in
returns-then-numbers-place-eq1 c =
    let symbol = c.wide-2.ensures ∙ resolved-is c.requires.here c.requires.place_value.0 in
    let below : c.wide-2.result < (header_in c.args.numbers.now).symbols = omega (arith, symbol, symbol_below c.requires.here c.requires.prepared.loaded (λ z. omega (arith, z, c.requires.place_value.0))) in
    (resolved-use _ _ _ _ (c.wide.ensures ∙ depended_is c.requires.here c.requires.place_value.0) _ _ _ c.if-k-wide.false symbol c.include_kind-x.ensures.0 (target_is c.requires.here c.requires.place_value.0) c.if-numbers-place-eq1.true, gives_good (below, c.include_kind-x.ensures.1, c.include_kind-x.ensures.2))

pub returns : goal.returns
unfolding graph_in
returns c =
    let symbol = c.wide-2.ensures ∙ resolved-is c.requires.here c.requires.place_value.0 in
    let below : c.wide-2.result < (header_in c.args.numbers.now).symbols = omega (arith, symbol, symbol_below c.requires.here c.requires.prepared.loaded (λ z. omega (arith, z, c.requires.place_value.0))) in
    (resolved-checked _ _ _ _ (c.wide.ensures ∙ depended_is c.requires.here c.requires.place_value.0) _ _ _ c.if-k-wide.false symbol c.include_kind-x.ensures.0 (target_is c.requires.here c.requires.place_value.0) c.if-numbers-place-eq1.false, gives_good (below, c.include_kind-x.ensures.1, c.include_kind-x.ensures.2))
