use Rattle.passes.proofs.Using.{runtime_helpers, runtime_none, runtime-itself, no_word}
use Rattle.passes.proofs.Accepted.{runtime_good}
use Rattle.entry_starts.proofs.Referring.{started_nothing, started_as}
use Rattle.determine_side_effects.specs.graph_crate.Check.{graph_in}
use native.Mathlib.Omega.{arith}
use Rattle.passes.proofs.include_runtime_symbol.Goals as goal

pub include_helpers-requires : goal.include_helpers-requires
include_helpers-requires c = record { prepared = c.requires.prepared; working = c.requires.working }

pub returns-then-word-gt0 : goal.returns-then-word-gt0
unfolding graph_in
returns-then-word-gt0 c = started_as _ _ _ _ (runtime_helpers _ _ _ (λ e. let t = c.if-word-gt0.true in omega (arith, e, t))) _ _ _ _ _ c.include_helpers.ensures

pub header_of-h-requires : goal.header_of-h-requires
header_of-h-requires c = c.requires.prepared.loaded.long

pub has_effects-requires : goal.has_effects-requires
has_effects-requires c = record { settled = c.requires.prepared.settled; m_bound = (runtime_good c.requires.prepared.loaded _ c.header_of-h.ensures).0 }

pub returns-then-not-has_effects : goal.returns-then-not-has_effects
unfolding graph_in
returns-then-not-has_effects c = started_nothing _ _ _ (runtime_none _ _ _ (no_word c.if-word-gt0.false) _ c.header_of-h.ensures _ c.has_effects.ensures (c.if-not-has_effects.true)) _ _ _ _ c.requires.working

pub start_one-requires : goal.start_one-requires
unfolding graph_in
start_one-requires c = record { prepared = c.requires.prepared; working = c.requires.working; good = runtime_good c.requires.prepared.loaded _ c.header_of-h.ensures }

pub returns : goal.returns
unfolding graph_in
returns c = started_as _ _ _ _ (runtime-itself _ _ _ (no_word c.if-word-gt0.false) _ c.header_of-h.ensures _ c.has_effects.ensures (c.if-not-has_effects.false)) _ _ _ _ _ c.start_one.ensures
