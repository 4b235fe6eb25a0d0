-- The segments of a use, one by one.
use Prim.Native.Nat.{ℕ, ◌<◌}
use mathlib.Core.Path.{◌≡◌, refl}
use mathlib.Core.List.{List}
use lib.ListN.{get_or}
use Rattle.determine_side_effects.specs.graph_crate.Check.{Graph}
use Rattle.determine_side_effects.specs.graph_access_crate.Words.{root_of}
use Rattle.linking_metadata.specs.Namespaces.{target_of}
use Rattle.keep_rules.specs.Rules.{Segment, segment, no_segment, demanded, demand_candidates, demand_candidate, alias_candidate, wrapper_candidates, wrapper_candidate, declaration_candidates, declaration_candidate, write_candidates, write_candidate, use_segments}
use Rattle.keep_rules.proofs.Segments.{last}

pub alias_any : (g : Graph) (root j k : ℕ) → alias_candidate g root j ≡ alias_candidate g root k
unfolding alias_candidate
alias_any g root j k = refl

module _ (g : Graph) (v : List ℕ) (s x j : ℕ) where
  abbrev there : Segment
  there = get_or (use_segments g v s x) j no_segment

  pub segment_0 : j ≡ 0 → segment 10 (demand_candidates g (demanded g v s x)) (demand_candidate g (demanded g v s x)) ≡ there
  unfolding use_segments
  segment_0 e = rw e

  pub segment_1 : j ≡ 1 → segment 11 1 (alias_candidate g (root_of g.symbols s)) ≡ there
  unfolding use_segments
  segment_1 e = rw e

  pub segment_2 : j ≡ 2 → segment 12 (wrapper_candidates g s (target_of g s)) (wrapper_candidate g s (target_of g s)) ≡ there
  unfolding use_segments
  segment_2 e = rw e

  pub segment_3 : j ≡ 3 → segment 13 (declaration_candidates g (target_of g s)) (declaration_candidate g (target_of g s) x) ≡ there
  unfolding use_segments
  segment_3 e = rw e

  pub segment_4 : j < 5 → (j ≡ 0 → ⊥) → (j ≡ 1 → ⊥) → (j ≡ 2 → ⊥) → (j ≡ 3 → ⊥) → segment 14 (write_candidates g s) (write_candidate g s) ≡ there
  unfolding use_segments
  segment_4 l a b c d = rw (last j l a b c d)
