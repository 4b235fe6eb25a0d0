-- The segments of a module, one by one.
use Prim.Native.Nat.{ℕ, ◌<◌}
use mathlib.Core.Path.{◌≡◌}
use mathlib.Core.List.{List}
use lib.ListN.{length, get_or}
use Rattle.determine_side_effects.specs.graph_crate.Check.{Graph}
use Rattle.determine_side_effects.specs.graph_access_crate.Names.{dependencies, common_js_export_symbols}
use Rattle.determine_side_effects.specs.graph_access_crate.Words.{module_of, statement_list}
use Rattle.keep_rules.specs.Rules.{Segment, segment, no_segment, sweep_candidate, dependency_candidate, eval_candidates, eval_candidate, export_symbol_candidate, dev_candidate, module_segments}
use Rattle.keep_rules.proofs.Segments.{last}

module _ (g : Graph) (v : List ℕ) (m j : ℕ) where
  abbrev there : Segment
  there = get_or (module_segments g v m) j no_segment

  pub segment_0 : j ≡ 0 → segment 2 (length (statement_list g m)) (sweep_candidate g v m) ≡ there
  unfolding module_segments
  segment_0 e = rw e

  pub segment_1 : j ≡ 1 → segment 3 (length (dependencies (module_of g m))) (dependency_candidate g v m) ≡ there
  unfolding module_segments
  segment_1 e = rw e

  pub segment_2 : j ≡ 2 → segment 4 (eval_candidates g m) (eval_candidate g m) ≡ there
  unfolding module_segments
  segment_2 e = rw e

  pub segment_3 : j ≡ 3 → segment 5 (length (common_js_export_symbols (module_of g m))) (export_symbol_candidate g m) ≡ there
  unfolding module_segments
  segment_3 e = rw e

  pub segment_4 : j < 5 → (j ≡ 0 → ⊥) → (j ≡ 1 → ⊥) → (j ≡ 2 → ⊥) → (j ≡ 3 → ⊥) → segment 6 1 (dev_candidate g m) ≡ there
  unfolding module_segments
  segment_4 l a b c d = rw (last j l a b c d)
