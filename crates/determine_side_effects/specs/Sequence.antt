-- T3: the Rust's own sequence of stages, and that the last verdicts are its. The theorems are `last_by_paths` and `rust_sequence` in
-- proofs/ByPaths.antt.
use Rattle.std.specs.Prelude.{ℕ, ◌≡◌, true, false, ◌&&◌, List, eqb, get_or}
use Rattle.facts.specs.graph_crate.Check.{Graph}
use Rattle.facts.specs.graph_access_crate.Names.{effects, flags, scan_effects}
use Rattle.facts.specs.graph_access_crate.Words.{flag, module_of, normal, tabulate}
use Rattle.determine_side_effects.specs.Effects.{settle, relaxed, rescanned, first_verdicts, last_verdicts}
use Rattle.determine_side_effects.specs.Paths.{ByPaths}

-- the verdicts as the graph gives them
unfoldable pub given_verdicts : Graph → List ℕ
given_verdicts g = tabulate (λ m. effects (module_of g m)) 0 g.header.modules

-- `recompute_analyzed_side_effects` (002:93-107) of module m, from the verdicts so far
unfoldable pub recomputed_from : Graph → List ℕ → ℕ → ℕ
recomputed_from g v m =
    elim (normal g m) [
      | true ↦ elim (eqb (scan_effects (module_of g m)) 1 && flag 5 (flags (module_of g m))) [ true ↦ rescanned g m | false ↦ scan_effects (module_of g m) ]
      | false ↦ get_or v m 0
    ]

-- The Rust's order: `determine_side_effects` settles; then, if some module was relaxed (002:90), every verdict is recomputed from the settled
-- ones and settled once more (002:108).
unfoldable pub rust_verdicts : Graph → List ℕ
rust_verdicts g =
    elim (relaxed g) [
      | true ↦ settle g (tabulate (recomputed_from g (settle g (given_verdicts g))) 0 g.header.modules)
      | false ↦ settle g (given_verdicts g)
    ]

-- T3: the Rust's sequence gives the last verdicts, and they are those by paths, from the verdicts before the last settling
abbrev pub RustSequence : Type 0
RustSequence = (g : Graph) → rust_verdicts g ≡ last_verdicts g

abbrev pub LastByPaths : Type 0
LastByPaths = (g : Graph) → ByPaths g (first_verdicts g) (last_verdicts g)
