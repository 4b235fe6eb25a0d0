-- A graph with other options and other entries, and what reads neither: what an entry starts.
use Prim.Native.Nat.{ℕ}
use mathlib.Core.Path.{◌≡◌, refl, ap}
use mathlib.Core.Bool.{true, false}
use mathlib.Core.List.{List, [], ◌∷◌, ◌++◌}
use Rattle.determine_side_effects.specs.rows_crate.Walk.{Item}
use Rattle.determine_side_effects.specs.graph_crate.Check.{Graph}
use Rattle.determine_side_effects.specs.graph_access_crate.Names.{entry_references, only}
use Rattle.determine_side_effects.specs.graph_access_crate.Words.{module_of, symbol_of, normal}
use Rattle.determine_side_effects.specs.facts_crate.declared.Fact.{Fact}
use Rattle.determine_side_effects.specs.facts_crate.Facts.{module_fact, bailout_fact}
use Rattle.entry_starts.specs.Starts.{declared, reference_starts, references_starts, module_starts, user_starts}
use Rattle.other_options.specs.Options.{header_with}

abbrev pub changed : Graph → ℕ → List Item → Graph
changed g o es = record { header = header_with g.header o; helpers = g.helpers; modules = g.modules; symbols = g.symbols; statements = g.statements; entries = es }

module _ (g : Graph) (o : ℕ) (es : List Item) where
  abbrev h : Graph
  h = changed g o es

  references_same : (rows : List (List ℕ)) → references_starts h rows ≡ references_starts g rows
  unfolding references_starts reference_starts declared normal module_of symbol_of
  references_same [] = refl
  references_same (row ∷ rows) = ap (λ (x : List Fact). reference_starts g (only row) ++ x) (references_same rows)

  pub module_starts_same : (m : ℕ) → module_starts h m ≡ module_starts g m
  unfolding module_starts normal module_of
  module_starts_same m =
      let rows = entry_references (module_of g m) in
      ap (λ (l : List Fact). elim (normal g m) as (λ x. List Fact) [ true ↦ l ++ module_fact m ∷ [] | false ↦ [] ]) (references_same rows)

  pub user_starts_same : (m : ℕ) → user_starts h m ≡ user_starts g m
  unfolding user_starts normal module_of
  user_starts_same m = ap (λ (l : List Fact). elim (normal g m) as (λ x. List Fact) [ true ↦ bailout_fact m ∷ l | false ↦ [] ]) (module_starts_same m)
