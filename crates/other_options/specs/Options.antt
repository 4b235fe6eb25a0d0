-- Graphs that differ in their options alone (docs/GRAPH.md, Header).
use Rattle.std.specs.Prelude.{ℕ, ◌≡◌}
use Rattle.determine_side_effects.specs.graph_format_crate.declared.Header.{Header}
use Rattle.determine_side_effects.specs.graph_crate.Check.{Graph}
use Rattle.determine_side_effects.specs.graph_access_crate.Words.{option}

-- a header and a graph with other options
abbrev pub header_with : Header → ℕ → Header
header_with h o = record { options = o; runtime = h.runtime; modules = h.modules; symbols = h.symbols; statements = h.statements; entries = h.entries; helpers = h.helpers }

abbrev pub with_options : Graph → ℕ → Graph
with_options g o = record { header = header_with g.header o; helpers = g.helpers; modules = g.modules; symbols = g.symbols; statements = g.statements; entries = g.entries }

-- Two graphs that differ in no more than bit k of their options.
pub record SameButBit (k : ℕ) (g h : Graph) : Type 0 where
  pub rest_is : h ≡ with_options g h.header.options
  pub same_bits : (j : ℕ) → (j ≡ k → ⊥) → option h j ≡ option g j
