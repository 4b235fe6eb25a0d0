-- The section of the CommonJS namespaces.
use Rattle.std.specs.Prelude.{ℕ, ◌<◌, ◌≤◌, ◌≡◌, true, false, List, eqb, length, get_or}
use Rattle.graph_access.specs.tables_crate.Layout.{Laid, namespaces_in, all_sections}
use Rattle.graph_access.specs.graph_tables_crate.Tables.{header_in}
use Rattle.graph_access.specs.graph_crate.Check.{Graph, graph_in}
use Rattle.graph_access.specs.graph_crate.Loaded.{Loaded}
use Rattle.graph_access.specs.Names.{owner, common_js_namespaces}
use Rattle.graph_access.specs.Words.{module_of, symbol_of}
use Rattle.linking_metadata.specs.Namespaces.{namespace_in, common_js_of}

-- what the entry of symbol s becomes when module m enters the namespaces that it lists and owns
unfoldable pub entered : Graph → ℕ → ℕ → ℕ → ℕ
entered g m s before = elim (eqb (owner (symbol_of g s)) m) [ true ↦ namespace_in s before (common_js_namespaces (module_of g m)) | false ↦ before ]

-- the section of the CommonJS namespaces
pub record NamespaceTable (g : Graph) (table : List ℕ) : Type 0 where
  pub long : g.header.symbols ≤ length table
  pub has : (s : ℕ) → s < g.header.symbols → get_or table s 0 ≡ common_js_of g s

-- as a part of the one slice of an accepted graph
pub record Named (numbers tables : List ℕ) : Type 0 where
  pub loaded : Loaded numbers tables
  pub laid : Laid (header_in numbers) all_sections tables
  pub of_namespaces : NamespaceTable (graph_in numbers) (namespaces_in tables)
