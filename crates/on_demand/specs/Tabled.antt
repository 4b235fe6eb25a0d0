-- The sections of the modules on demand and of the keys of their bodies.
use Rattle.std.specs.Prelude.{ℕ, ◌+◌, ◌<◌, ◌≤◌, ◌≡◌, Bool, true, false, ◌||◌, List, eqb, length, get_or}
use Rattle.determine_side_effects.specs.tables_crate.Layout.{Laid, on_demand_in, bodies_in, all_sections}
use Rattle.determine_side_effects.specs.graph_tables_crate.Tables.{header_in}
use Rattle.determine_side_effects.specs.graph_crate.Check.{Graph, graph_in}
use Rattle.determine_side_effects.specs.graph_access_crate.Names.{namespace, own_exports, only}
use Rattle.determine_side_effects.specs.graph_access_crate.Words.{some, module_of, root_of}
use Rattle.determine_side_effects.specs.Effects.{last_verdicts}
use Rattle.on_demand.specs.Demand.{user_entry, on_demand, body_of}

-- How the tables hold these: 1 for true, 0 for false.
unfoldable pub one : Bool → ℕ
one b = elim b [ true ↦ 1 | false ↦ 0 ]

-- the modules of user-defined entries have 1
abbrev pub EntriesMarked : Graph → List ℕ → Type 0
EntriesMarked g table = (m : ℕ) → m < g.header.modules → get_or table m 0 ≡ one (user_entry g m)

-- the section of the modules that are included on demand
pub record DemandTable (g : Graph) (table : List ℕ) : Type 0 where
  pub long : g.header.modules ≤ length table
  pub has : (m : ℕ) → m < g.header.modules → get_or table m 0 ≡ one (on_demand g (last_verdicts g) m)

-- what the key of symbol s becomes when module m, which has a body, enters its keys
unfoldable pub keyed : Graph → ℕ → ℕ → ℕ → ℕ
keyed g m s before =
    elim (some (λ row. eqb (root_of g.symbols (only row)) s) (own_exports (module_of g m)) || eqb (namespace (module_of g m)) (s + 1)) [ true ↦ m + 1 | false ↦ before ]

-- the section of the keys
pub record KeyTable (g : Graph) (table : List ℕ) : Type 0 where
  pub long : g.header.symbols ≤ length table
  pub has : (s : ℕ) → s < g.header.symbols → get_or table s 0 ≡ body_of g (last_verdicts g) s

-- as parts of the one slice
pub record Demands (numbers tables : List ℕ) : Type 0 where
  pub laid : Laid (header_in numbers) all_sections tables
  pub of_demand : DemandTable (graph_in numbers) (on_demand_in tables)

pub record Keyed (numbers tables : List ℕ) : Type 0 where
  pub laid : Laid (header_in numbers) all_sections tables
  pub of_keys : KeyTable (graph_in numbers) (bodies_in tables)
