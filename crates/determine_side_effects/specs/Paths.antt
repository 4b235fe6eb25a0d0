-- The modules from which a path of resolved imports leads to effects (docs/RULES.md, Effects).
use Rattle.std.specs.Prelude.{ℕ, suc, ◌<◌, ◌≡◌, ◌↔◌, true, List, [], length, get_or}
use Rattle.facts.specs.graph_crate.Check.{Graph}
use Rattle.facts.specs.graph_access_crate.Names.{import_records, import_record_target}
use Rattle.facts.specs.graph_access_crate.Words.{module_of, normal}
use Rattle.determine_side_effects.specs.Effects.{effectful, seeds}

-- a normal module that is Analyzed(false)
pub record Quiet (g : Graph) (v : List ℕ) (m : ℕ) : Type 0 where
  pub inside : m < g.header.modules
  pub is_normal : normal g m ≡ true
  pub without : get_or v m 0 ≡ 0

-- import record k of module m is resolved, to module t
pub record Imports (g : Graph) (m k t : ℕ) : Type 0 where
  pub listed : k < length (import_records (module_of g m))
  pub target : import_record_target (get_or (import_records (module_of g m)) k []) ≡ suc t

-- A path of resolved imports of any kind leads from the module to one that has effects at first, or that is seeded by export-star;
-- all before the last are normal and Analyzed(false). A path may be empty: then the module itself is the last.
pub data Leads (g : Graph) (v : List ℕ) : ℕ → Type 0 where
  «effects» : (m : ℕ) → effectful (get_or v m 0) ≡ true → Leads g v m
  seeded : (m k : ℕ) → Quiet g v m → k < length (import_records (module_of g m)) → seeds g (get_or (import_records (module_of g m)) k []) ≡ true → Leads g v m
  imports : (m k t : ℕ) → Quiet g v m → Imports g m k t → Leads g v t → Leads g v m

-- What is said by paths of verdicts `w` that were settled from `v`: a normal Analyzed(false) module ends as Analyzed(true) exactly if a path
-- leads from it, and the others keep their verdict.
pub record ByPaths (g : Graph) (v w : List ℕ) : Type 0 where
  pub long : length w ≡ length v
  pub becomes : (m : ℕ) → Quiet g v m → (get_or w m 0 ≡ 1) ↔ Leads g v m
  pub else_stays : (m : ℕ) → Quiet g v m → (Leads g v m → ⊥) → get_or w m 0 ≡ 0
  pub others : (m : ℕ) → (Quiet g v m → ⊥) → get_or w m 0 ≡ get_or v m 0
