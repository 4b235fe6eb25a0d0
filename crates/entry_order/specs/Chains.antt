-- Lists of entries chained by module, so that the entries of one module are found without a search.
use Rattle.std.specs.Prelude.{ℕ, zero, suc, ◌+◌, ◌-◌, ◌<◌, ◌≤◌, ◌≡◌, true, false, List, eqb, length, get_or, take}
use Rattle.facts.specs.graph_crate.Check.{Graph}
use Rattle.entry_order.specs.Order.{those, module_of_entry}

-- 1 more than the first place of a list, among k from place i on, whose entry is of module u; 0 where there is none
unfoldable pub place_of : Graph → List ℕ → ℕ → ℕ → ℕ → ℕ
place_of g list u i zero = 0
place_of g list u i (suc k) = elim (eqb (module_of_entry g (get_or list i 0)) u) [ true ↦ i + 1 | false ↦ place_of g list u (i + 1) k ]

-- With M modules: word m of the chain is module m's first place, word M + i the next place with the module of place i.
pub record Chained (g : Graph) (list : List ℕ) (count : ℕ) (chain : List ℕ) : Type 0 where
  pub long : g.header.modules + count ≤ length chain
  pub firsts : (u : ℕ) → u < g.header.modules → get_or chain u 0 ≡ place_of g list u 0 count
  pub nexts : (i : ℕ) → i < count → get_or chain (g.header.modules + i) 0 ≡ place_of g list (module_of_entry g (get_or list i 0)) (i + 1) (count - (i + 1))

-- the first `count` of a list are entries
pub record Entries (g : Graph) (list : List ℕ) (count : ℕ) : Type 0 where
  pub long : count ≤ length list
  pub below : (i : ℕ) → i < count → get_or list i 0 < g.header.entries

-- those of module u
unfoldable pub of_module : Graph → List ℕ → ℕ → ℕ → List ℕ
of_module g list count u = those (λ e. eqb (module_of_entry g e) u) (take count list)
