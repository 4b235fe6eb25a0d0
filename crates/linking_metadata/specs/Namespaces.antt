-- CommonJS namespaces by symbol (005, `import_record_ns_to_cjs_module`), and a symbol's target.
use Rattle.std.specs.Prelude.{ℕ, ◌+◌, ◌-◌, Bool, true, false, List, [], ◌∷◌, eqb}
use Rattle.graph_access.specs.graph_crate.Check.{Graph}
use Rattle.graph_access.specs.Names.{owner, alias_namespace, namespace, common_js_namespaces, namespace_symbol, namespace_module}
use Rattle.graph_access.specs.Words.{root_of}
use Rattle.graph_access.specs.Words.{module_of, symbol_of}

-- 1 more than the module that the rows give symbol s, the last such row (a symbol doesn't repeat); `none` where they have no row of it
unfoldable pub namespace_in : ℕ → ℕ → List (List ℕ) → ℕ
namespace_in s none [] = none
namespace_in s none (row ∷ rows) = namespace_in s (elim (eqb (namespace_symbol row) s) [ true ↦ namespace_module row + 1 | false ↦ none ]) rows

-- 1 more than the CommonJS module that symbol s is a namespace of, by the list of its own owner; 0 where it is none
unfoldable pub common_js_of : Graph → ℕ → ℕ
common_js_of g s = namespace_in s 0 (common_js_namespaces (module_of g (owner (symbol_of g s))))

-- symbol s is the namespace of its owner
unfoldable pub is_namespace : Graph → ℕ → Bool
is_namespace g s = eqb (namespace (module_of g (owner (symbol_of g s)))) (s + 1)

-- the root's alias namespace if it has one, not rooted again, else the root (000:791-795)
unfoldable pub target_of : Graph → ℕ → ℕ
target_of g s =
    elim (eqb (alias_namespace (symbol_of g (root_of g.symbols s))) 0) [
      | true ↦ root_of g.symbols s
      | false ↦ alias_namespace (symbol_of g (root_of g.symbols s)) - 1
    ]
