-- The loop over the modules that enter their CommonJS namespaces, and the range of what they enter.
use Prim.Native.Nat.{ℕ, suc, ◌+◌, ◌<◌, ◌≤◌}
use mathlib.Core.Path.{◌≡◌, ap, ◌∙◌, sym}
use mathlib.Core.Bool.{Bool, true, false}
use mathlib.Core.List.{List, [], ◌∷◌}
use native.Mathlib.Decide.{ℕ_discrete}
use native.Mathlib.Omega.{arith}
use borrow.Author.Tests.{eq-eqb, ne_eqb}
use lib.Dec.{eqb}
use lib.ListN.{length, get_or}
use Rattle.graph_access.specs.tables_crate.Layout.{start_of, Kept}
use Rattle.graph_access.proofs.tables_crate.Sections.{laid_kept, laid_less, section_kept}
use Rattle.graph_access.specs.graph_tables_crate.Tables.{header_in}
use Rattle.graph_access.specs.graph_crate.Check.{Graph, graph_in}
use Rattle.graph_access.specs.graph_crate.Loaded.{Loaded}
use Rattle.graph_access.proofs.graph_crate.Kept.{loaded_kept}
use Rattle.graph_access.specs.Names.{owner, common_js_namespaces, namespace_symbol, namespace_module}
use Rattle.graph_access.specs.Words.{module_of, symbol_of}
use Rattle.linking_metadata.specs.Namespaces.{namespace_in, common_js_of}
use Rattle.graph_access.proofs.Indexes.{owner_below, namespace_row_below}
use Rattle.linking_metadata.specs.Tabled.{entered, Named}

-- the first m modules have entered theirs
pub record UpTo (g : Graph) (m : ℕ) (s x : ℕ) : Type 0 where
  pub done : owner (symbol_of g s) < m → x ≡ common_js_of g s
  pub still : m ≤ owner (symbol_of g s) → x ≡ 0

pub up_start : (g : Graph) (s x : ℕ) → x ≡ 0 → UpTo g 0 s x
up_start g s x e = record { done = λ l. absurd (omega arith); still = λ l. e }

pub up_step : (g : Graph) (m s x y : ℕ) → UpTo g m s x → y ≡ entered g m s x → UpTo g (m + 1) s y
unfolding entered common_js_of
up_step g m s x y u e = go (ℕ_discrete (owner (symbol_of g s)) m)
  where
    go : Dec (owner (symbol_of g s) ≡ m) → UpTo g (m + 1) s y
    go (yes i) =
        let t = eq-eqb (owner (symbol_of g s)) m i in
        let z : x ≡ 0 = u.still (omega (arith, i)) in
        let v : y ≡ namespace_in s 0 (common_js_namespaces (module_of g m)) = e ∙ rw (t, entered) (ap (λ b. namespace_in s b (common_js_namespaces (module_of g m))) z) in
        record { done = λ l. v ∙ ap (λ n. namespace_in s 0 (common_js_namespaces (module_of g n))) (sym i); still = λ l. absurd (omega (arith, i, l)) }
    go (no d) =
        let t = ne_eqb (owner (symbol_of g s)) m d in
        let v : y ≡ x = e ∙ rw (t, entered) in
        record { done = λ l. v ∙ u.done (omega (arith, d, l)); still = λ l. v ∙ u.still (omega (arith, l)) }

-- what a symbol's entry says is in range: 1 more than a module, or 0
rows_fit : (s none limit : ℕ) (rows : List (List ℕ)) → none ≤ limit → ((k : ℕ) → k < length rows → namespace_module (get_or rows k []) < limit) → namespace_in s none rows ≤ limit
unfolding namespace_in
rows_fit s none limit [] h b = h
rows_fit s none limit (row ∷ rows) h b = rows_fit s (elim (eqb (namespace_symbol row) s) [ true ↦ namespace_module row + 1 | false ↦ none ]) limit rows (pick (eqb (namespace_symbol row) s)) (λ k l. b (suc k) (omega (arith, l)))
  where
    first : namespace_module row < limit
    first = b 0 (omega arith)

    pick : (t : Bool) → elim t [ true ↦ namespace_module row + 1 | false ↦ none ] ≤ limit
    pick true = omega (arith, first)
    pick false = h

pub namespaces_fit : {numbers tables : List ℕ} → Loaded numbers tables → (s : ℕ) → s < (header_in numbers).symbols → common_js_of (graph_in numbers) s ≤ (header_in numbers).modules
unfolding common_js_of
namespaces_fit {numbers} t s h =
    rows_fit s 0 (header_in numbers).modules (common_js_namespaces (module_of (graph_in numbers) (owner (symbol_of (graph_in numbers) s)))) (omega arith)
    (λ k l. (namespace_row_below t (owner (symbol_of (graph_in numbers) s)) k (owner_below t s h) l).1)

-- the section, where only what is behind it was written
pub named_kept : {numbers xs ys : List ℕ} → Named numbers xs → (j : ℕ) → 9 ≤ j → j ≤ 10 → Kept (start_of (header_in numbers) j) xs ys → Named numbers ys
named_kept n j l b q =
    record {
      loaded = loaded_kept n.loaded j (omega (arith, l)) (laid_less b n.laid) q;
      laid = laid_kept n.laid j b q;
      of_namespaces = rw (section_kept n.laid j b q 8 (omega (arith, l))) n.of_namespaces;
    }
