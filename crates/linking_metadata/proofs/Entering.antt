-- The loop by which a module enters its CommonJS namespaces.
use Prim.Native.Nat.{ℕ, ◌+◌, ◌<◌, ◌≤◌}
use mathlib.Core.Path.{◌≡◌, refl, ap, ◌∙◌, sym}
use mathlib.Core.Logic.{◌≢◌}
use mathlib.Core.Bool.{Bool, true, false}
use mathlib.Core.List.{List, []}
use native.Mathlib.Decide.{ℕ_discrete}
use native.Mathlib.Numerals.{add-one}
use native.Mathlib.Omega.{arith}
use borrow.Author.Tests.{eqb-true, eqb-false, eq-eqb, ne_eqb}
use lib.Dec.{eqb}
use lib.Seq.{drop-cons, get_or-set_same, get_or-set_other}
use lib.ListN.{length, get_or, set, drop, drop_of_length-le}
use Rattle.graph_access.specs.graph_format_crate.declared.Header.{Header}
use Rattle.graph_access.specs.tables_crate.Layout.{sizes, start_of, Laid, Kept, namespaces_in, at_namespaces, all_sections}
use Rattle.graph_access.proofs.tables_crate.Sections.{section-length, kept_none, kept_set}
use Rattle.graph_access.proofs.tables_crate.Writing.{section-set}
use Rattle.graph_access.specs.Names.{namespace_symbol, namespace_module}
use Rattle.linking_metadata.specs.Namespaces.{namespace_in}

-- what the entry of symbol s, whose owner is `own`, becomes by these rows of module m
unfoldable pub by_rows : ℕ → ℕ → ℕ → List (List ℕ) → ℕ → ℕ
by_rows own m s rows before = elim (eqb own m) [ true ↦ namespace_in s before rows | false ↦ before ]

module _ (own : ℕ → ℕ) (m : ℕ) (rows : List (List ℕ)) (k : ℕ) (l : k < length rows) where
  abbrev row : List ℕ
  row = get_or rows k []

  -- one row more
  rows_step : (s b c : ℕ) → c ≡ elim (eqb (namespace_symbol row) s) [ true ↦ namespace_module row + 1 | false ↦ b ] → namespace_in s c (drop (k + 1) rows) ≡ namespace_in s b (drop k rows)
  unfolding namespace_in
  rows_step s b c e = rw (drop-cons rows k [] l, namespace_in, sym e) (ap (λ j. namespace_in s c (drop j rows)) (add-one k))

  pub by_step : (s b c : ℕ) → (own s ≡ m → c ≡ elim (eqb (namespace_symbol row) s) [ true ↦ namespace_module row + 1 | false ↦ b ]) → (own s ≢ m → c ≡ b)
      → by_rows (own s) m s (drop (k + 1) rows) c ≡ by_rows (own s) m s (drop k rows) b
  unfolding by_rows
  by_step s b c y n = go (eqb (own s) m) refl
    where
      go : (t : Bool) → eqb (own s) m ≡ t → by_rows (own s) m s (drop (k + 1) rows) c ≡ by_rows (own s) m s (drop k rows) b
      go true e = rw (e, by_rows) (rows_step s b c (y (eqb-true (own s) m e)))
      go false e = rw (e, by_rows) (n (eqb-false (own s) m e))

  -- a row whose symbol the module owns
  module _ (table : List ℕ) (y x : ℕ) (is : y ≡ namespace_symbol row) (of : x ≡ namespace_module row) (i : y < length table) (mine : own y ≡ m) where
    written : (s : ℕ) → get_or (set table y (x + 1)) s 0 ≡ elim (eqb (namespace_symbol row) s) [ true ↦ namespace_module row + 1 | false ↦ get_or table s 0 ]
    written s = go (ℕ_discrete y s)
      where
        go : Dec (y ≡ s) → get_or (set table y (x + 1)) s 0 ≡ elim (eqb (namespace_symbol row) s) [ true ↦ namespace_module row + 1 | false ↦ get_or table s 0 ]
        go (yes e) =
            let f = eq-eqb y s e in
            rw (sym is, f) (ap (λ j. get_or (set table y (x + 1)) j 0) (sym e) ∙ get_or-set_same table y (x + 1) 0 i ∙ ap (λ j. j + 1) of)
        go (no d) = let f = ne_eqb y s d in let b : s ≢ y = λ z. d (sym z) in rw (sym is, f) (get_or-set_other table y s (x + 1) 0 b)

    pub step-own : (s : ℕ) → by_rows (own s) m s (drop (k + 1) rows) (get_or (set table y (x + 1)) s 0) ≡ by_rows (own s) m s (drop k rows) (get_or table s 0)
    step-own s =
        let other : own s ≢ m → s ≢ y = λ n z. n (ap own z ∙ mine) in
        by_step s (get_or table s 0) (get_or (set table y (x + 1)) s 0) (λ e. written s) (λ n. get_or-set_other table y s (x + 1) 0 (other n))

  -- another row
  pub step_other : (y : ℕ) → y ≡ namespace_symbol row → own y ≢ m → (s b : ℕ) → by_rows (own s) m s (drop (k + 1) rows) b ≡ by_rows (own s) m s (drop k rows) b
  step_other y is n s b = by_step s b b same (λ d. refl)
    where
      same : own s ≡ m → b ≡ elim (eqb (namespace_symbol row) s) [ true ↦ namespace_module row + 1 | false ↦ b ]
      same e = let d : y ≢ s = λ z. n (ap own z ∙ e) in let f = ne_eqb y s d in rw (sym is, f)

-- a turn of the loop: the section has been written to, or not
pub record Turn (own : ℕ → ℕ) (m : ℕ) (rows : List (List ℕ)) (k : ℕ) (h : Header) (tables later : List ℕ) : Type 0 where
  pub kept : Kept (start_of h at_namespaces) tables later
  pub entries : (s : ℕ) → by_rows (own s) m s (drop (k + 1) rows) (get_or (namespaces_in later) s 0) ≡ by_rows (own s) m s (drop k rows) (get_or (namespaces_in tables) s 0)

module _ (own : ℕ → ℕ) (m : ℕ) (rows : List (List ℕ)) (k : ℕ) (l : k < length rows) (h : Header) (tables later : List ℕ) (y : ℕ) (is : y ≡ namespace_symbol (get_or rows k [])) where
  pub turn_own : Laid h all_sections tables → (base : ℕ) → base ≡ start_of h at_namespaces → y < h.symbols → (x : ℕ) → x ≡ namespace_module (get_or rows k []) → own y ≡ m → later ≡ set tables (base + y) (x + 1)
      → Turn own m rows k h tables later
  unfolding sizes
  turn_own t base b i x of mine e =
      let w : namespaces_in later ≡ set (namespaces_in tables) y (x + 1) = ap namespaces_in (e ∙ ap (λ at. set tables (at + y) (x + 1)) b) ∙ section-set t 8 (omega arith) y (x + 1) i in
      let r : y < length (namespaces_in tables) = omega (arith, i, section-length t 8 (omega arith)) in
      record {
        kept = rw e (kept_set (start_of h at_namespaces) (base + y) (x + 1) (omega (arith, b)) kept_none);
        entries = λ s. ap (λ table. by_rows (own s) m s (drop (k + 1) rows) (get_or table s 0)) w ∙ step-own own m rows k l (namespaces_in tables) y x is of r mine s;
      }

  pub turn_other : own y ≢ m → later ≡ tables → Turn own m rows k h tables later
  turn_other n e = rw e (record { kept = kept_none; entries = λ s. step_other own m rows k l y is n s (get_or (namespaces_in tables) s 0) })

pub by_end : (own m s : ℕ) (rows : List (List ℕ)) (k b : ℕ) → length rows ≤ k → by_rows own m s (drop k rows) b ≡ b
unfolding by_rows namespace_in
by_end own m s rows k b l = go (eqb own m) refl
  where
    go : (t : Bool) → eqb own m ≡ t → by_rows own m s (drop k rows) b ≡ b
    go true e = rw (e, by_rows, drop_of_length-le rows l, namespace_in)
    go false e = rw (e, by_rows)
