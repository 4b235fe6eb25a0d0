-- What is left of a module's exports, and of the lines whose bailouts are taken.
use Prim.Native.Nat.{ℕ, suc, ◌+◌, ◌<◌, ◌≤◌}
use mathlib.Core.Path.{◌≡◌, refl, ap, ◌∙◌, sym, subst}
use mathlib.Core.List.{List, [], ◌∷◌, ◌++◌}
use native.Mathlib.Numerals.{add-one}
use native.Mathlib.Omega.{arith}
use borrow.Author.Tests.{eq-eqb, ne_eqb}
use lib.ListN.{length, get_or, drop, drop_of_length-le}
use lib.Seq.{drop-cons}
use Rattle.facts.specs.graph_crate.Check.{Graph}
use Rattle.facts.specs.graph_access_crate.Names.{resolved_exports, export_symbol, export_from_common_js}
use Rattle.facts.specs.graph_access_crate.Words.{module_of}
use Rattle.facts.specs.index_crate.declared.SymbolIdx.{SymbolIdx}
use Rattle.facts.specs.declared.Fact.{Fact}
use Rattle.facts.specs.declared.Fact.TheVariants.{Module, Statement, Use, CheckedUse, Forward, Bailout}
use Rattle.facts.specs.Facts.{kind_of, first_part, module_fact, checked_fact, bailout_fact, Good}
use Rattle.keep_record.specs.declared.Line.{Line}
use Rattle.keep_record.specs.Held.{line_at, lines_of}
use Rattle.keep_record.proofs.Rows.{lines-length, lines_at}
use Rattle.passes.specs.Bailouts.{export_starts, bailout_starts, bailouts_starts}

-- exports from number k on
module _ (rows : List (List ℕ)) (n : ℕ) (size : n ≡ length rows) (k : ℕ) where
  pub exports_over : n ≤ k → export_starts (drop k rows) ≡ []
  unfolding export_starts
  exports_over h = let l : length rows ≤ k = omega (arith, size) in rw (drop_of_length-le rows l)

  module _ (h : k < n) (x : ℕ) (is : x ≡ export_from_common_js (get_or rows k [])) where
    pub exports-here : x ≡ 1 → (s : SymbolIdx) → s.0 ≡ export_symbol (get_or rows k []) → export_starts (drop k rows) ≡ (CheckedUse s (record { bits = 1 }) ∷ []) ++ export_starts (drop (k + 1) rows)
    unfolding export_starts
    exports-here e s q =
        let l : k < length rows = omega (arith, size) in
        let y = eq-eqb (export_from_common_js (get_or rows k [])) 1 (sym is ∙ e) in
        let f : checked_fact (export_symbol (get_or rows k [])) 1 ≡ CheckedUse s (record { bits = 1 }) = ap (λ j. checked_fact j 1) (sym q) in
        rw (drop-cons rows k [] l, y, export_starts) (ap (λ (j : Fact). j ∷ export_starts (drop (suc k) rows)) f ∙ ap (λ j. CheckedUse s (record { bits = 1 }) ∷ export_starts (drop j rows)) (sym (add-one k)))

    pub exports-other : (x ≡ 1 → ⊥) → export_starts (drop k rows) ≡ export_starts (drop (k + 1) rows)
    unfolding export_starts
    exports-other e =
        let l : k < length rows = omega (arith, size) in
        let y = ne_eqb (export_from_common_js (get_or rows k [])) 1 (λ q. e (is ∙ q)) in
        rw (drop-cons rows k [] l, y, export_starts) (ap (λ j. export_starts (drop j rows)) (sym (add-one k)))

-- a fact of kind 6 is a bailout
bailout_fact_lem : (f : Fact) → kind_of f ≡ 6 → f ≡ bailout_fact (first_part f)
bailout_fact_lem (Module m) e = absurd (omega arith)
bailout_fact_lem (Statement m i) e = absurd (omega arith)
bailout_fact_lem (Use s x) e = absurd (omega arith)
bailout_fact_lem (CheckedUse s x) e = absurd (omega arith)
bailout_fact_lem (Forward s) e = absurd (omega arith)
bailout_fact_lem (Bailout m) e = refl

bailout_not : (g : Graph) (f : Fact) → (kind_of f ≡ 6 → ⊥) → bailout_starts g f ≡ []
unfolding bailout_starts
bailout_not g (Module m) e = refl
bailout_not g (Statement m i) e = refl
bailout_not g (Use s x) e = refl
bailout_not g (CheckedUse s x) e = refl
bailout_not g (Forward s) e = refl
bailout_not g (Bailout m) e = absurd (e refl)

-- lines from number k on
module _ (g : Graph) (count : ℕ) (row : List ℕ) (k : ℕ) where
  pub bailouts_over : count ≤ k → bailouts_starts g (drop k (lines_of count row)) ≡ []
  unfolding bailouts_starts
  bailouts_over h = let l : length (lines_of count row) ≤ k = omega (arith, lines-length count row) in rw (drop_of_length-le (lines_of count row) l)

  module _ (h : k < count) (f : Fact) (is : f ≡ (line_at row k).fact) where
    left_is : bailouts_starts g (drop k (lines_of count row)) ≡ bailout_starts g f ++ bailouts_starts g (drop (k + 1) (lines_of count row))
    unfolding bailouts_starts
    left_is =
        let z : Line = record { fact = module_fact 0; rule = 0; because = 0; and = 0 } in
        let l : k < length (lines_of count row) = omega (arith, lines-length count row) in
        let e : f ≡ (get_or (lines_of count row) k z).fact = is ∙ ap (λ (x : Line). x.fact) (sym (lines_at count row k z h)) in
        rw (e, add-one k, drop-cons (lines_of count row) k z l)

    pub bailouts-other : (kind_of f ≡ 6 → ⊥) → bailouts_starts g (drop k (lines_of count row)) ≡ bailouts_starts g (drop (k + 1) (lines_of count row))
    bailouts-other e = left_is ∙ ap (λ (fs : List Fact). fs ++ bailouts_starts g (drop (k + 1) (lines_of count row))) (bailout_not g f e)

    module _ (e : kind_of f ≡ 6) (x : ℕ) (part : x ≡ first_part f) where
      fact_is : f ≡ bailout_fact x
      fact_is = bailout_fact_lem f e ∙ ap (λ y. bailout_fact y) (sym part)

      pub bailouts-here : bailouts_starts g (drop k (lines_of count row)) ≡ export_starts (resolved_exports (module_of g x)) ++ bailouts_starts g (drop (k + 1) (lines_of count row))
      unfolding bailout_starts
      bailouts-here = left_is ∙ ap (λ y. bailout_starts g y ++ bailouts_starts g (drop (k + 1) (lines_of count row))) fact_is

      pub bailout_below : Good g (line_at row k).fact → x < g.header.modules
      bailout_below good = subst (λ (y : Fact). Good g y) (sym is ∙ fact_is) good
