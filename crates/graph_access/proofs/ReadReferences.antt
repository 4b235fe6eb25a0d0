-- References that were read stand one behind another.
use Prim.Native.Nat.{ℕ, zero, suc, ◌+◌, ◌<◌, ◌≤◌}
use mathlib.Core.Path.{◌≡◌, refl, ap, ◌∙◌, sym}
use mathlib.Core.Logic.{◌≢◌}
use mathlib.Core.List.{List, [], ◌∷◌, map}
use native.Mathlib.Omega.{arith}
use borrow.Author.Tests.{ne_eqb}
use lib.ListN.{length, get_or, length-map}
use Rattle.graph.specs.rows_crate.Walk.{got, below, any, number, cells, many, list, plain, firsts}
use Rattle.graph.proofs.rows_crate.Cells.{then_got, Number, number_got, Cells, cells_got}
use Rattle.graph.proofs.rows_crate.Items.{got_same, many_first}
use Rattle.graph.specs.graph_format_crate.Format.{depended_at, member_rules, parts_at, reference_at}
use Rattle.graph_access.specs.References.{reference_width, ReferenceAt, ReferencesAt}
use Rattle.graph_access.proofs.Column.{Column, column}

-- the width by the kind
module _ (numbers : List ℕ) (at : ℕ) where
  pub width_0 : get_or numbers at 0 ≡ 0 → reference_width numbers at ≡ 2
  unfolding reference_width
  width_0 e = rw (e, reference_width)

  pub width_1 : get_or numbers at 0 ≡ 1 → reference_width numbers at ≡ 1
  unfolding reference_width
  width_1 e = rw (e, e, reference_width)

  pub width_2 : get_or numbers at 0 ≡ 2 → reference_width numbers at ≡ 4 + get_or numbers (at + 3) 0
  unfolding reference_width
  width_2 e = rw (e, e, e, reference_width)

  pub width_3 : get_or numbers at 0 ≡ 3 → reference_width numbers at ≡ 5
  unfolding reference_width
  width_3 e = rw (e, e, e, reference_width)

  pub width_other : get_or numbers at 0 ≢ 0 → get_or numbers at 0 ≢ 1 → get_or numbers at 0 ≢ 2 → reference_width numbers at ≡ 5
  unfolding reference_width
  width_other a b c = rw (ne_eqb _ _ a, ne_eqb _ _ b, ne_eqb _ _ c, reference_width)

  width_some : (k : ℕ) → get_or numbers at 0 ≡ k → 1 ≤ reference_width numbers at
  width_some zero e = omega (arith, width_0 e)
  width_some (suc zero) e = omega (arith, width_1 e)
  width_some (suc (suc zero)) e = omega (arith, width_2 e)
  width_some (suc (suc (suc k))) e = let w = width_other (λ z. omega (arith, e)) (λ z. omega (arith, e)) (λ z. omega (arith, e)) in omega (arith, w)

  -- its numbers are there
  pub kind_inside : at + reference_width numbers at ≤ length numbers → at < length numbers
  kind_inside h = omega (arith, width_some (get_or numbers at 0) refl)

  pub count_inside : at + reference_width numbers at ≤ length numbers → get_or numbers at 0 ≡ 2 → at + 3 < length numbers
  count_inside h e = omega (arith, width_2 e)

-- the first numbers of rows
pub first_number : (ds : List (List ℕ)) (k : ℕ) → get_or (map (λ d. get_or d 0 0) ds) k 0 ≡ get_or (get_or ds k []) 0 0
first_number [] k = refl
first_number (d ∷ ds) zero = refl
first_number (d ∷ ds) (suc k) = first_number ds k

abbrev Read : List ℕ → ℕ → List ℕ → ℕ → Type 0
Read numbers at row q = ReferenceAt numbers at row × (q ≡ at + reference_width numbers at)

module _ (symbols : ℕ) (numbers : List ℕ) (at : ℕ) {xs : List ℕ} {q : ℕ} (a : at < length numbers) where
  read_0 : get_or numbers at 0 ≡ 0 → parts_at 0 symbols numbers (at + 1) ≡ got xs q → Read numbers at (0 ∷ xs) q
  unfolding parts_at
  read_0 s e =
      let c = cells_got (below symbols ∷ []) numbers (at + 1) e in
      let w = width_0 numbers at s in
      let z : at + 1 + 0 ≡ at + 1 = omega arith in (
        record {
          inside = omega (arith, w, c.inside 0 (omega arith));
          kind = sym s;
          few = omega arith;
          symbol = λ o. rw z at (c.same 0 (omega arith));
          resolved = λ o. absurd (omega (arith, o));
          depended = λ o. absurd (omega (arith, o));
          depends = λ o. absurd (omega (arith, o));
          member = λ o. absurd (omega (arith, o));
        },
        omega (arith, c.next, w),
      )

  read_1 : get_or numbers at 0 ≡ 1 → parts_at 1 symbols numbers (at + 1) ≡ got xs q → Read numbers at (1 ∷ xs) q
  unfolding parts_at
  read_1 s e =
      let w = width_1 numbers at s in (
        record {
          inside = omega (arith, w, a);
          kind = sym s;
          few = omega arith;
          symbol = λ o. absurd (omega (arith, o));
          resolved = λ o. absurd (omega (arith, o));
          depended = λ o. absurd (omega (arith, o));
          depends = λ o. absurd (omega (arith, o));
          member = λ o. absurd (omega (arith, o));
        },
        omega (arith, (got_same e).1, w),
      )

  read_3 : get_or numbers at 0 ≡ 3 → parts_at 3 symbols numbers (at + 1) ≡ got xs q → Read numbers at (3 ∷ xs) q
  unfolding parts_at member_rules
  read_3 s e =
      let c = cells_got (below symbols ∷ below 2 ∷ below any ∷ below any ∷ []) numbers (at + 1) e in
      let w = width_3 numbers at s in (
        record {
          inside = omega (arith, w, c.inside 3 (omega arith));
          kind = sym s;
          few = omega arith;
          symbol = λ o. absurd (omega (arith, o));
          resolved = λ o. absurd (omega (arith, o));
          depended = λ o. absurd (omega (arith, o));
          depends = λ o. absurd (omega (arith, o));
          member = λ o. each c;
        },
        omega (arith, c.next, w),
      )
    where
      each : Cells (below symbols ∷ below 2 ∷ below any ∷ below any ∷ []) numbers (at + 1) xs q → (j : ℕ) → j < 5 → get_or (3 ∷ xs) j 0 ≡ get_or numbers (at + j) 0
      each c zero l = let z : at + 0 ≡ at = omega arith in rw z (sym s)
      each c (suc j) l = let z : at + 1 + j ≡ at + suc j = omega arith in rw z at (c.same j (omega arith))

  -- a symbol, whether its target is CommonJS, and symbols that it depends on
  module _ (parts : List ℕ) (ds : List (List ℕ)) (s : get_or numbers at 0 ≡ 2) (c : Cells (below symbols ∷ below 2 ∷ []) numbers (at + 1) parts (at + 3)) (d : Column numbers (at + 3) ds q)
      (is : get_or parts 0 0 ∷ get_or parts 1 0 ∷ map (λ x. get_or x 0 0) ds ≡ xs) where
    three : (j : ℕ) → j < 3 → get_or (2 ∷ get_or parts 0 0 ∷ get_or parts 1 0 ∷ map (λ x. get_or x 0 0) ds) j 0 ≡ get_or numbers (at + j) 0
    three zero l = let z : at + 0 ≡ at = omega arith in rw z (sym s)
    three (suc zero) l = let z : at + 1 + 0 ≡ at + 1 = omega arith in rw z at (c.same 0 (omega arith))
    three (suc (suc zero)) l = let z : at + 1 + 1 ≡ at + 2 = omega arith in rw z at (c.same 1 (omega arith))
    three (suc (suc (suc j))) l = absurd (omega arith)

    four : (k : ℕ) → k < get_or numbers (at + 3) 0 → get_or (2 ∷ get_or parts 0 0 ∷ get_or parts 1 0 ∷ map (λ x. get_or x 0 0) ds) (3 + k) 0 ≡ get_or numbers (at + 4 + k) 0
    four k l =
        let y : 3 + k ≡ suc (suc (suc k)) = omega arith in
        let z : at + 3 + 1 + k ≡ at + 4 + k = omega arith in
        rw y (first_number ds k ∙ rw z at (d.same k (omega (arith, d.counted))))

    is-2 : Read numbers at (2 ∷ xs) q
    is-2 =
        let w = width_2 numbers at s in
        rw (sym is) (
          record {
            inside = omega (arith, w, d.fits, d.counted);
            kind = sym s;
            few = omega arith;
            symbol = λ o. absurd (omega (arith, o));
            resolved = λ o. three;
            depended = λ o. omega (arith, length-map ds (λ x. get_or x 0 0), d.counted);
            depends = λ o. four;
            member = λ o. absurd (omega (arith, o));
          },
          omega (arith, d.next, d.counted, w),
        )

  of_parts : (parts : List ℕ) (ds : List (List ℕ)) (p : ℕ) → get_or numbers at 0 ≡ 2 → p ≡ at + 3 → Cells (below symbols ∷ below 2 ∷ []) numbers (at + 1) parts p
      → list (plain numbers (symbols ∷ [])) numbers p ≡ got ds q → get_or parts 0 0 ∷ get_or parts 1 0 ∷ map (λ x. get_or x 0 0) ds ≡ xs → Read numbers at (2 ∷ xs) q
  of_parts parts ds p s n c f is = is-2 parts ds s (rw n at c) (column symbols numbers (at + 3) (rw n at f)) is

  read_2 : get_or numbers at 0 ≡ 2 → parts_at 2 symbols numbers (at + 1) ≡ got xs q → Read numbers at (2 ∷ xs) q
  unfolding parts_at depended_at
  read_2 s e =
      let t = then_got (cells (below symbols ∷ below 2 ∷ []) numbers (at + 1)) _ e in
      let c = cells_got _ numbers (at + 1) t.2 in
      let n : t.1 ≡ at + 3 = omega (arith, c.next) in
      let u = then_got (list (plain numbers (symbols ∷ [])) numbers t.1) _ t.3 in
      let w = got_same u.3 in
      let f : list (plain numbers (symbols ∷ [])) numbers t.1 ≡ got u.0 q = u.2 ∙ ap (got u.0) w.1 in
      of_parts t.0 u.0 t.1 s n c f w.0

  by_kind : (kind : ℕ) → get_or numbers at 0 ≡ kind → kind < 4 → parts_at kind symbols numbers (at + 1) ≡ got xs q → Read numbers at (kind ∷ xs) q
  by_kind zero s l e = read_0 s e
  by_kind (suc zero) s l e = read_1 s e
  by_kind (suc (suc zero)) s l e = read_2 s e
  by_kind (suc (suc (suc zero))) s l e = read_3 s e
  by_kind (suc (suc (suc (suc k)))) s l e = absurd (omega arith)

module _ (symbols : ℕ) (numbers : List ℕ) where
  of_kind : (at kind p : ℕ) (parts row : List ℕ) (q : ℕ) → Number (below 4) numbers at kind p → parts_at kind symbols numbers p ≡ got parts q → kind ∷ parts ≡ row → Read numbers at row q
  of_kind at kind p parts row q n f is =
      let b = n.next in
      rw (sym is) (by_kind symbols numbers at n.inside kind (sym n.same) n.good.1 (rw b at f))

  reference_at_lem : (seen : List ℕ) (at : ℕ) {row : List ℕ} {q : ℕ} → reference_at symbols numbers seen at ≡ got row q → Read numbers at row q
  unfolding reference_at
  reference_at_lem seen at {row} {q} e =
      let t = then_got (number (below 4) numbers at) _ e in
      let n = number_got _ numbers at t.2 in
      let u = then_got (parts_at t.0 symbols numbers t.1) _ t.3 in
      let w = got_same u.3 in
      let f : parts_at t.0 symbols numbers t.1 ≡ got u.0 q = u.2 ∙ ap (got u.0) w.1 in
      of_kind at t.0 t.1 u.0 row q n f w.0

  pub references_at : (k : ℕ) (seen : List ℕ) (at : ℕ) {rows : List (List ℕ)} {q : ℕ} → many (reference_at symbols numbers) firsts k seen at ≡ got rows q → ReferencesAt numbers at rows
  unfolding many
  references_at zero seen at {rows} {q} e = rw (sym (got_same e).0) tt
  references_at (suc k) seen at {rows} {q} e =
      let f = many_first _ _ k seen at e in
      let r = reference_at_lem seen at f.here in
      let n = r.1 in
      rw f.is (r.0, rw n at (references_at k _ f.end f.there))
