-- A triple of a row.
use Prim.Native.Nat.{ℕ, suc, ◌+◌, ◌*◌, ◌<◌, ◌≤◌}
use mathlib.Core.Path.{◌≡◌, refl, ap, ◌∙◌, sym}
use mathlib.Core.List.{List, [], ◌∷◌, ◌++◌, append_assoc}
use native.Mathlib.Omega.{arith}
use lib.ListN.{length, set, take, drop}
use lib.Seq.{sets-eq, take_at, drop_at, drop-drop}
use Rattle.facts.specs.declared.Fact.{Fact}
use Rattle.facts.specs.Facts.{kind_of, first_part, second_part}
use Rattle.own_starts.specs.Once.{triples}
use Rattle.own_starts.specs.Noting.{Writes}

three_written : (row : List ℕ) (p a b c : ℕ) → p + 3 ≤ length row → set (set (set row p a) (p + 1) b) (p + 2) c ≡ take p row ++ (a ∷ b ∷ c ∷ drop (p + 3) row)
three_written row p a b c h =
    let e1 : p + 1 ≡ suc p = omega arith in
    let e2 : p + 2 ≡ suc (suc p) = omega arith in
    rw (e1, e2) (sets-eq (a ∷ b ∷ c ∷ []) row p h ∙ append_assoc (take p row) (a ∷ b ∷ c ∷ []) (drop (p + 3) row))

module _ (f : Fact) (n : ℕ) (row : List ℕ) where
  pub written_triple : (a b c : ℕ) → 3 * n + 3 ≤ length row → a ≡ kind_of f → b ≡ first_part f → c ≡ second_part f → Writes f n row (set (set (set row (3 * n) a) (3 * n + 1) b) (3 * n + 2) c)
  written_triple a b c h p q r = record { fits = λ _. rw (p, q, r) (three_written row (3 * n) (kind_of f) (first_part f) (second_part f) h); else_same = λ l. absurd (omega (arith, h, l)) }

  pub no_triple : length row < 3 * n + 3 → Writes f n row row
  no_triple h = record { fits = λ l. absurd (omega (arith, h, l)); else_same = λ _. refl }

-- triples of facts
triples-length : (fs : List Fact) → length (triples fs) ≡ 3 * length fs
unfolding triples
triples-length [] = refl
triples-length (f ∷ fs) = omega (arith, triples-length fs)

triples-append : (fs gs : List Fact) → triples (fs ++ gs) ≡ triples fs ++ triples gs
unfolding triples
triples-append [] gs = refl
triples-append (f ∷ fs) gs = ap (λ xs. kind_of f ∷ first_part f ∷ second_part f ∷ xs) (triples-append fs gs)

-- one more triple
pub triples_more : (fs : List Fact) (f : Fact) (n : ℕ) (lent row row' : List ℕ) → n ≡ length fs → length row ≡ length lent → 3 * (n + 1) ≤ length lent
    → row ≡ triples fs ++ drop (3 * n) lent → Writes f n row row' → row' ≡ triples (fs ++ (f ∷ [])) ++ drop (3 * (n + 1)) lent
unfolding triples
triples_more fs f n lent row row' size long room is w =
    let l : length (triples fs) ≡ 3 * n = omega (arith, triples-length fs, size) in
    let z : 3 * n + 3 ≡ 3 * (n + 1) = omega arith in
    let front : take (3 * n) row ≡ triples fs = rw is (take_at (triples fs) (drop (3 * n) lent) (3 * n) l) in
    let rest : drop (3 * n) row ≡ drop (3 * n) lent = rw is (drop_at (triples fs) (drop (3 * n) lent) (3 * n) l) in
    let behind : drop (3 * n + 3) row ≡ drop (3 * (n + 1)) lent = sym (drop-drop 3 (3 * n) row) ∙ ap (λ (xs : List ℕ). drop 3 xs) rest ∙ drop-drop 3 (3 * n) lent ∙ ap (λ k. drop k lent) z in
    w.fits (omega arith)
    ∙ ap (λ xs. xs ++ (kind_of f ∷ first_part f ∷ second_part f ∷ drop (3 * n + 3) row)) front
    ∙ ap (λ xs. triples fs ++ (kind_of f ∷ first_part f ∷ second_part f ∷ xs)) behind
    ∙ sym (append_assoc (triples fs) (triples (f ∷ [])) (drop (3 * (n + 1)) lent))
    ∙ ap (λ xs. xs ++ drop (3 * (n + 1)) lent) (sym (triples-append fs (f ∷ [])))
