-- What was read without a fault: the things of a list one by one, the parts of an item, the rows of a list.
use Prim.Native.Nat.{ℕ, zero, suc, ◌+◌, ◌*◌, ◌<◌, ◌≤◌}
use mathlib.Core.Path.{◌≡◌, refl, ap, ◌∙◌, sym}
use mathlib.Core.List.{List, [], ◌∷◌, map}
use native.Mathlib.Nat.{mul-suc, mul-zero}
use native.Mathlib.Omega.{arith}
use lib.ListN.{length, get_or, length-map}
use Rattle.rows.specs.Walk.{Parsed, got, Rule, count, below, number, cells, many, ListRule, firsts, list, lists, plain_row, Item, item}
use Rattle.rows.proofs.Cells.{then_got, number_got, Cells, cells_got}

pub got_same : {A : Type 0} {a b : A} {p q : ℕ} → ◌≡◌ {A = Parsed A} (got a p) (got b q) → (a ≡ b) × (p ≡ q)
got_same e = (cc, cc)

-- the first of several things, and the rest
pub record First {S A : Type 0} (step : S → ℕ → Parsed A) (next : S → A → S) (k : ℕ) (s : S) (at : ℕ) (xs : List A) (q : ℕ) : Type 0 where
  pub one : A
  pub others : List A
  pub end : ℕ
  pub is : xs ≡ one ∷ others
  pub here : step s at ≡ got one end
  pub there : many step next k (next s one) end ≡ got others q

pub many_first : {S A : Type 0} (step : S → ℕ → Parsed A) (next : S → A → S) (k : ℕ) (s : S) (at : ℕ) {xs : List A} {q : ℕ}
    → many step next (suc k) s at ≡ got xs q → First step next k s at xs q
unfolding many
many_first step next k s at {xs} {q} e =
    let t = then_got (step s at) _ e in
    let u = then_got (many step next k (next s t.0) t.1) _ t.3 in
    let w = got_same u.3 in
    record { one = t.0; others = u.0; end = t.1; is = sym w.0; here = t.2; there = u.2 ∙ ap (got u.0) w.1 }

-- thing i was read from some place
pub record One {S A : Type 0} (step : S → ℕ → Parsed A) (x : A) : Type 0 where
  pub state : S
  pub at : ℕ
  pub end : ℕ
  pub read : step state at ≡ got x end

module _ {S A : Type 0} (step : S → ℕ → Parsed A) (next : S → A → S) where
  pub many-length : (k : ℕ) (s : S) (at : ℕ) {xs : List A} {q : ℕ} → many step next k s at ≡ got xs q → length xs ≡ k
  unfolding many
  many-length zero s at e = sym (ap length (got_same e).0)
  many-length (suc k) s at {xs} {q} e = let f = many_first step next k s at e in ap length f.is ∙ ap suc (many-length k (next s f.one) f.end f.there)

  pub many_each : (d : A) (k : ℕ) (s : S) (at : ℕ) {xs : List A} {q : ℕ} → many step next k s at ≡ got xs q → (i : ℕ) → i < k → One step (get_or xs i d)
  many_each d zero s at e i h = absurd (omega arith)
  many_each d (suc k) s at {xs} {q} e zero h =
      let f = many_first step next k s at e in
      record { state = s; at = at; end = f.end; read = f.here ∙ ap (λ l. got (get_or l 0 d) f.end) (sym f.is) }
  many_each d (suc k) s at {xs} {q} e (suc i) h =
      let f = many_first step next k s at e in
      rw f.is (many_each d k (next s f.one) f.end f.there i (omega arith))

-- the parts of an item
pub record ItemRead (rules : List Rule) (rest : List ℕ → List ListRule) (numbers : List ℕ) (at : ℕ) (x : Item) (q : ℕ) : Type 0 where
  pub place : x.place ≡ at
  pub head : Cells rules numbers at x.head (at + length rules)
  pub rows : lists (rest x.head) numbers (at + length rules) ≡ got x.rows q

pub item_got : (rules : List Rule) (rest : List ℕ → List ListRule) (numbers : List ℕ) (at : ℕ) {x : Item} {q : ℕ} → item rules rest numbers at ≡ got x q → ItemRead rules rest numbers at x q
unfolding item
item_got rules rest numbers at {x} {q} e =
    let t = then_got (cells rules numbers at) _ e in
    let u = then_got (lists (rest t.0) numbers t.1) _ t.3 in
    let w = got_same u.3 in
    let c = cells_got rules numbers at t.2 in
    parts t.0 t.1 u.0 w.0 c (u.2 ∙ ap (got u.0) w.1)
  where
    parts : (h : List ℕ) (p : ℕ) (ls : List (List (List ℕ))) → record { place = at; head = h; rows = ls } ≡ x → Cells rules numbers at h p → lists (rest h) numbers p ≡ got ls q → ItemRead rules rest numbers at x q
    parts h p ls is c f =
        let n = c.next in
        rw (sym is) (record { place = refl; head = rw n at c; rows = rw n at f })

-- a list: its count, then its rows
pub record ListRead (rule : ListRule) (numbers : List ℕ) (at : ℕ) (xs : List (List ℕ)) (q : ℕ) : Type 0 where
  pub inside : at < length numbers
  pub counted : get_or numbers at 0 ≡ length xs
  pub few : length xs ≤ 16384
  pub allowed : length xs < rule.counts
  pub rows : many rule.row firsts (length xs) [] (at + 1) ≡ got xs q

pub list_got : (rule : ListRule) (numbers : List ℕ) (at : ℕ) {xs : List (List ℕ)} {q : ℕ} → list rule numbers at ≡ got xs q → ListRead rule numbers at xs q
unfolding list
list_got rule numbers at {xs} {q} e =
    let t = then_got (number (count 16384 0 rule.counts) numbers at) _ e in
    let n = number_got _ numbers at t.2 in
    let l = many-length rule.row firsts t.0 [] t.1 t.3 in
    record {
      inside = n.inside;
      counted = sym n.same ∙ sym l;
      few = omega (arith, l, n.good.0);
      allowed = omega (arith, l, n.good.2);
      rows = rw (sym l, n.next) at t.3;
    }

-- rows of fixed width, in a list that is plain or distinct
module _ (columns numbers : List ℕ) (row : List ℕ → ℕ → Parsed (List ℕ))
    (plain : (seen : List ℕ) (at : ℕ) (x : List ℕ) (q : ℕ) → row seen at ≡ got x q → plain_row columns numbers [] at ≡ got x q) where
  read : (seen : List ℕ) (at : ℕ) {x : List ℕ} {q : ℕ} → row seen at ≡ got x q → Cells (map (λ l. below l) columns) numbers at x (at + length columns)
  unfolding plain_row
  read seen at {x} {q} e =
      let c = cells_got _ numbers at (plain seen at x q e) in
      let n : q ≡ at + length columns = c.next ∙ ap (λ j. at + j) (length-map columns (λ l. below l)) in
      rw n at c

  ends : (seen : List ℕ) (at : ℕ) {x : List ℕ} {q : ℕ} → row seen at ≡ got x q → q ≡ at + length columns
  unfolding plain_row
  ends seen at {x} {q} e = (cells_got _ numbers at (plain seen at x q e)).next ∙ ap (λ j. at + j) (length-map columns (λ l. below l))

  pub rows_end : (k : ℕ) (seen : List ℕ) (at : ℕ) {xs : List (List ℕ)} {q : ℕ} → many row firsts k seen at ≡ got xs q → q ≡ at + length columns * k
  unfolding many
  rows_end zero seen at e = omega (arith, (got_same e).1, mul-zero (length columns))
  rows_end (suc k) seen at e =
      let f = many_first row firsts k seen at e in
      omega (arith, rows_end k _ f.end f.there, ends seen at f.here, mul-suc (length columns) k)

  pub rows_each : (k : ℕ) (seen : List ℕ) (at : ℕ) {xs : List (List ℕ)} {q : ℕ} → many row firsts k seen at ≡ got xs q → (i : ℕ) → i < k
      → Cells (map (λ l. below l) columns) numbers (at + length columns * i) (get_or xs i []) (at + length columns * i + length columns)
  rows_each zero seen at e i h = absurd (omega arith)
  rows_each (suc k) seen at {xs} {q} e zero h =
      let f = many_first row firsts k seen at e in
      let z : at + length columns * 0 ≡ at = omega (arith, mul-zero (length columns)) in
      rw (z, f.is) (read seen at f.here)
  rows_each (suc k) seen at {xs} {q} e (suc i) h =
      let f = many_first row firsts k seen at e in
      let z : f.end + length columns * i ≡ at + length columns * suc i = omega (arith, ends seen at f.here, mul-suc (length columns) i) in
      rw (f.is, sym z) (rows_each k _ f.end f.there i (omega arith))

pub plain_plain : (columns numbers seen : List ℕ) (at : ℕ) (x : List ℕ) (q : ℕ) → plain_row columns numbers seen at ≡ got x q → plain_row columns numbers [] at ≡ got x q
unfolding plain_row
plain_plain columns numbers seen at x q e = e

-- the first of several lists, and the others
pub record FirstList (r : ListRule) (rs : List ListRule) (numbers : List ℕ) (at : ℕ) (ls : List (List (List ℕ))) (q : ℕ) : Type 0 where
  pub one : List (List ℕ)
  pub others : List (List (List ℕ))
  pub end : ℕ
  pub is : ls ≡ one ∷ others
  pub here : list r numbers at ≡ got one end
  pub there : lists rs numbers end ≡ got others q

pub lists_first : (r : ListRule) (rs : List ListRule) (numbers : List ℕ) (at : ℕ) {ls : List (List (List ℕ))} {q : ℕ} → lists (r ∷ rs) numbers at ≡ got ls q → FirstList r rs numbers at ls q
unfolding lists
lists_first r rs numbers at {ls} {q} e =
    let t = then_got (list r numbers at) _ e in
    let u = then_got (lists rs numbers t.1) _ t.3 in
    let w = got_same u.3 in
    record { one = t.0; others = u.0; end = t.1; is = sym w.0; here = t.2; there = u.2 ∙ ap (got u.0) w.1 }
