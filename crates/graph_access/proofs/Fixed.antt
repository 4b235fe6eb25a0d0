-- Lists of rows of fixed width: where each stands, and its numbers.
use Prim.Native.Nat.{ℕ, zero, suc, ◌+◌, ◌*◌, ◌<◌}
use mathlib.Core.Path.{◌≡◌, refl, ◌∙◌, sym}
use mathlib.Core.Bool.{Bool, true, false}
use mathlib.Core.List.{List, [], ◌∷◌, map}
use native.Mathlib.Omega.{arith}
use lib.ListN.{length, get_or, length-map}
use Rattle.graph.specs.rows_crate.Walk.{got, below, ListRule, list, lists, repeated, plain_row, distinct_row, plain, distinct}
use Rattle.graph.proofs.rows_crate.Cells.{Cells, no_fault}
use Rattle.graph.proofs.rows_crate.Items.{ListRead, list_got, lists_first, rows_end, rows_each, plain_plain}
use Rattle.graph_access.specs.Lists.{place_of, Inside}

-- a rule whose rows are columns below limits
pub record Columns (numbers : List ℕ) (rule : ListRule) (width : ℕ) : Type 0 where
  pub columns : List ℕ
  pub long : length columns ≡ width
  pub plain : (seen : List ℕ) (at : ℕ) (x : List ℕ) (q : ℕ) → rule.row seen at ≡ got x q → plain_row columns numbers [] at ≡ got x q

abbrev pub AllColumns : List ℕ → List ListRule → List ℕ → Type 0
AllColumns numbers [] [] = Unit {0}
AllColumns numbers [] (w ∷ ws) = ⊥
AllColumns numbers (r ∷ rs) [] = ⊥
AllColumns numbers (r ∷ rs) (w ∷ ws) = Columns numbers r w × AllColumns numbers rs ws

pub distinct_plain : (columns numbers seen : List ℕ) (at : ℕ) (x : List ℕ) (q : ℕ) → distinct_row columns numbers seen at ≡ got x q → plain_row columns numbers [] at ≡ got x q
unfolding distinct_row plain_row
distinct_plain columns numbers seen at x q e = go (repeated numbers seen at) refl
  where
    go : (b : Bool) → repeated numbers seen at ≡ b → plain_row columns numbers [] at ≡ got x q
    go true u = absurd (no_fault (rw (u, distinct_row) at e))
    go false u = rw (u, distinct_row) at e

-- whatever its count may be
abbrev pub plain_columns : (numbers columns : List ℕ) (counts : ℕ) → Columns numbers (record { counts = counts; row = plain_row columns numbers }) (length columns)
plain_columns numbers columns counts = record { columns = columns; long = refl; plain = plain_plain columns numbers }

abbrev pub of_plain : (numbers columns : List ℕ) → Columns numbers (plain numbers columns) (length columns)
of_plain numbers columns = plain_columns numbers columns 16385

abbrev pub of_distinct : (numbers columns : List ℕ) → Columns numbers (distinct numbers columns) (length columns)
of_distinct numbers columns = record { columns = columns; long = refl; plain = distinct_plain columns numbers }

-- a list of such rows, with its count at p
pub record Stands (numbers : List ℕ) (p width : ℕ) (xs : List (List ℕ)) : Type 0 where
  pub inside : p < length numbers
  pub counted : get_or numbers p 0 ≡ length xs
  pub here : (k c : ℕ) → k < length xs → c < width → p + 1 + width * k + c < length numbers
  pub same : (k c : ℕ) → k < length xs → c < width → get_or (get_or xs k []) c 0 ≡ get_or numbers (p + 1 + width * k + c) 0

module _ (numbers : List ℕ) (r : ListRule) (w : ℕ) (f : Columns numbers r w) (at : ℕ) {xs : List (List ℕ)} {q : ℕ} (e : list r numbers at ≡ got xs q) where
  its : ListRead r numbers at xs q
  its = list_got r numbers at e

  row : (k : ℕ) → k < length xs → Cells (map (λ l. below l) f.columns) numbers (at + 1 + w * k) (get_or xs k []) (at + 1 + w * k + w)
  row k l = rw f.long at (rows_each f.columns numbers r.row f.plain (length xs) [] (at + 1) its.rows k l)

  size : length (map (λ l. below l) f.columns) ≡ w
  size = length-map f.columns (λ l. below l) ∙ f.long

  pub stands : Stands numbers at w xs
  stands =
      record {
        inside = its.inside;
        counted = its.counted;
        here = λ k c l m. (row k l).inside c (omega (arith, size, m));
        same = λ k c l m. (row k l).same c (omega (arith, size, m));
      }

  pub behind : q ≡ at + 1 + w * get_or numbers at 0
  behind = rw its.counted (rw f.long at (rows_end f.columns numbers r.row f.plain (length xs) [] (at + 1) its.rows))

-- list j of several
pub each_stands : (numbers : List ℕ) (rs : List ListRule) (ws : List ℕ) → AllColumns numbers rs ws → (at : ℕ) {ls : List (List (List ℕ))} {q : ℕ} → lists rs numbers at ≡ got ls q
    → (j : ℕ) → j < length ws → Stands numbers (place_of numbers at ws j) (get_or ws j 0) (get_or ls j [])
unfolding place_of
each_stands numbers [] [] a at e j h = absurd (omega arith)
each_stands numbers [] (w ∷ ws) a at e j h = absurd a
each_stands numbers (r ∷ rs) [] a at e j h = absurd a
each_stands numbers (r ∷ rs) (w ∷ ws) a at {ls} {q} e zero h = let f = lists_first r rs numbers at e in rw f.is (stands numbers r w a.0 at f.here)
each_stands numbers (r ∷ rs) (w ∷ ws) a at {ls} {q} e (suc j) h =
    let f = lists_first r rs numbers at e in
    let b = behind numbers r w a.0 at f.here in
    rw (f.is, sym b) (each_stands numbers rs ws a.1 f.end f.there j (omega arith))

pub each_inside : (numbers : List ℕ) (rs : List ListRule) (ws : List ℕ) → AllColumns numbers rs ws → (at : ℕ) {ls : List (List (List ℕ))} {q : ℕ} → lists rs numbers at ≡ got ls q
    → (j : ℕ) → j < length ws → Inside numbers at ws j
each_inside numbers rs ws a at e j h = record { known = h; counted = λ i l. (each_stands numbers rs ws a at e i (omega arith)).inside }

-- one list further
pub place_next : (numbers : List ℕ) (at : ℕ) (ws : List ℕ) (i : ℕ) → i < length ws → place_of numbers at ws (i + 1) ≡ place_of numbers at ws i + 1 + get_or ws i 0 * get_or numbers (place_of numbers at ws i) 0
unfolding place_of
place_next numbers at [] i h = absurd (omega arith)
place_next numbers at (w ∷ ws) zero h = refl
place_next numbers at (w ∷ ws) (suc i) h = let e : suc i + 1 ≡ suc (i + 1) = omega arith in rw e (place_next numbers (at + 1 + w * get_or numbers at 0) ws i (omega arith))

-- where a turn of the search for a list stands, and where the next does
module _ (numbers : List ℕ) (at : ℕ) (ws : List ℕ) (j : ℕ) (h : Inside numbers at ws j) (i p : ℕ) (is : p ≡ place_of numbers at ws i) (l : i < j) where
  pub turn_width : i < length ws
  turn_width = omega (arith, h.known)

  pub turn_inside : p < length numbers
  turn_inside = rw is (h.counted i (omega arith))

  pub turn_next : p + 1 + get_or ws i 0 * get_or numbers p 0 ≡ place_of numbers at ws (i + 1)
  turn_next = rw is (sym (place_next numbers at ws i turn_width))

  pub turn_ends : p + 1 + get_or ws i 0 * get_or numbers p 0 < length numbers
  turn_ends = rw turn_next (h.counted (i + 1) (omega arith))
