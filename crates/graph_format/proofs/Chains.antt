-- Walks one behind another: each goes on from where the one before it ended, or has its fault.
use Prim.Native.Nat.{ℕ, ◌<◌}
use mathlib.Core.Path.{◌≡◌, refl, ap, ◌∙◌, sym}
use mathlib.Core.List.{List, [], ◌∷◌, ◌++◌, map}
use native.Mathlib.Omega.{arith}
use lib.ListN.{length}
use Rattle.rows.specs.Walk.{got, fault, and_then, Rule, below, number, cells, ListRule, list, lists, plain_row, item, walk_of, onward}
use Rattle.rows.proofs.Walks.{cells_cons, lists_cons, walk-map, onward_at, onward_fault, at_got, fault_is}
use Rattle.rows.proofs.Cells.{Cells, cells_got}
use Rattle.std.specs.Prelude.{Result, Ok, Err}
use Rattle.rows.specs.refusal_crate.declared.Refusal.{Refusal}

-- a walk that ends where another does ends as that one
pub onward_end : (w : Result ℕ Refusal) → onward w (λ q. Ok q) ≡ w
unfolding onward
onward_end (Ok q) = refl
onward_end (Err why) = refl

onward_onward : (w : Result ℕ Refusal) (f g : ℕ → Result ℕ Refusal) → onward (onward w f) g ≡ onward w (λ q. onward (f q) g)
unfolding onward
onward_onward (Ok q) f g = refl
onward_onward (Err why) f g = refl

onward_same : (w : Result ℕ Refusal) (f g : ℕ → Result ℕ Refusal) → ((q : ℕ) → f q ≡ g q) → onward w f ≡ onward w g
unfolding onward
onward_same (Ok q) f g h = h q
onward_same (Err why) f g h = refl

pub cells-append : (xs ys : List Rule) (numbers : List ℕ) (at : ℕ)
    → walk_of (cells (xs ++ ys) numbers at) ≡ onward (walk_of (cells xs numbers at)) (λ q. walk_of (cells ys numbers q))
unfolding cells walk_of onward
cells-append [] ys numbers at = refl
cells-append (a ∷ xs) ys numbers at =
    cells_cons a (xs ++ ys) numbers at
    ∙ onward_same (walk_of (number a numbers at)) (λ q. walk_of (cells (xs ++ ys) numbers q)) (λ q. onward (walk_of (cells xs numbers q)) (λ p. walk_of (cells ys numbers p)))
    (λ q. cells-append xs ys numbers q)
    ∙ sym (onward_onward (walk_of (number a numbers at)) (λ q. walk_of (cells xs numbers q)) (λ p. walk_of (cells ys numbers p)))
    ∙ ap (λ w. onward w (λ q. walk_of (cells ys numbers q))) (sym (cells_cons a xs numbers at))

pub lists-append : (xs ys : List ListRule) (numbers : List ℕ) (at : ℕ)
    → walk_of (lists (xs ++ ys) numbers at) ≡ onward (walk_of (lists xs numbers at)) (λ q. walk_of (lists ys numbers q))
unfolding lists walk_of onward
lists-append [] ys numbers at = refl
lists-append (a ∷ xs) ys numbers at =
    lists_cons a (xs ++ ys) numbers at
    ∙ onward_same (walk_of (list a numbers at)) (λ q. walk_of (lists (xs ++ ys) numbers q)) (λ q. onward (walk_of (lists xs numbers q)) (λ p. walk_of (lists ys numbers p)))
    (λ q. lists-append xs ys numbers q)
    ∙ sym (onward_onward (walk_of (list a numbers at)) (λ q. walk_of (lists xs numbers q)) (λ p. walk_of (lists ys numbers p)))
    ∙ ap (λ w. onward w (λ q. walk_of (lists ys numbers q))) (sym (lists_cons a xs numbers at))

-- one number, then the others
module _ (r : Rule) (rs : List Rule) (numbers : List ℕ) (at : ℕ) where
  pub cells_go : {q : ℕ} → walk_of (number r numbers at) ≡ Ok q → walk_of (cells (r ∷ rs) numbers at) ≡ walk_of (cells rs numbers q)
  cells_go e = cells_cons r rs numbers at ∙ onward_at _ e

  pub cells_stop : {why : Refusal} → walk_of (number r numbers at) ≡ Err why → walk_of (cells (r ∷ rs) numbers at) ≡ Err why
  cells_stop e = cells_cons r rs numbers at ∙ onward_fault _ e

-- a row of numbers below their limits, then the others
module _ (columns : List ℕ) (rs : List Rule) (numbers : List ℕ) (at : ℕ) where
  pub row_go : {q : ℕ} → walk_of (plain_row columns numbers [] at) ≡ Ok q → walk_of (cells (map (λ l. below l) columns ++ rs) numbers at) ≡ walk_of (cells rs numbers q)
  unfolding plain_row
  row_go e = cells-append (map (λ l. below l) columns) rs numbers at ∙ onward_at _ e

  pub row_stop : {why : Refusal} → walk_of (plain_row columns numbers [] at) ≡ Err why → walk_of (cells (map (λ l. below l) columns ++ rs) numbers at) ≡ Err why
  unfolding plain_row
  row_stop e = cells-append (map (λ l. below l) columns) rs numbers at ∙ onward_fault _ e

-- numbers that were read are there
pub cells_inside : (r : Rule) (rs : List Rule) (numbers : List ℕ) (at : ℕ) {q : ℕ} → walk_of (cells (r ∷ rs) numbers at) ≡ Ok q → at < length numbers
cells_inside r rs numbers at {q} e = let g = at_got (cells (r ∷ rs) numbers at) q e in omega (arith, (cells_got (r ∷ rs) numbers at g.1).inside 0 (omega arith))

-- one list, then the others
module _ (r : ListRule) (rs : List ListRule) (numbers : List ℕ) (at : ℕ) where
  pub lists_go : {q : ℕ} → walk_of (list r numbers at) ≡ Ok q → walk_of (lists (r ∷ rs) numbers at) ≡ walk_of (lists rs numbers q)
  lists_go e = lists_cons r rs numbers at ∙ onward_at _ e

  pub lists_stop : {why : Refusal} → walk_of (list r numbers at) ≡ Err why → walk_of (lists (r ∷ rs) numbers at) ≡ Err why
  lists_stop e = lists_cons r rs numbers at ∙ onward_fault _ e

pub lists_one : (r : ListRule) (numbers : List ℕ) (at : ℕ) → walk_of (lists (r ∷ []) numbers at) ≡ walk_of (list r numbers at)
unfolding lists walk_of
lists_one r numbers at = lists_cons r [] numbers at ∙ onward_end _

-- some lists, then the others
module _ (xs ys : List ListRule) (numbers : List ℕ) (at : ℕ) where
  pub group_go : {q : ℕ} → walk_of (lists xs numbers at) ≡ Ok q → walk_of (lists (xs ++ ys) numbers at) ≡ walk_of (lists ys numbers q)
  group_go e = lists-append xs ys numbers at ∙ onward_at _ e

  pub group_stop : {why : Refusal} → walk_of (lists xs numbers at) ≡ Err why → walk_of (lists (xs ++ ys) numbers at) ≡ Err why
  group_stop e = lists-append xs ys numbers at ∙ onward_fault _ e

-- an item: its leading numbers, then its lists
module _ (rules : List Rule) (rest : List ℕ → List ListRule) (numbers : List ℕ) (at : ℕ) where
  pub item_stop : {why : Refusal} → walk_of (cells rules numbers at) ≡ Err why → walk_of (item rules rest numbers at) ≡ Err why
  unfolding item walk_of and_then
  item_stop {why} e = ap walk_of (halted (fault_is (cells rules numbers at) why e))
    where
      halted : cells rules numbers at ≡ fault why → item rules rest numbers at ≡ fault why
      halted f = rw (f, item, and_then)

  item_got : {q : ℕ} {h : List ℕ} → cells rules numbers at ≡ got h q → walk_of (item rules rest numbers at) ≡ walk_of (lists (rest h) numbers q)
  unfolding item and_then
  item_got {q} {h} e = rw (e, item, and_then) (walk-map (lists (rest h) numbers q) (λ ls. record { place = at; head = h; rows = ls }))

  -- what its leading numbers are, and that its lists go by them
  pub item_go : {q : ℕ} → walk_of (cells rules numbers at) ≡ Ok q
      → (h : List ℕ) × Cells rules numbers at h q × (walk_of (item rules rest numbers at) ≡ walk_of (lists (rest h) numbers q))
  item_go {q} e = let g = at_got (cells rules numbers at) q e in (g.0, cells_got rules numbers at g.1, item_got g.1)
