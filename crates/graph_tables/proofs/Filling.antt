-- A loop that reads items and writes their places into a table, from word `base` on.
use Prim.Native.Nat.{ℕ, ◌+◌, ◌<◌, ◌≤◌}
use mathlib.Core.Path.{◌≡◌, ap, ◌∙◌, sym}
use mathlib.Core.List.{List, [], ◌∷◌, ◌++◌}
use native.Mathlib.Omega.{arith}
use borrow.Author.Count.{below_more}
use lib.ListN.{length, get_or, set, get_or-append}
use lib.Seq.{get_or-set_same, get_or-set_other, get_or_at}
use Rattle.tables.specs.rows_crate.Walk.{Parsed, got, many, walk_of, Item, no_item}
use Rattle.tables.proofs.rows_crate.Walks.{fault_is}
use Rattle.tables.proofs.rows_crate.Many.{Going, going_start, going_step, going_stop, going_done}
use Rattle.tables.specs.Layout.{Kept}
use Rattle.tables.proofs.Sections.{kept_none, kept_set}
use Rattle.graph_tables.specs.Places.{Filled}
use Rattle.std.specs.Prelude.{Ok, Err}
use Rattle.tables.specs.refusal_crate.declared.Refusal.{Refusal}

-- the last of the items, and those before it
module _ (done : List Item) (x : Item) (k : ℕ) (long : length done ≡ k) where
  before_last : (i : ℕ) → i < k → get_or (done ++ (x ∷ [])) i no_item ≡ get_or done i no_item
  before_last i h = get_or-append done (x ∷ []) no_item i (omega (arith, long))

  last : get_or (done ++ (x ∷ [])) k no_item ≡ x
  last = get_or_at done x [] no_item k long

-- k items are read, and their places written
pub record Filling {S : Type 0} (step : S → ℕ → Parsed Item) (next : S → Item → S) (count : ℕ) (s₀ : S) (at₀ base : ℕ) (before table : List ℕ) (k q : ℕ) (s : S) (done : List Item) : Type 0 where
  pub going : Going step next count s₀ at₀ k q s done
  pub placed : (i : ℕ) → i < k → get_or table (base + i) 0 ≡ (get_or done i no_item).place
  pub kept : Kept base before table

pub filling_start : {S : Type 0} {step : S → ℕ → Parsed Item} {next : S → Item → S} {count : ℕ} {s₀ : S} {at₀ base : ℕ} {before : List ℕ} → Filling step next count s₀ at₀ base before before 0 at₀ s₀ []
filling_start = record { going = going_start _ _ _ _ _; placed = λ i h. absurd (omega arith); kept = kept_none }

module _ {S : Type 0} {step : S → ℕ → Parsed Item} {next : S → Item → S} {count : ℕ} {s₀ : S} {at₀ base : ℕ} {before table : List ℕ} {k q : ℕ} {s : S} {done : List Item}
    (f : Filling step next count s₀ at₀ base before table k q s done) where
  pub filling_inside : base + count ≤ length before → k < count → base + k < length table
  filling_inside room h = omega (arith, room, h, f.kept.same_length)

  -- the next item's place is written at word i
  pub filling_step : {x : Item} {p i : ℕ} → base + count ≤ length before → k < count → step s q ≡ got x p → x.place ≡ q → i ≡ base + k
      → Filling step next count s₀ at₀ base before (set table i q) (k + 1) p (next s x) (done ++ (x ∷ []))
  filling_step {x} {p} {i} room h e is z =
      record {
        going = going_step step next count s₀ at₀ f.going h e;
        placed = below_more (λ j. get_or (set table i q) (base + j) 0 ≡ (get_or (done ++ (x ∷ [])) j no_item).place) k earlier now-at;
        kept = kept_set base i q (omega (arith, z)) f.kept;
      }
    where
      earlier : (j : ℕ) → j < k → get_or (set table i q) (base + j) 0 ≡ (get_or (done ++ (x ∷ [])) j no_item).place
      earlier j l = get_or-set_other table i (base + j) q 0 (λ w. omega (arith, w, z, l)) ∙ f.placed j l ∙ ap (λ y. y.place) (sym (before_last done x k f.going.long j l))

      now-at : get_or (set table i q) (base + k) 0 ≡ (get_or (done ++ (x ∷ [])) k no_item).place
      now-at = rw z (get_or-set_same table (base + k) q 0 (filling_inside room h) ∙ sym is ∙ ap (λ y. y.place) (sym (last done x k f.going.long)))

  -- after a fault nothing is said of the places
  pub filling_stop : {why : Refusal} → k < count → walk_of (step s q) ≡ Err why
      → (Err why ≡ walk_of (many step next count s₀ at₀)) × Filled (many step next count s₀ at₀) base table × Kept base before table
  filling_stop {why} h e =
      let w = going_stop step next count s₀ at₀ f.going h e in
      (w, rw (fault_is (many step next count s₀ at₀) why (sym w)) tt, f.kept)

  pub filling_end : count ≤ k → (Ok q ≡ walk_of (many step next count s₀ at₀)) × Filled (many step next count s₀ at₀) base table × Kept base before table
  unfolding walk_of
  filling_end h =
      let w = going_done step next count s₀ at₀ f.going h in
      (sym (ap walk_of w), rw w (λ i l. f.placed i (omega (arith, f.going.long))), f.kept)
