-- Passes over the modules: they keep the row's length, and after as many as there are modules nothing moves.
-- A pass in which nothing moves ends the settling (`pass_none`).
use Prim.Native.Nat.{ℕ, zero, suc, ◌<◌, ◌≤◌}
use mathlib.Core.Path.{◌≡◌, refl, ap, ◌∙◌, sym}
use mathlib.Core.Bool.{Bool, true, false, ◌&&◌, ◌||◌}
use mathlib.Core.List.{List, []}
use native.Mathlib.Omega.{arith}
use borrow.Author.Tests.{eqb-true, eqb-false, ltb-true, ltb-false, eq-eqb}
use lib.Dec.{eqb, ltb}
use lib.Seq.{set_out, get_or-set_same}
use lib.ListN.{length, get_or, set, length-set}
use Rattle.facts.specs.graph_crate.Check.{Graph}
use Rattle.facts.specs.graph_access_crate.Names.{import_records}
use Rattle.facts.specs.graph_access_crate.Words.{some, module_of, normal}
use Rattle.determine_side_effects.specs.Effects.{seeds, reaches, moves, moved, pass, passes, settle}
use Rattle.determine_side_effects.proofs.Lists.{both, some_found, some_holds, zeros, zeros_length, zeros_set}

-- a row is as it was, or has fewer zeros
pub data Fell (v w : List ℕ) : Type 0 where
  same : w ≡ v → Fell v w
  fewer : zeros w < zeros v → Fell v w

fell_on : (u v w : List ℕ) → Fell u v → Fell v w → Fell u w
fell_on u v w (same p) (same q) = same (q ∙ p)
fell_on u v w (same p) (fewer l) = fewer (rw p at l)
fell_on u v w (fewer k) (same q) = fewer (rw q k)
fell_on u v w (fewer k) (fewer l) = fewer (omega arith)

fell_most : (v w : List ℕ) → Fell v w → zeros w ≤ zeros v
fell_most v w (same p) = rw p (omega arith)
fell_most v w (fewer l) = omega arith

-- a module that moves is normal and Analyzed(false), and has a record that seeds it or reaches effects
pub record Moving (g : Graph) (v : List ℕ) (m : ℕ) : Type 0 where
  pub is_normal : normal g m ≡ true
  pub without : get_or v m 0 ≡ 0
  pub by : ℕ
  pub listed : by < length (import_records (module_of g m))
  pub why : (seeds g (get_or (import_records (module_of g m)) by []) || reaches v (get_or (import_records (module_of g m)) by [])) ≡ true

module _ (g : Graph) where
  pub moving : (v : List ℕ) (m : ℕ) → moves g v m ≡ true → Moving g v m
  unfolding moves
  moving v m e =
      let a = both (normal g m) (eqb (get_or v m 0) 0 && some (λ row. seeds g row || reaches v row) (import_records (module_of g m))) e in
      let b = both (eqb (get_or v m 0) 0) (some (λ row. seeds g row || reaches v row) (import_records (module_of g m))) a.1 in
      let r = some_found (λ row. seeds g row || reaches v row) [] (import_records (module_of g m)) b.1 in
      record { is_normal = a.0; without = eqb-true _ _ b.0; by = r.0; listed = r.1; why = r.2 }

  pub moving_moves : (v : List ℕ) (m : ℕ) → Moving g v m → moves g v m ≡ true
  unfolding moves
  moving_moves v m w = rw (w.is_normal, eq-eqb (get_or v m 0) 0 w.without) (some_holds (λ row. seeds g row || reaches v row) [] (import_records (module_of g m)) w.by w.listed w.why)

  -- one module
  pub moved_true : (v : List ℕ) (m : ℕ) → moves g v m ≡ true → moved g v m ≡ set v m 1
  unfolding moved
  moved_true v m e = rw (e, moved)

  pub moved_false : (v : List ℕ) (m : ℕ) → moves g v m ≡ false → moved g v m ≡ v
  unfolding moved
  moved_false v m e = rw (e, moved)

  pub moved_length : (v : List ℕ) (m : ℕ) → length (moved g v m) ≡ length v
  moved_length v m = go (moves g v m) refl
    where
      go : (b : Bool) → moves g v m ≡ b → length (moved g v m) ≡ length v
      go true e = ap length (moved_true v m e) ∙ length-set v m 1
      go false e = ap length (moved_false v m e)

  pub moved_fell : (v : List ℕ) (m : ℕ) → Fell v (moved g v m)
  moved_fell v m = go (moves g v m) refl (ltb m (length v)) refl
    where
      go : (b : Bool) → moves g v m ≡ b → (c : Bool) → ltb m (length v) ≡ c → Fell v (moved g v m)
      go false e c l = same (moved_false v m e)
      go true e true l = fewer (rw (moved_true v m e) (zeros_set v m (ltb-true m (length v) l) (moving v m e).without))
      go true e false l = same (moved_true v m e ∙ set_out v m 1 (ltb-false m (length v) l))

  -- a pass
  pub pass-length : (k : ℕ) (v : List ℕ) → length (pass g k v) ≡ length v
  unfolding pass
  pass-length zero v = refl
  pass-length (suc k) v = pass-length k (moved g v k) ∙ moved_length v k

  pub pass_fell : (k : ℕ) (v : List ℕ) → Fell v (pass g k v)
  unfolding pass
  pass_fell zero v = same refl
  pass_fell (suc k) v = fell_on v (moved g v k) (pass g k (moved g v k)) (moved_fell v k) (pass_fell k (moved g v k))

  -- where a pass changes nothing, nothing moves
  pub pass_still : (k : ℕ) (v : List ℕ) → pass g k v ≡ v → (m : ℕ) → m < k → m < length v → moves g v m ≡ false
  unfolding pass
  pass_still zero v e m l h = absurd (omega arith)
  pass_still (suc k) v e m l h = go (moved_fell v k) (eqb m k) refl (λ f s. pass_still k v f m s h)
    where
      quiet : moved g v k ≡ v → k < length v → (b : Bool) → moves g v k ≡ b → moves g v k ≡ false
      quiet p i true t = absurd (
          let a : get_or (set v k 1) k 0 ≡ 1 = get_or-set_same v k 1 0 i in
          let b : get_or (set v k 1) k 0 ≡ get_or v k 0 = ap (λ x. get_or x k 0) (sym (moved_true v k t) ∙ p) in
          omega (arith, a, b, (moving v k t).without))
      quiet p i false t = t

      go : Fell v (moved g v k) → (b : Bool) → eqb m k ≡ b → (pass g k v ≡ v → m < k → moves g v m ≡ false) → moves g v m ≡ false
      go (same p) true t more = let i : m ≡ k = eqb-true m k t in rw i (quiet p (omega (arith, i)) (moves g v k) refl)
      go (same p) false t more = more (rw p at e) (omega (arith, eqb-false m k t))
      go (fewer f) b t more = absurd (omega (arith, f, fell_most (moved g v k) (pass g k (moved g v k)) (pass_fell k (moved g v k)), ap zeros e))

  -- passes
  pub passes-length : (n : ℕ) (v : List ℕ) → length (passes g n v) ≡ length v
  unfolding passes
  passes-length zero v = refl
  passes-length (suc n) v = passes-length n (pass g g.header.modules v) ∙ pass-length g.header.modules v

  -- once a pass changes nothing, no further one does
  pub pass_none : (n : ℕ) (v : List ℕ) → pass g g.header.modules v ≡ v → passes g n v ≡ v
  unfolding passes
  pass_none zero v e = refl
  pass_none (suc n) v e = ap (λ w. passes g n w) e ∙ pass_none n v e

  passes_still : (n : ℕ) (v : List ℕ) → zeros v ≤ n → pass g g.header.modules (passes g n v) ≡ passes g n v
  unfolding passes
  passes_still zero v l = go (pass_fell g.header.modules v)
    where
      go : Fell v (pass g g.header.modules v) → pass g g.header.modules v ≡ v
      go (same p) = p
      go (fewer f) = absurd (omega arith)
  passes_still (suc n) v l = go (pass_fell g.header.modules v) (λ h. passes_still n (pass g g.header.modules v) h)
    where
      go : Fell v (pass g g.header.modules v) → (zeros (pass g g.header.modules v) ≤ n → pass g g.header.modules (passes g n (pass g g.header.modules v)) ≡ passes g n (pass g g.header.modules v))
          → pass g g.header.modules (passes g n (pass g g.header.modules v)) ≡ passes g n (pass g g.header.modules v)
      go (same p) more = let q : passes g n (pass g g.header.modules v) ≡ v = pass_none (suc n) v p in rw q p
      go (fewer f) more = more (omega arith)

  pub settle-length : (v : List ℕ) → length (settle g v) ≡ length v
  unfolding settle
  settle-length v = passes-length g.header.modules v

  -- after as many passes as there are modules nothing moves
  pub settled_still : (v : List ℕ) → length v ≤ g.header.modules → pass g g.header.modules (settle g v) ≡ settle g v
  unfolding settle
  settled_still v l = passes_still g.header.modules v (omega (arith, zeros_length v))
