-- The walk as a relation that has no bound: `walk` computes it, and its fuel never decides.
use Prim.Native.Nat.{ℕ, zero, suc, ◌<◌, ◌≤◌}
use mathlib.Core.Path.{◌≡◌, refl, sym, subst}
use mathlib.Core.Logic.{⊎_elim}
use mathlib.Core.Bool.{Bool, true, false}
use mathlib.Core.List.{List, [], ◌∷◌}
use native.Mathlib.Omega.{arith}
use borrow.Author.Tests.{eqb-true, eqb-false}
use lib.Dec.{eqb}
use Rattle.cycles.specs.Search.{Search, with, entered, completed, each, walk}
use Rattle.cycles.specs.Cycles.{Edge}
use Rattle.cycles.specs.Walked.{fresh}
use Rattle.cycles.proofs.Members.{In, Has, Lacks, never_both, either, in_head, in_tail, with_new, with_old, still_lacks}

-- from the nodes of the list, in turn, the search s comes to z
pub data Walks (g : ℕ → List ℕ) : List ℕ → Search → Search → Type 0 where
  stop : (s : Search) → Walks g [] s s
  old : (u : ℕ) (us : List ℕ) (s z : Search) → Has s.seen u → Walks g us s z → Walks g (u ∷ us) s z
  new : (u : ℕ) (us : List ℕ) (s m z : Search) → Lacks s.seen u → Walks g (g u) (entered u s) m → Walks g us (completed u m) z → Walks g (u ∷ us) s z

-- it leads to one search only
pub walks_unique : (g : ℕ → List ℕ) {us : List ℕ} {s a b : Search} → Walks g us s a → Walks g us s b → a ≡ b
walks_unique g (stop s) (stop _) = refl
walks_unique g (old u us s a i p) (old _ _ _ b j q) = walks_unique g p q
walks_unique g (old u us s a i p) (new _ _ _ m b j q r) = absurd (never_both i j)
walks_unique g (new u us s m a i p q) (old _ _ _ b j r) = absurd (never_both j i)
walks_unique g (new u us s m a i p q) (new _ _ _ k b j r t) =
    walks_unique g q (subst (λ (x : Search). Walks g us (completed u x) b) (sym (walks_unique g p r)) t)

pub walks_keep : (g : ℕ → List ℕ) (x : ℕ) {us : List ℕ} {s z : Search} → Walks g us s z → Has s.seen x → Has z.seen x
walks_keep g x (stop s) h = h
walks_keep g x (old u us s z i p) h = walks_keep g x p h
walks_keep g x (new u us s m z i p q) h = walks_keep g x q (walks_keep g x p (with_old x u s.seen h))

-- ---- how many are left to enter

pub fresh_few : (k : ℕ) (f : ℕ → Bool) → fresh k f ≤ k
unfolding fresh
fresh_few zero f = omega arith
fresh_few (suc k) f = go (f k) refl (fresh_few k f)
  where
    go : (b : Bool) → f k ≡ b → fresh k f ≤ k → fresh (suc k) f ≤ suc k
    go true e h = rw (e, fresh) (omega (arith, h))
    go false e h = rw (e, fresh) (omega (arith, h))

pub fresh_falls : (k : ℕ) (f h : ℕ → Bool) → ((x : ℕ) → Has f x → Has h x) → fresh k h ≤ fresh k f
unfolding fresh
fresh_falls zero f h more = omega arith
fresh_falls (suc k) f h more = go (f k) refl (h k) refl (fresh_falls k f h more)
  where
    go : (a : Bool) → f k ≡ a → (b : Bool) → h k ≡ b → fresh k h ≤ fresh k f → fresh (suc k) h ≤ fresh (suc k) f
    go true d true e l = rw (d, e, fresh) l
    go false d true e l = rw (d, e, fresh) (omega (arith, l))
    go false d false e l = rw (d, e, fresh) (omega (arith, l))
    go true d false e l = absurd (never_both (more k d) e)

pub fresh_with : (k t : ℕ) (f : ℕ → Bool) → t < k → Lacks f t → fresh k (with t f) < fresh k f
unfolding fresh
fresh_with zero t f h o = absurd (omega arith)
fresh_with (suc k) t f h o = go (eqb k t) refl (f k) refl (fresh_with k t f)
  where
    less : fresh k (with t f) ≤ fresh k f
    less = fresh_falls k f (with t f) (λ x i. with_old x t f i)

    go : (a : Bool) → eqb k t ≡ a → (b : Bool) → f k ≡ b → (t < k → Lacks f t → fresh k (with t f) < fresh k f) → fresh (suc k) (with t f) < fresh (suc k) f
    go true e true i before = let q : Lacks f k = rw (eqb-true k t e) o in absurd (never_both i q)
    go true e false i before = let q : Has (with t f) k = rw (eqb-true k t e) (with_new t f) in rw (q, i, fresh) (omega (arith, less))
    go false e true i before =
        let d = eqb-false k t e in
        let l : fresh k (with t f) < fresh k f = before (omega (arith, d)) o in
        let q : Has (with t f) k = with_old k t f i in rw (q, i, fresh) l
    go false e false i before =
        let d = eqb-false k t e in
        let l : fresh k (with t f) < fresh k f = before (omega (arith, d)) o in
        let q : Lacks (with t f) k = still_lacks k t f d i in rw (q, i, fresh) (omega (arith, l))

-- ---- what is computed

module _ (g : ℕ → List ℕ) (n : ℕ) (bounded : (u v : ℕ) → u < n → Edge g u v → v < n) where
  and_then : {t : ℕ} {s m : Search} → Walks g (t ∷ []) s m → (us : List ℕ) (z : Search) → Walks g us m z → Walks g (t ∷ us) s z
  and_then (old t _ s _ i (stop _)) us z w = old t us s z i w
  and_then (new t _ s k _ i p (stop _)) us z w = new t us s k z i p w

  each_walks : (step : ℕ → Search → Search) (fuel : ℕ) → ((t : ℕ) (s : Search) → t < n → fresh n s.seen ≤ fuel → Walks g (t ∷ []) s (step t s))
      → (us : List ℕ) (s : Search) → ((u : ℕ) → In us u → u < n) → fresh n s.seen ≤ fuel → Walks g us s (each step us s)
  unfolding each
  each_walks step fuel f [] s b h = stop s
  each_walks step fuel f (u ∷ us) s b h =
      let w = f u s (b u (in_head u us)) h in
      let l = fresh_falls n s.seen (step u s).seen (λ x i. walks_keep g x w i) in
      and_then w us (each step us (step u s)) (each_walks step fuel f us (step u s) (λ x i. b x (in_tail x u us i)) (omega (arith, l, h)))

  walk_walks : (fuel t : ℕ) (s : Search) → t < n → fresh n s.seen ≤ fuel → Walks g (t ∷ []) s (walk g fuel t s)
  unfolding walk
  walk_walks zero t s h l =
      ⊎_elim (λ i. old t [] s s i (stop s)) (λ o. absurd (let k = fresh_with n t s.seen h o in omega (arith, k, l))) (either (s.seen t))
  walk_walks (suc fuel) t s h l = go (λ u q. walk_walks fuel u q) (s.seen t) refl
    where
      inner : Search
      inner = each (λ u q. walk g fuel u q) (g t) (entered t s)

      go : ((u : ℕ) (q : Search) → u < n → fresh n q.seen ≤ fuel → Walks g (u ∷ []) q (walk g fuel u q)) → (b : Bool) → s.seen t ≡ b → Walks g (t ∷ []) s (walk g (suc fuel) t s)
      go f true i = rw (i, walk) (old t [] s s i (stop s))
      go f false o =
          let k = fresh_with n t s.seen h o in
          let w = each_walks (λ u q. walk g fuel u q) fuel f (g t) (entered t s) (λ u i. bounded t u h i) (omega (arith, k, l)) in
          rw (o, walk) (new t [] s inner (completed t inner) o w (stop (completed t inner)))

  -- a fuel of as many as there are nodes suffices
  pub walk_is : (fuel t : ℕ) (s : Search) → t < n → n ≤ fuel → Walks g (t ∷ []) s (walk g fuel t s)
  walk_is fuel t s h l = let k = fresh_few n s.seen in walk_walks fuel t s h (omega (arith, k, l))

  pub each_is : (fuel : ℕ) (us : List ℕ) (s : Search) → ((u : ℕ) → In us u → u < n) → n ≤ fuel → Walks g us s (each (λ u q. walk g fuel u q) us s)
  each_is fuel us s b l = let k = fresh_few n s.seen in each_walks (λ u q. walk g fuel u q) fuel (walk_walks fuel) us s b (omega (arith, k, l))

  -- so any two that suffice give the same
  pub fuel_never : (a b t : ℕ) (s : Search) → t < n → n ≤ a → n ≤ b → walk g a t s ≡ walk g b t s
  fuel_never a b t s h i j = walks_unique g (walk_is a t s h i) (walk_is b t s h j)

  pub each_fuel_never : (a b : ℕ) (us : List ℕ) (s : Search) → ((u : ℕ) → In us u → u < n) → n ≤ a → n ≤ b → each (λ u q. walk g a u q) us s ≡ each (λ u q. walk g b u q) us s
  each_fuel_never a b us s h i j = walks_unique g (each_is a us s h i) (each_is b us s h j)
