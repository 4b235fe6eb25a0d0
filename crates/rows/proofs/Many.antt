-- A loop over `many`: after k things, at q, with the state s and the things done, the rest is still to be read.
use Prim.Native.Nat.{ℕ, suc, ◌+◌, ◌-◌, ◌<◌, ◌≤◌}
use mathlib.Core.Path.{◌≡◌, refl, ap, ◌∙◌, sym}
use mathlib.Core.List.{List, [], ◌∷◌, ◌++◌, append-nil, append_assoc}
use native.Mathlib.Omega.{arith}
use lib.ListN.{length, length-append}
use Rattle.rows.specs.Walk.{Parsed, got, fault, and_then, many, walk_of}
use Rattle.rows.proofs.Walks.{fault_is}
use Rattle.std.specs.Prelude.{Ok, Err}
use Rattle.refusal.specs.declared.Refusal.{Refusal}

-- the things before, in front
unfoldable pub prepend : {A : Type 0} → List A → Parsed (List A) → Parsed (List A)
prepend xs (got ys q) = got (xs ++ ys) q
prepend xs (fault why) = fault why

prepend_none : {A : Type 0} (x : Parsed (List A)) → prepend [] x ≡ x
unfolding prepend
prepend_none (got ys q) = refl
prepend_none (fault why) = refl

prepend_one : {A : Type 0} (xs : List A) (a : A) (x : Parsed (List A)) → prepend xs (and_then x (λ ys p. got (a ∷ ys) p)) ≡ prepend (xs ++ (a ∷ [])) x
unfolding prepend and_then
prepend_one xs a (got ys q) = ap (λ l. got l q) (sym (append_assoc xs (a ∷ []) ys))
prepend_one xs a (fault why) = refl

module _ {S A : Type 0} (step : S → ℕ → Parsed A) (next : S → A → S) (count : ℕ) (s₀ : S) (at₀ : ℕ) where
  pub record Going (k q : ℕ) (s : S) (done : List A) : Type 0 where
    pub low : k ≤ count
    pub long : length done ≡ k
    pub whole : many step next count s₀ at₀ ≡ prepend done (many step next (count - k) s q)

  pub going_start : Going 0 at₀ s₀ []
  going_start =
      let z : count - 0 ≡ count = omega arith in
      record { low = omega arith; long = refl; whole = rw z (sym (prepend_none (many step next count s₀ at₀))) }

  -- the rest is the next thing and what is left behind it
  turn : {k q : ℕ} {s : S} {done : List A} → Going k q s done → k < count → many step next count s₀ at₀ ≡ prepend done (many step next (suc (count - (k + 1))) s q)
  turn {k} {q} {s} {done} g h = let e : count - k ≡ suc (count - (k + 1)) = omega arith in g.whole ∙ ap (λ j. prepend done (many step next j s q)) e

  pub going_step : {k q p : ℕ} {s : S} {done : List A} {a : A} → Going k q s done → k < count → step s q ≡ got a p → Going (k + 1) p (next s a) (done ++ (a ∷ []))
  unfolding many and_then
  going_step {k} {q} {p} {s} {done} {a} g h e =
      record {
        low = omega arith;
        long = length-append done (a ∷ []) ∙ ap (λ j. j + 1) g.long;
        whole = turn g h ∙ ap (prepend done) (rw (e, many, and_then)) ∙ prepend_one done a (many step next (count - (k + 1)) (next s a) p);
      }

  pub going_stop : {k q : ℕ} {why : Refusal} {s : S} {done : List A} → Going k q s done → k < count → walk_of (step s q) ≡ Err why → Err why ≡ walk_of (many step next count s₀ at₀)
  unfolding many and_then prepend walk_of
  going_stop {k} {q} {why} {s} {done} g h e =
      let f : many step next (suc (count - (k + 1))) s q ≡ fault why = rw (fault_is (step s q) why e, many, and_then) in
      sym (ap walk_of (turn g h ∙ ap (prepend done) f))

  pub going_done : {k q : ℕ} {s : S} {done : List A} → Going k q s done → count ≤ k → many step next count s₀ at₀ ≡ got done q
  unfolding many prepend
  going_done {k} {q} {s} {done} g h =
      let e : count - k ≡ 0 = omega arith in
      g.whole ∙ ap (λ j. prepend done (many step next j s q)) e ∙ ap (λ l. got l q) (append-nil done)

  pub going_end : {k q : ℕ} {s : S} {done : List A} → Going k q s done → count ≤ k → Ok q ≡ walk_of (many step next count s₀ at₀)
  unfolding walk_of
  going_end g h = sym (ap walk_of (going_done g h))
