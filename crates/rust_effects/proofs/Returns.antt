-- The Rust's determine_side_effects always returns: each turn of the worklist takes a module off the stack, and one is pushed only with its bit set.
use Prim.Native.Nat.{ℕ, zero, suc, ◌+◌, ◌<◌, ◌≤◌}
use mathlib.Core.Path.{◌≡◌, refl, ap, ◌∙◌, sym, subst}
use mathlib.Core.Logic.{inl, inr}
use mathlib.Core.Bool.{Bool, true, false, false≢true}
use mathlib.Core.List.{List, [], ◌∷◌}
use native.Mathlib.Omega.{arith}
use lib.Dec.{eqb}
use lib.ListN.{length}
use borrow.Author.Tests.{eqb-true, eqb-false}
use Rattle.determine_side_effects.specs.graph_crate.Check.{Graph}
use Rattle.determine_side_effects.specs.graph_access_crate.Words.{tabulate}
use Rattle.determine_side_effects.specs.Effects.{settle, last_verdicts}
use Rattle.determine_side_effects.specs.Sequence.{given_verdicts}
use Rattle.keep_record.specs.Lines.{elem}
use Rattle.rust_values.specs.Values.{Pair, pair, In}
use Rattle.rust_effects.specs.DetermineSideEffects.{gathered, Spreading, spread_to, spread_to_all, dependents_of, Propagates, returns, pops, DetermineSideEffects, recomputed, none_relaxed, RecomputeAnalyzedSideEffects, none_relaxed_case, recomputes, SideEffects}
use Rattle.rust_effects.proofs.Filtered.{in_dependents}
use Rattle.rust_effects.proofs.Spreading.{after}
use Rattle.rust_effects.proofs.Gathering.{gathered_sound}
use Rattle.rust_effects.proofs.SameVerdicts.{begun, same_verdicts, none_relaxed_true, none_relaxed_false, recomputed_long, given_long, sequence_relaxed, sequence_not}

-- how many of the modules below n have no bit
unfoldable without : List ℕ → ℕ → ℕ
without xs zero = 0
without xs (suc k) = elim (elem k xs) [ true ↦ without xs k | false ↦ suc (without xs k) ]

without-set : (xs : List ℕ) (k : ℕ) → elem k xs ≡ true → without xs (suc k) ≡ without xs k
unfolding without
without-set xs k e = rw (e, without)

without_clear : (xs : List ℕ) (k : ℕ) → elem k xs ≡ false → without xs (suc k) ≡ suc (without xs k)
unfolding without
without_clear xs k e = rw (e, without)

elem_here : (k x : ℕ) (xs : List ℕ) → eqb k x ≡ true → elem k (x ∷ xs) ≡ true
unfolding elem
elem_here k x xs e = rw e refl

elem_there : (k x : ℕ) (xs : List ℕ) → eqb k x ≡ false → elem k (x ∷ xs) ≡ elem k xs
unfolding elem
elem_there k x xs e = rw e refl

-- with one more bit there are no more of them, and fewer if it was not set
without_more : (x : ℕ) (xs : List ℕ) (n : ℕ) → without (x ∷ xs) n ≤ without xs n
unfolding without
without_more x xs zero = omega arith
without_more x xs (suc k) = go (eqb k x) refl (elem k xs) refl (without_more x xs k)
  where
    go : (b : Bool) → eqb k x ≡ b → (c : Bool) → elem k xs ≡ c → without (x ∷ xs) k ≤ without xs k → without (x ∷ xs) (suc k) ≤ without xs (suc k)
    go true e true h r = omega (arith, r, without-set (x ∷ xs) k (elem_here k x xs e), without-set xs k h)
    go true e false h r = omega (arith, r, without-set (x ∷ xs) k (elem_here k x xs e), without_clear xs k h)
    go false e true h r = omega (arith, r, without-set (x ∷ xs) k (elem_there k x xs e ∙ h), without-set xs k h)
    go false e false h r = omega (arith, r, without_clear (x ∷ xs) k (elem_there k x xs e ∙ h), without_clear xs k h)

without_fewer : (x : ℕ) (xs : List ℕ) (n : ℕ) → x < n → elem x xs ≡ false → without (x ∷ xs) n < without xs n
without_fewer x xs zero l h = absurd (omega (arith, l))
without_fewer x xs (suc k) l h = go (eqb k x) refl (elem k xs) refl (λ i. without_fewer x xs k i h)
  where
    go : (b : Bool) → eqb k x ≡ b → (c : Bool) → elem k xs ≡ c → (x < k → without (x ∷ xs) k < without xs k) → without (x ∷ xs) (suc k) < without xs (suc k)
    go true e true i more = absurd (false≢true (sym h ∙ subst (λ j. elem j xs ≡ true) (eqb-true k x e) i))
    go true e false i more = omega (arith, without_more x xs k, without-set (x ∷ xs) k (elem_here k x xs e), without_clear xs k i)
    go false e true i more =
        omega (arith, more (omega (arith, l, eqb-false k x e)), without-set (x ∷ xs) k (elem_there k x xs e ∙ i), without-set xs k i)
    go false e false i more =
        omega (arith, more (omega (arith, l, eqb-false k x e)), without_clear (x ∷ xs) k (elem_there k x xs e ∙ i), without_clear xs k i)

-- what is left: modules without a bit, and those on the stack
abbrev left : ℕ → Spreading → ℕ
left n s = without s.effectful n + length s.pending

one_left : (n x : ℕ) (s : Spreading) → x < n → left n (spread_to x s) ≤ left n s
unfolding spread_to
one_left n x s l = go (elem x s.effectful) refl
  where
    go : (b : Bool) → elem x s.effectful ≡ b → left n (spread_to x s) ≤ left n s
    go true e = rw (e, spread_to) (omega arith)
    go false e = rw (e, spread_to) (omega (arith, without_fewer x s.effectful n l e))

all_left : (n : ℕ) (xs : List ℕ) (s : Spreading) → ((x : ℕ) → In x xs → x < n) → left n (spread_to_all xs s) ≤ left n s
unfolding spread_to_all
all_left n [] s l = omega arith
all_left n (x ∷ xs) s l = omega (arith, one_left n x s (l x (inl refl)), all_left n xs (spread_to x s) (λ y h. l y (inr h)))

-- an end of the worklist
pub record Ends (dependents : List Pair) (s : Spreading) : Type 0 where
  pub end : Spreading
  pub propagates : Propagates dependents s end

module _ (dependents : List Pair) (n : ℕ) (inside : (a b : ℕ) → In (pair a b) dependents → b < n) where
  popped_left : (s : Spreading) (m : ℕ) (ms : List ℕ) → s.pending ≡ m ∷ ms → left n (after dependents s m ms) < left n s
  popped_left s m ms e =
      omega (
        arith,
        all_left n (dependents_of dependents m) (record { effectful = s.effectful; pending = ms }) (λ x h. inside m x (in_dependents m x dependents h)),
        ap length e,
      )

  ends_within : (fuel : ℕ) (s : Spreading) → left n s ≤ fuel → Ends dependents s
  ends_within zero s l = go s.pending refl
    where
      go : (p : List ℕ) → s.pending ≡ p → Ends dependents s
      go [] e = record { end = s; propagates = returns s e }
      go (m ∷ ms) e = absurd (omega (arith, l, popped_left s m ms e))
  ends_within (suc fuel) s l = go s.pending refl (λ m ms h. ends_within fuel (after dependents s m ms) h)
    where
      go : (p : List ℕ) → s.pending ≡ p → ((m : ℕ) (ms : List ℕ) → left n (after dependents s m ms) ≤ fuel → Ends dependents (after dependents s m ms)) → Ends dependents s
      go [] e more = record { end = s; propagates = returns s e }
      go (m ∷ ms) e more =
          let r = more m ms (omega (arith, l, popped_left s m ms e)) in
          record { end = r.end; propagates = pops s r.end m ms e r.propagates }

-- determine_side_effects returns, from any verdicts of all modules
pub determines : (g : Graph) (v : List ℕ) → length v ≡ g.header.modules → DetermineSideEffects g v (settle g v)
determines g v long =
    let r =
    ends_within (gathered g v).dependents g.header.modules (λ a b i. ((gathered_sound g v).pairs a b i).quiet.inside)
    (left g.header.modules (begun g v)) (begun g v) (omega arith) in
    record { end = r.end; propagates = r.propagates; verdicts_are = sym (same_verdicts g v long r.end r.propagates) }

-- and so does the sequence, with the last verdicts
pub effects_return : (g : Graph) → SideEffects g (last_verdicts g)
unfolding given_verdicts
effects_return g = record { first = settle g (given_verdicts g); determines = determines g _ (given_long g); recomputes = go (none_relaxed g) refl }
  where
    go : (b : Bool) → none_relaxed g ≡ b → RecomputeAnalyzedSideEffects g (settle g (given_verdicts g)) (last_verdicts g)
    go true e = subst (RecomputeAnalyzedSideEffects g (settle g (given_verdicts g))) (sequence_not g (none_relaxed_true g e)) (none_relaxed_case _ e)
    go false e =
        recomputes _ _ e
        (subst (DetermineSideEffects g (tabulate (recomputed g (settle g (given_verdicts g))) 0 g.header.modules)) (sequence_relaxed g (none_relaxed_false g e))
        (determines g _ (recomputed_long g (settle g (given_verdicts g)))))
