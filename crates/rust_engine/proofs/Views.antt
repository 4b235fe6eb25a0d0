-- All that a fact gives, segment by segment, and back.
use Rattle.std.proofs.Common.{◌≡◌, ℕ, zero, suc, ◌+◌, ◌-◌, ◌<◌, ◌≤◌, Bool, true, false, List, [], ◌∷◌, refl, subst, arith}
use mathlib.Core.Bool.{false≢true}
use native.Mathlib.Decide.{dec_lt}
use Rattle.determine_side_effects.specs.graph_crate.Check.{Graph}
use Rattle.determine_side_effects.specs.facts_crate.declared.Fact.{Fact}
use Rattle.keep_rules.specs.declared.Candidate.{Candidate}
use Rattle.keep_rules.specs.declared.Candidate.TheVariants.{Gives, Nothing}
use Rattle.keep_rules.specs.Rules.{Segment, Given, when, picked, given_by, gives, segments_of}
use Rattle.closed_choices.specs.Choice.{nothing_given}
use Rattle.closed_choices.proofs.Every.{Every, every_append, every_left, every_right, every_at, every_by}
use Rattle.rust_engine.proofs.Kept.{AllGiven}

module _ (P : Fact → Type 0) where
  abbrev pub Holds : Candidate → Type 0
  Holds (Gives f) = P f
  Holds Nothing = Unit {0}

  abbrev pub HoldsAll : List Segment → Type 0
  HoldsAll [] = Unit {0}
  HoldsAll (s ∷ ss) = ((k : ℕ) → k < s.count → Holds (s.candidate k)) × HoldsAll ss

  abbrev Fits : Given → Type 0
  Fits x = P x.fact

  from_picked : (r : ℕ) (pick : ℕ → Candidate) (i n : ℕ) → Every Fits (picked r pick i n) → (k : ℕ) → i ≤ k → k < i + n → Holds (pick k)
  unfolding picked
  from_picked r pick i zero h k l u = absurd (omega (arith, l, u))
  from_picked r pick i (suc n) h k l u = go (pick i) refl h (λ q. from_picked r pick (i + 1) n q k)
    where
      same : (i < k → ⊥) → i ≡ k
      same n = omega (arith, l, n)

      go : (p : Candidate) → pick i ≡ p → Every Fits
          (elim p [ Gives f ↦ record { rule = r; fact = f } ∷ picked r pick (i + 1) n | Nothing ↦ picked r pick (i + 1) n ])
          → (Every Fits (picked r pick (i + 1) n) → i + 1 ≤ k → k < i + 1 + n → Holds (pick k)) → Holds (pick k)
      go (Gives f) e q more =
          elim (dec_lt i k) [ yes z ↦ more q.1 (omega (arith, z)) (omega (arith, u)) | no z ↦ subst (λ j. Holds (pick j)) (same z) (rw e q.0) ]
      go Nothing e q more = elim (dec_lt i k) [ yes z ↦ more q (omega (arith, z)) (omega (arith, u)) | no z ↦ subst (λ j. Holds (pick j)) (same z) (rw e tt) ]

  to_picked : (r : ℕ) (pick : ℕ → Candidate) (i n : ℕ) → ((k : ℕ) → i ≤ k → k < i + n → Holds (pick k)) → Every Fits (picked r pick i n)
  unfolding picked
  to_picked r pick i zero h = tt
  to_picked r pick i (suc n) h = go (pick i) (h i (omega arith) (omega arith)) (to_picked r pick (i + 1) n (λ k l u. h k (omega (arith, l)) (omega (arith, u))))
    where
      go : (p : Candidate) → Holds p → Every Fits (picked r pick (i + 1) n)
          → Every Fits (elim p [ Gives f ↦ record { rule = r; fact = f } ∷ picked r pick (i + 1) n | Nothing ↦ picked r pick (i + 1) n ])
      go (Gives f) q more = (q, more)
      go Nothing q more = more

  from_segments : (ss : List Segment) → Every Fits (given_by ss 0) → HoldsAll ss
  unfolding given_by
  from_segments [] h = tt
  from_segments (s ∷ ss) h = (
    λ k u. from_picked s.rule s.candidate 0 (s.count - 0) (every_left Fits (picked s.rule s.candidate 0 (s.count - 0)) (given_by ss 0) h) k
        (omega arith) (omega (arith, u)),
    from_segments ss (every_right Fits (picked s.rule s.candidate 0 (s.count - 0)) (given_by ss 0) h),
  )

  to_segments : (ss : List Segment) → HoldsAll ss → Every Fits (given_by ss 0)
  unfolding given_by
  to_segments [] h = tt
  to_segments (s ∷ ss) h =
      every_append Fits (picked s.rule s.candidate 0 (s.count - 0)) (given_by ss 0)
      (to_picked s.rule s.candidate 0 (s.count - 0) (λ k l u. h.0 k (omega (arith, u)))) (to_segments ss h.1)

  pub given_segments : (g : Graph) (v : List ℕ) (f : Fact) → AllGiven g v P f → HoldsAll (segments_of g v f)
  unfolding gives
  given_segments g v f h = from_segments (segments_of g v f) (every_by Fits (given_by (segments_of g v f) 0) nothing_given h)

  pub segments_given : (g : Graph) (v : List ℕ) (f : Fact) → HoldsAll (segments_of g v f) → AllGiven g v P f
  unfolding gives
  segments_given g v f h = every_at Fits (given_by (segments_of g v f) 0) nothing_given (to_segments (segments_of g v f) h)

  pub holds_when : (b : Bool) (f : Fact) → Holds (when b f) → b ≡ true → P f
  unfolding when
  holds_when true f h e = h
  holds_when false f h e = absurd (false≢true e)

  pub when_holds : (b : Bool) (f : Fact) → (b ≡ true → P f) → Holds (when b f)
  unfolding when
  when_holds true f h = h refl
  when_holds false f h = tt
