-- The walk through segments: what is left from a candidate on.
use Prim.Native.Nat.{ℕ, suc, ◌+◌, ◌-◌, ◌<◌, ◌≤◌}
use mathlib.Core.Path.{◌≡◌, ap, sym}
use mathlib.Core.List.{List, [], ◌∷◌, ◌++◌}
use native.Mathlib.Numerals.{add-one}
use native.Mathlib.Omega.{arith}
use lib.Seq.{drop-cons}
use lib.ListN.{length, get_or, drop, drop_of_length-le}
use Rattle.determine_side_effects.specs.facts_crate.declared.Fact.{Fact}
use Rattle.keep_rules.specs.declared.Candidate.{Candidate}
use Rattle.keep_rules.specs.declared.Candidate.TheVariants.{Gives, Nothing}
use Rattle.keep_rules.specs.Rules.{Segment, no_segment, Given, picked, given_by}
use Rattle.consequences.specs.Cursors.{segments_in, segment_in, left}

abbrev given : ℕ → Fact → Given
given r e = record { rule = r; fact = e }

-- one segment's candidates
module _ (r : ℕ) (p : ℕ → Candidate) (n k : ℕ) where
  picked_gives : (e : Fact) → k < n → p k ≡ Gives e → picked r p k (n - k) ≡ given r e ∷ picked r p (k + 1) (n - (k + 1))
  unfolding picked
  picked_gives e l q = let s : n - k ≡ suc (n - (k + 1)) = omega arith in rw (s, q, picked)

  picked_skips : k < n → p k ≡ Nothing → picked r p k (n - k) ≡ picked r p (k + 1) (n - (k + 1))
  unfolding picked
  picked_skips l q = let s : n - k ≡ suc (n - (k + 1)) = omega arith in rw (s, q, picked)

  picked_ended : n ≤ k → picked r p k (n - k) ≡ []
  unfolding picked
  picked_ended l = let s : n - k ≡ 0 = omega arith in rw (s, picked)

-- segments
module _ (ss : List Segment) (j k : ℕ) where
  opened : j < length ss
      → given_by (drop j ss) k ≡ picked (get_or ss j no_segment).rule (get_or ss j no_segment).candidate k ((get_or ss j no_segment).count - k) ++ given_by (drop (suc j) ss) 0
  unfolding given_by
  opened l = rw (drop-cons ss j no_segment l, given_by)

module _ (ss : List Segment) (j k : ℕ) where
  segments_give : (e : Fact) → j < length ss → k < (get_or ss j no_segment).count → (get_or ss j no_segment).candidate k ≡ Gives e
      → given_by (drop j ss) k ≡ given (get_or ss j no_segment).rule e ∷ given_by (drop j ss) (k + 1)
  segments_give e l b q = rw (opened ss j k l, opened ss j (k + 1) l, picked_gives _ _ _ _ e b q)

  segments_skip : j < length ss → k < (get_or ss j no_segment).count → (get_or ss j no_segment).candidate k ≡ Nothing
      → given_by (drop j ss) k ≡ given_by (drop j ss) (k + 1)
  segments_skip l b q = rw (opened ss j k l, opened ss j (k + 1) l, picked_skips _ _ _ _ b q)

  segments_end : j < length ss → (get_or ss j no_segment).count ≤ k → given_by (drop j ss) k ≡ given_by (drop (j + 1) ss) 0
  segments_end l b = rw (opened ss j k l, picked_ended (get_or ss j no_segment).rule (get_or ss j no_segment).candidate (get_or ss j no_segment).count k b) (ap (λ i. given_by (drop i ss) 0) (sym (add-one j)))

  segments_none : length ss ≤ j → given_by (drop j ss) k ≡ []
  unfolding given_by
  segments_none l = rw (drop_of_length-le ss l, given_by)

-- of a fact
module _ (numbers : List ℕ) (f : Fact) (j k : ℕ) where
  pub left_found : (e : Fact) → j < length (segments_in numbers f) → k < (segment_in numbers f j).count → Gives e ≡ (segment_in numbers f j).candidate k
      → left numbers f j k ≡ given (segment_in numbers f j).rule e ∷ left numbers f j (k + 1)
  unfolding left segment_in
  left_found e l b q = segments_give (segments_in numbers f) j k e l b (sym q)

  pub left_skips : j < length (segments_in numbers f) → k < (segment_in numbers f j).count → Nothing ≡ (segment_in numbers f j).candidate k
      → left numbers f j k ≡ left numbers f j (k + 1)
  unfolding left segment_in
  left_skips l b q = segments_skip (segments_in numbers f) j k l b (sym q)

  pub left_ended : j < length (segments_in numbers f) → (segment_in numbers f j).count ≤ k → left numbers f j k ≡ left numbers f (j + 1) 0
  unfolding left segment_in
  left_ended l b = segments_end (segments_in numbers f) j k l b

  pub left_none : length (segments_in numbers f) ≤ j → left numbers f j k ≡ []
  unfolding left
  left_none l = segments_none (segments_in numbers f) j k l
