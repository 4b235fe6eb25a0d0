-- A rule gives a fact exactly if a candidate of one of its segments does.
use Prim.Native.Nat.{ℕ, zero, suc, ◌+◌, ◌-◌, ◌<◌, ◌≤◌}
use mathlib.Core.Path.{◌≡◌, refl, ap, ◌∙◌, sym}
use mathlib.Core.Bool.{Bool, true, false, false≢true}
use mathlib.Core.List.{List, [], ◌∷◌, ◌++◌}
use native.Mathlib.Omega.{arith}
use borrow.Author.Tests.{eq-eqb, ne_eqb, eqb-true, eqb-false}
use lib.Dec.{eqb}
use lib.ListN.{length, get_or}
use Rattle.determine_side_effects.specs.graph_crate.Check.{graph_in}
use Rattle.determine_side_effects.specs.graph_access_crate.Words.{some}
use Rattle.determine_side_effects.specs.facts_crate.declared.Fact.{Fact}
use Rattle.determine_side_effects.specs.Effects.{last_verdicts}
use Rattle.keep_rules.specs.declared.Candidate.{Candidate}
use Rattle.keep_rules.specs.declared.Candidate.TheVariants.{Gives, Nothing}
use Rattle.keep_rules.specs.Rules.{Segment, no_segment, Given, picked, given_by, gives}
use Rattle.consequences.specs.Cursors.{segments_in, segment_in}
use Rattle.justification.specs.Justify.{same_fact, is_given_by, follows}
use Rattle.justification.specs.Search.{is_candidate, gives_at}

abbrev given : ℕ → Fact → Given
given r e = record { rule = r; fact = e }

-- a test of two lists, one behind the other
module _ {A : Type 0} (test : A → Bool) where
  some_yes : (x : A) (xs : List A) → test x ≡ true → some test (x ∷ xs) ≡ true
  unfolding some
  some_yes x xs t = rw (t, some)

  some_no : (x : A) (xs : List A) → test x ≡ false → some test (x ∷ xs) ≡ some test xs
  unfolding some
  some_no x xs t = rw (t, some)

  some_behind : (x : A) (xs : List A) → some test xs ≡ true → some test (x ∷ xs) ≡ true
  some_behind x xs e = go (test x) refl
    where
      go : (b : Bool) → test x ≡ b → some test (x ∷ xs) ≡ true
      go true t = some_yes x xs t
      go false t = some_no x xs t ∙ e

  some_right : (xs ys : List A) → some test ys ≡ true → some test (xs ++ ys) ≡ true
  some_right [] ys e = e
  some_right (x ∷ xs) ys e = some_behind x (xs ++ ys) (some_right xs ys e)

  some_left : (xs ys : List A) → some test xs ≡ true → some test (xs ++ ys) ≡ true
  unfolding some
  some_left [] ys e = absurd (false≢true e)
  some_left (x ∷ xs) ys e = go (test x) refl (λ f. some_left xs ys f)
    where
      go : (b : Bool) → test x ≡ b → (some test xs ≡ true → some test (xs ++ ys) ≡ true) → some test (x ∷ xs ++ ys) ≡ true
      go true t more = some_yes x (xs ++ ys) t
      go false t more = some_behind x (xs ++ ys) (more (sym (some_no x xs t) ∙ e))

  some_neither : (xs ys : List A) → some test xs ≡ false → some test ys ≡ false → some test (xs ++ ys) ≡ false
  some_neither [] ys e f = f
  some_neither (x ∷ xs) ys e f = go (test x) refl (λ n. some_neither xs ys n f)
    where
      go : (b : Bool) → test x ≡ b → (some test xs ≡ false → some test (xs ++ ys) ≡ false) → some test (x ∷ xs ++ ys) ≡ false
      go true t more = absurd (false≢true (sym e ∙ some_yes x xs t))
      go false t more = some_no x (xs ++ ys) t ∙ more (sym (some_no x xs t) ∙ e)

-- whether a rule gives the fact, of one consequence
module _ (r : ℕ) (f : Fact) where
  gives_it : (e : Fact) → same_fact e f ≡ true → is_given_by r f (given r e) ≡ true
  unfolding is_given_by
  gives_it e q = rw (eq-eqb r r refl, q)

  gives_another : (e : Fact) → same_fact e f ≡ false → is_given_by r f (given r e) ≡ false
  unfolding is_given_by
  gives_another e q = rw (eq-eqb r r refl, q)

  other_rule : (s : ℕ) (e : Fact) → (s ≡ r → ⊥) → is_given_by r f (given s e) ≡ false
  unfolding is_given_by
  other_rule s e n = rw (ne_eqb s r n)

-- of a segment's candidates
module _ (r : ℕ) (f : Fact) (s : ℕ) (pick : ℕ → Candidate) where
  abbrev given_in : ℕ → ℕ → Bool
  given_in i n = some (is_given_by r f) (picked s pick i n)

  picked_gives : (i n : ℕ) (e : Fact) → pick i ≡ Gives e → picked s pick i (suc n) ≡ given s e ∷ picked s pick (i + 1) n
  unfolding picked
  picked_gives i n e q = rw (q, picked)

  picked_skips : (i n : ℕ) → pick i ≡ Nothing → picked s pick i (suc n) ≡ picked s pick (i + 1) n
  unfolding picked
  picked_skips i n q = rw (q, picked)

  picked_first : (i n : ℕ) → s ≡ r → is_candidate f (pick i) ≡ true → given_in i (suc n) ≡ true
  picked_first i n h q = go (pick i) refl
    where
      go : (p : Candidate) → pick i ≡ p → given_in i (suc n) ≡ true
      go (Gives e) t = rw (picked_gives i n e t, h) (some_yes (is_given_by r f) (given r e) (picked r pick (i + 1) n) (gives_it r f e (rw t at q)))
      go Nothing t = absurd (false≢true (rw t at q))

  picked_later : (i n : ℕ) → given_in (i + 1) n ≡ true → given_in i (suc n) ≡ true
  picked_later i n q = go (pick i) refl
    where
      go : (p : Candidate) → pick i ≡ p → given_in i (suc n) ≡ true
      go (Gives e) t = rw (picked_gives i n e t) (some_behind (is_given_by r f) (given s e) (picked s pick (i + 1) n) q)
      go Nothing t = rw (picked_skips i n t) q

  picked_holds : (n i k : ℕ) → s ≡ r → i ≤ k → k < i + n → is_candidate f (pick k) ≡ true → given_in i n ≡ true
  picked_holds zero i k h a b q = absurd (omega arith)
  picked_holds (suc n) i k h a b q = go (eqb k i) refl (λ l. picked_holds n (i + 1) k h l (omega arith) q)
    where
      go : (t : Bool) → eqb k i ≡ t → (i + 1 ≤ k → given_in (i + 1) n ≡ true) → given_in i (suc n) ≡ true
      go true t more = let z : k ≡ i = eqb-true k i t in picked_first i n h (rw z at q)
      go false t more = let z = eqb-false k i t in picked_later i n (more (omega (arith, z)))

  picked_none : (n i : ℕ) → (s ≡ r → (k : ℕ) → i ≤ k → k < i + n → is_candidate f (pick k) ≡ false) → given_in i n ≡ false
  unfolding some picked
  picked_none zero i h = refl
  picked_none (suc n) i h = go (pick i) refl (eqb s r) refl (picked_none n (i + 1) (λ e k a b. h e k (omega arith) (omega arith)))
    where
      go : (p : Candidate) → pick i ≡ p → (b : Bool) → eqb s r ≡ b → given_in (i + 1) n ≡ false → given_in i (suc n) ≡ false
      go (Gives e) t true b more =
          let z : s ≡ r = eqb-true s r b in
          let q : is_candidate f (Gives e) ≡ false = rw t at (h z i (omega arith) (omega arith)) in
          let v : is_given_by r f (given s e) ≡ false = rw z (gives_another r f e q) in
          rw (picked_gives i n e t) (some_no (is_given_by r f) (given s e) (picked s pick (i + 1) n) v ∙ more)
      go (Gives e) t false b more = rw (picked_gives i n e t) (some_no (is_given_by r f) (given s e) (picked s pick (i + 1) n) (other_rule r f s e (eqb-false s r b)) ∙ more)
      go Nothing t b e more = rw (picked_skips i n t) more

-- of segments
module _ (r : ℕ) (f : Fact) where
  given_first : (s : Segment) (ss : List Segment) → given_by (s ∷ ss) 0 ≡ picked s.rule s.candidate 0 s.count ++ given_by ss 0
  unfolding given_by
  given_first s ss = let z : s.count - 0 ≡ s.count = omega arith in ap (λ n. picked s.rule s.candidate 0 n ++ given_by ss 0) z

  segments_hold : (ss : List Segment) (j i : ℕ) → j < length ss → (get_or ss j no_segment).rule ≡ r → i < (get_or ss j no_segment).count
      → is_candidate f ((get_or ss j no_segment).candidate i) ≡ true → some (is_given_by r f) (given_by ss 0) ≡ true
  segments_hold [] j i l e b q = absurd (omega arith)
  segments_hold (s ∷ ss) zero i l e b q = rw (given_first s ss) (some_left (is_given_by r f) (picked s.rule s.candidate 0 s.count) (given_by ss 0) (picked_holds r f s.rule s.candidate s.count 0 i e (omega arith) (omega arith) q))
  segments_hold (s ∷ ss) (suc j) i l e b q = rw (given_first s ss) (some_right (is_given_by r f) (picked s.rule s.candidate 0 s.count) (given_by ss 0) (segments_hold ss j i (omega arith) e b q))

  segments_none : (ss : List Segment) → ((j i : ℕ) → j < length ss → (get_or ss j no_segment).rule ≡ r → i < (get_or ss j no_segment).count → is_candidate f ((get_or ss j no_segment).candidate i) ≡ false)
      → some (is_given_by r f) (given_by ss 0) ≡ false
  unfolding some given_by
  segments_none [] h = refl
  segments_none (s ∷ ss) h =
      rw (given_first s ss)
      (some_neither (is_given_by r f) (picked s.rule s.candidate 0 s.count) (given_by ss 0) (picked_none r f s.rule s.candidate s.count 0 (λ e k a b. h 0 k (omega arith) e (omega arith)))
      (segments_none ss (λ j i l e b. h (suc j) i (omega arith) e b)))

-- of a fact
module _ (numbers : List ℕ) (premise : Fact) (r : ℕ) (f : Fact) where
  pub follows_true : (j i : ℕ) → j < length (segments_in numbers premise) → (segment_in numbers premise j).rule ≡ r → i < (segment_in numbers premise j).count
      → gives_at numbers premise f j i ≡ true → follows (graph_in numbers) (last_verdicts (graph_in numbers)) premise r f ≡ true
  unfolding follows gives segment_in segments_in gives_at
  follows_true j i l e b q = segments_hold r f (segments_in numbers premise) j i l e b q

  pub follows_false : ((j i : ℕ) → j < length (segments_in numbers premise) → (segment_in numbers premise j).rule ≡ r → i < (segment_in numbers premise j).count
      → gives_at numbers premise f j i ≡ false) → follows (graph_in numbers) (last_verdicts (graph_in numbers)) premise r f ≡ false
  unfolding follows gives segment_in segments_in gives_at
  follows_false h = segments_none r f (segments_in numbers premise) h
