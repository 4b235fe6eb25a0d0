-- In a finite choice that has the uses that its uses give: each of them ends, or there is a circle. Uses that give none of those left are taken away
-- one after another.
use Prim.Native.Nat.{ℕ, zero, suc, ◌<◌, ◌≤◌}
use mathlib.Core.Path.{◌≡◌, refl, ap, ◌∙◌, sym, subst}
use mathlib.Core.Logic.{◌⊎◌, inl, inr}
use mathlib.Core.Bool.{Bool, true, false, ◌&&◌, false≢true}
use mathlib.Core.List.{List, [], ◌∷◌, map}
use native.Mathlib.Omega.{arith}
use lib.Dec.{eqb}
use lib.ListN.{length, get_or}
use borrow.Author.Tests.{eqb-true, eq-eqb}
use Rattle.determine_side_effects.specs.graph_crate.Check.{Graph}
use Rattle.determine_side_effects.specs.facts_crate.declared.Fact.{Fact}
use Rattle.determine_side_effects.specs.facts_crate.declared.Fact.TheVariants.{Module, Statement, Use, CheckedUse, Forward, Bailout}
use Rattle.determine_side_effects.specs.facts_crate.Facts.{use_fact, kind_of, first_part, second_part}
use Rattle.determine_side_effects.specs.Effects.{last_verdicts}
use Rattle.keep_rules.specs.Rules.{Given, gives}
use Rattle.keep_record.specs.declared.Line.{Line}
use Rattle.worklist.specs.Drain.{fact_at}
use Rattle.closed_choices.specs.Choice.{Choice, HasLine, nothing_given}
use Rattle.rust_values.specs.Values.{Pair, pair, has_pair, In}
use Rattle.rust_engine.proofs.HandlingStatements.{pair_in, in_pair}
use Rattle.rust_returns.specs.Circle.{GivesUse, CircleIn}
use Rattle.rust_returns.proofs.Ending.{Ends, ends}
use Rattle.rust_returns.proofs.Uses.{at_place, placed}

abbrev use_of : Pair → Fact
use_of p = use_fact p.first p.second

-- a list without an element
unfoldable without : Pair → List Pair → List Pair
without p [] = []
without p (q ∷ qs) = elim (eqb q.first p.first && eqb q.second p.second) [ true ↦ without p qs | false ↦ q ∷ without p qs ]

both_true : (a b : Bool) → (a && b) ≡ true → (a ≡ true) × (b ≡ true)
both_true true b e = (refl, e)
both_true false b e = absurd (false≢true e)

same_pair : (p q : Pair) → (eqb q.first p.first && eqb q.second p.second) ≡ true → q ≡ p
same_pair p q e =
    let z = both_true (eqb q.first p.first) (eqb q.second p.second) e in
    ap (λ n. pair n q.second) (eqb-true q.first p.first z.0) ∙ ap (λ n. pair p.first n) (eqb-true q.second p.second z.1)

pair_same : (p q : Pair) → q ≡ p → (eqb q.first p.first && eqb q.second p.second) ≡ true
pair_same p q e = rw (eq-eqb q.first p.first (ap (λ (r : Pair). r.first) e), eq-eqb q.second p.second (ap (λ (r : Pair). r.second) e)) refl

in_without : (p q : Pair) (qs : List Pair) → In q qs → (q ≡ p) ⊎ In q (without p qs)
unfolding without
in_without p q [] h = absurd h
in_without p q (r ∷ rs) h = go (eqb r.first p.first && eqb r.second p.second) refl h (λ k. in_without p q rs k)
  where
    later : (q ≡ p) ⊎ In q (without p rs) → (q ≡ p) ⊎ In q (r ∷ without p rs)
    later (inl e) = inl e
    later (inr k) = inr (inr k)

    go : (b : Bool) → (eqb r.first p.first && eqb r.second p.second) ≡ b → (q ≡ r) ⊎ In q rs → (In q rs → (q ≡ p) ⊎ In q (without p rs))
        → (q ≡ p) ⊎ In q (elim b [ true ↦ without p rs | false ↦ r ∷ without p rs ])
    go true e (inl k) more = inl (k ∙ same_pair p r e)
    go true e (inr k) more = more k
    go false e (inl k) more = inr (inl k)
    go false e (inr k) more = later (more k)

without_in : (p q : Pair) (qs : List Pair) → In q (without p qs) → In q qs
unfolding without
without_in p q [] h = absurd h
without_in p q (r ∷ rs) h = go (eqb r.first p.first && eqb r.second p.second) h (λ k. without_in p q rs k)
  where
    go : (b : Bool) → In q (elim b [ true ↦ without p rs | false ↦ r ∷ without p rs ]) → (In q (without p rs) → In q rs) → (q ≡ r) ⊎ In q rs
    go true k more = inr (more k)
    go false (inl k) more = inl k
    go false (inr k) more = inr (more k)

without_le : (p : Pair) (qs : List Pair) → length (without p qs) ≤ length qs
unfolding without
without_le p [] = omega arith
without_le p (r ∷ rs) = go (eqb r.first p.first && eqb r.second p.second) (without_le p rs)
  where
    go : (b : Bool) → length (without p rs) ≤ length rs → length {A = Pair} (elim b [ true ↦ without p rs | false ↦ r ∷ without p rs ]) ≤ suc (length rs)
    go true h = omega (arith, h)
    go false h = omega (arith, h)

without_lt : (p : Pair) (qs : List Pair) → In p qs → length (without p qs) < length qs
unfolding without
without_lt p [] h = absurd h
without_lt p (r ∷ rs) h = go (eqb r.first p.first && eqb r.second p.second) refl h (without_le p rs) (λ k. without_lt p rs k)
  where
    go : (b : Bool) → (eqb r.first p.first && eqb r.second p.second) ≡ b → (p ≡ r) ⊎ In p rs → length (without p rs) ≤ length rs
        → (In p rs → length (without p rs) < length rs) → length {A = Pair} (elim b [ true ↦ without p rs | false ↦ r ∷ without p rs ]) < suc (length rs)
    go true e k le more = omega (arith, le)
    go false e (inl k) le more = absurd (false≢true (sym e ∙ pair_same p r (sym k)))
    go false e (inr k) le more = omega (arith, more k)

-- whether one of what is given is a use of a list
record Found (us : List Pair) (gs : List Given) : Type 0 where
  which : Pair
  its : In which us
  place : ℕ
  inside : place < length gs
  is : (get_or gs place nothing_given).fact ≡ use_of which

abbrev Nowhere : List Pair → List Given → Type 0
Nowhere us gs = (q : Pair) → In q us → (k : ℕ) → k < length gs → (get_or gs k nothing_given).fact ≡ use_of q → ⊥

not_use : (f : Fact) (q : Pair) (n : ℕ) → kind_of f ≡ n → (n ≡ 3 → ⊥) → f ≡ use_of q → ⊥
not_use f q n e h k = h (sym e ∙ ap kind_of k)

head_is : (us : List Pair) (f : Fact) → ((q : Pair) × In q us × (f ≡ use_of q)) ⊎ ((q : Pair) → In q us → f ≡ use_of q → ⊥)
head_is us (Module m) = inr (λ q h e. not_use (Module m) q 1 refl (λ z. omega (arith, z)) e)
head_is us (Statement m i) = inr (λ q h e. not_use (Statement m i) q 2 refl (λ z. omega (arith, z)) e)
head_is us (Use s x) = go (has_pair s.0 x.bits us) refl
  where
    go : (b : Bool) → has_pair s.0 x.bits us ≡ b → ((q : Pair) × In q us × (Use s x ≡ use_of q)) ⊎ ((q : Pair) → In q us → Use s x ≡ use_of q → ⊥)
    go true e = inl (pair s.0 x.bits, pair_in s.0 x.bits us e, refl)
    go false e =
        inr (λ q h k. false≢true (sym e ∙ in_pair s.0 x.bits us
        (subst (λ n. In (pair n x.bits) us) (sym (ap first_part k)) (subst (λ n. In (pair q.first n) us) (sym (ap second_part k)) h))))
head_is us (CheckedUse s x) = inr (λ q h e. not_use (CheckedUse s x) q 4 refl (λ z. omega (arith, z)) e)
head_is us (Forward s) = inr (λ q h e. not_use (Forward s) q 5 refl (λ z. omega (arith, z)) e)
head_is us (Bailout m) = inr (λ q h e. not_use (Bailout m) q 6 refl (λ z. omega (arith, z)) e)

find : (us : List Pair) (gs : List Given) → Found us gs ⊎ Nowhere us gs
find us [] = inr (λ q h k u e. omega (arith, u))
find us (x ∷ xs) = go (head_is us x.fact) (find us xs)
  where
    go : ((q : Pair) × In q us × (x.fact ≡ use_of q)) ⊎ ((q : Pair) → In q us → x.fact ≡ use_of q → ⊥) → Found us xs ⊎ Nowhere us xs → Found us (x ∷ xs) ⊎ Nowhere us (x ∷ xs)
    go (inl a) b = inl (record { which = a.0; its = a.1; place = 0; inside = omega arith; is = a.2 })
    go (inr a) (inl b) = inl (record { which = b.which; its = b.its; place = suc b.place; inside = omega (arith, b.inside); is = b.is })
    go (inr a) (inr b) = inr none
      where
        none : Nowhere us (x ∷ xs)
        none q h zero u e = a q h e
        none q h (suc k) u e = b q h k (omega (arith, u)) e

module _ (g : Graph) where
  abbrev given : Pair → List Given
  given p = gives g (last_verdicts g) (use_of p)

  -- all of a list lead on, or one does not
  all_lead : (us ps : List Pair) → ((p : Pair) → In p ps → Found us (given p)) ⊎ ((p : Pair) × In p ps × Nowhere us (given p))
  all_lead us [] = inl (λ p h. absurd h)
  all_lead us (p ∷ ps) = go (find us (given p)) (all_lead us ps)
    where
      go : Found us (given p) ⊎ Nowhere us (given p) → ((q : Pair) → In q ps → Found us (given q)) ⊎ ((q : Pair) × In q ps × Nowhere us (given q))
          → ((q : Pair) → In q (p ∷ ps) → Found us (given q)) ⊎ ((q : Pair) × In q (p ∷ ps) × Nowhere us (given q))
      go (inl a) (inl b) = inl each
        where
          each : (q : Pair) → (q ≡ p) ⊎ In q ps → Found us (given q)
          each q (inl e) = subst (λ r. Found us (given r)) (sym e) a
          each q (inr h) = b q h
      go (inl a) (inr b) = inr (b.0, inr b.1, b.2)
      go (inr a) b = inr (p, inl refl, a)

  module _ (C : Choice) (onward : (s x t y : ℕ) → C (use_fact s x) → GivesUse g s x t y → C (use_fact t y)) where
    abbrev AllEnd : Type 0
    AllEnd = (s x : ℕ) → C (use_fact s x) → Ends g s x

    abbrev Chosen : List Pair → Type 0
    Chosen us = (p : Pair) → In p us → C (use_of p)

    abbrev OrEnds : List Pair → Type 0
    OrEnds us = (p : Pair) → C (use_of p) → In p us ⊎ Ends g p.first p.second

    none_left : OrEnds [] → AllEnd
    none_left h s x q = go (h (pair s x) q)
      where
        go : ⊥ ⊎ Ends g s x → Ends g s x
        go (inl z) = absurd z
        go (inr z) = z

    circle-of : (u : Pair) (us : List Pair) → Chosen (u ∷ us) → ((p : Pair) → In p (u ∷ us) → Found (u ∷ us) (given p)) → CircleIn g C
    circle-of u us c f =
        record {
          uses = u ∷ us;
          one = u;
          is_in = inl refl;
          chosen = c;
          leads_on = λ p q. let r = f p q in (r.which, r.its, at_place g p.first p.second r.which.first r.which.second (record { place = r.place; inside = r.inside; is = r.is }));
        }

    -- one that gives none of them ends
    its-end : (us : List Pair) → Chosen us → OrEnds us → (p : Pair) → In p us → Nowhere us (given p) → Ends g p.first p.second
    its-end us c h p q none = ends p.first p.second (λ t y k. by t y k (h (pair t y) (onward p.first p.second t y (c p q) k)))
      where
        by : (t y : ℕ) → GivesUse g p.first p.second t y → In (pair t y) us ⊎ Ends g t y → Ends g t y
        by t y given (inl z) = let k = placed g p.first p.second t y given in absurd (none (pair t y) z k.place k.inside k.is)
        by t y given (inr z) = z

    -- and is taken away
    less : (us : List Pair) (p : Pair) → Ends g p.first p.second → (q : Pair) → In q us ⊎ Ends g q.first q.second → In q (without p us) ⊎ Ends g q.first q.second
    less us p e q (inl z) = by (in_without p q us z)
      where
        by : (q ≡ p) ⊎ In q (without p us) → In q (without p us) ⊎ Ends g q.first q.second
        by (inl w) = inr (subst (λ (r : Pair). Ends g r.first r.second) (sym w) e)
        by (inr w) = inl w
    less us p e q (inr z) = inr z

    abbrev Searched : ℕ → Type 0
    Searched n = (us : List Pair) → length us ≤ n → Chosen us → OrEnds us → AllEnd ⊎ CircleIn g C

    turn : (n : ℕ) → Searched n → Searched (suc n)
    turn n more [] l c h = inl (none_left h)
    turn n more (u ∷ us) l c h = go (all_lead (u ∷ us) (u ∷ us))
      where
        go : ((p : Pair) → In p (u ∷ us) → Found (u ∷ us) (given p)) ⊎ ((p : Pair) × In p (u ∷ us) × Nowhere (u ∷ us) (given p)) → AllEnd ⊎ CircleIn g C
        go (inl f) = inr (circle-of u us c f)
        go (inr z) =
            let p = z.0 in
            let e = its-end (u ∷ us) c h p z.1 z.2 in
            more (without p (u ∷ us)) (omega (arith, l, without_lt p (u ∷ us) z.1)) (λ q w. c q (without_in p q (u ∷ us) w)) (λ q w. less (u ∷ us) p e q (h q w))

    at_once : Searched 0
    at_once [] l c h = inl (none_left h)
    at_once (u ∷ us) l c h = absurd (omega (arith, l))

    search-in : (n : ℕ) → Searched n
    search-in zero = at_once
    search-in (suc n) = turn n (search-in n)

    pub search : (us : List Pair) → ((p : Pair) → In p us → C (use_of p)) → ((p : Pair) → C (use_of p) → In p us) → AllEnd ⊎ CircleIn g C
    search us c h = search-in (length us) us (omega arith) c (λ p q. inl (h p q))

-- the uses of lines
unfoldable pub use_before : Fact → List Pair → List Pair
use_before (Module m) ps = ps
use_before (Statement m i) ps = ps
use_before (Use s x) ps = pair s.0 x.bits ∷ ps
use_before (CheckedUse s x) ps = ps
use_before (Forward s) ps = ps
use_before (Bailout m) ps = ps

unfoldable pub uses_of : List Line → List Pair
uses_of [] = []
uses_of (l ∷ ls) = use_before l.fact (uses_of ls)

in_before : (p : Pair) (f : Fact) (ps : List Pair) → In p (use_before f ps) → (f ≡ use_of p) ⊎ In p ps
unfolding use_before
in_before p (Module m) ps h = inr h
in_before p (Statement m i) ps h = inr h
in_before p (Use s x) ps (inl e) = inl (ap use_of (sym e))
in_before p (Use s x) ps (inr h) = inr h
in_before p (CheckedUse s x) ps h = inr h
in_before p (Forward s) ps h = inr h
in_before p (Bailout m) ps h = inr h

before_in : (p : Pair) (f : Fact) (ps : List Pair) → In p ps → In p (use_before f ps)
unfolding use_before
before_in p (Module m) ps h = h
before_in p (Statement m i) ps h = h
before_in p (Use s x) ps h = inr h
before_in p (CheckedUse s x) ps h = h
before_in p (Forward s) ps h = h
before_in p (Bailout m) ps h = h

use_before_lem : (p : Pair) (f : Fact) (ps : List Pair) → f ≡ use_of p → In p (use_before f ps)
unfolding use_before
use_before_lem p f ps e = subst (λ x. In p (use_before x ps)) (sym e) (inl refl)

pub uses_lined : (ls : List Line) (p : Pair) → In p (uses_of ls) → HasLine ls (use_of p)
unfolding uses_of fact_at
uses_lined [] p h = absurd h
uses_lined (l ∷ ls) p h = go (in_before p l.fact (uses_of ls) h) (λ k. uses_lined ls p k)
  where
    go : (l.fact ≡ use_of p) ⊎ In p (uses_of ls) → (In p (uses_of ls) → HasLine ls (use_of p)) → HasLine (l ∷ ls) (use_of p)
    go (inl e) more = record { number = 0; inside = omega arith; is = e }
    go (inr k) more = let r = more k in record { number = suc r.number; inside = omega (arith, r.inside); is = r.is }

pub lined_uses : (ls : List Line) (p : Pair) → HasLine ls (use_of p) → In p (uses_of ls)
unfolding uses_of fact_at
lined_uses ls p h = go ls h.number h.inside h.is
  where
    go : (ls : List Line) (k : ℕ) → k < length ls → fact_at ls k ≡ use_of p → In p (uses_of ls)
    go [] k u e = absurd (omega (arith, u))
    go (l ∷ ls) zero u e = use_before_lem p l.fact (uses_of ls) e
    go (l ∷ ls) (suc k) u e = before_in p l.fact (uses_of ls) (go ls k (omega (arith, u)) e)

-- the facts of lines
pub lined_in : (ls : List Line) (f : Fact) → HasLine ls f → In f (map (λ l. l.fact) ls)
unfolding fact_at
lined_in ls f h = go ls h.number h.inside h.is
  where
    go : (ls : List Line) (k : ℕ) → k < length ls → fact_at ls k ≡ f → In f (map (λ l. l.fact) ls)
    go [] k u e = absurd (omega (arith, u))
    go (l ∷ ls) zero u e = inl (sym e)
    go (l ∷ ls) (suc k) u e = inr (go ls k (omega (arith, u)) e)
