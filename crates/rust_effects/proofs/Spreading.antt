-- The worklist: all that it sets lies in every choice that the pairs keep, and when its stack is empty the bits are such a choice.
use Prim.Native.Nat.{ℕ}
use mathlib.Core.Path.{◌≡◌, refl, sym, subst}
use mathlib.Core.Logic.{◌⊎◌, inl, inr}
use mathlib.Core.Bool.{Bool, true, false}
use mathlib.Core.List.{List, [], ◌∷◌}
use Rattle.keep_record.specs.Lines.{elem}
use Rattle.rust_values.specs.Values.{Pair, pair, In}
use Rattle.rust_values.proofs.Members.{elem_in}
use Rattle.rust_effects.specs.DetermineSideEffects.{Spreading, spread_to, spread_to_all, dependents_of, Propagates, returns, pops}
use Rattle.rust_effects.proofs.Filtered.{in_dependents, dependents_in}

-- z is s after the importers xs were taken: they have their bits, and those without a bit before are on the stack
pub record Spread (xs : List ℕ) (s z : Spreading) : Type 0 where
  pub stays : (m : ℕ) → In m s.effectful → In m z.effectful
  pub waits : (m : ℕ) → In m s.pending → In m z.pending
  pub set : (m : ℕ) → In m xs → In m z.effectful
  pub new : (m : ℕ) → In m z.effectful → In m s.effectful ⊎ (In m xs × In m z.pending)
  pub pushed : (m : ℕ) → In m z.pending → In m s.pending ⊎ In m xs

spread_none : (s : Spreading) → Spread [] s s
spread_none s = record { stays = λ m h. h; waits = λ m h. h; set = λ m h. absurd h; new = λ m h. inl h; pushed = λ m h. inl h }

spread_one : (x : ℕ) (s : Spreading) → Spread (x ∷ []) s (spread_to x s)
unfolding spread_to
spread_one x s = go (elem x s.effectful) refl
  where
    there : In x s.effectful → (m : ℕ) → (m ≡ x) ⊎ ⊥ → In m s.effectful
    there h m (inl e) = subst (λ k. In k s.effectful) (sym e) h
    there h m (inr n) = absurd n

    first : (m : ℕ) → (m ≡ x) ⊎ ⊥ → In m (x ∷ s.effectful)
    first m (inl e) = inl e
    first m (inr n) = absurd n

    new-bit : (m : ℕ) → In m (x ∷ s.effectful) → In m s.effectful ⊎ (In m (x ∷ []) × In m (x ∷ s.pending))
    new-bit m (inl e) = inr (inl e, inl e)
    new-bit m (inr h) = inl h

    new-place : (m : ℕ) → In m (x ∷ s.pending) → In m s.pending ⊎ In m (x ∷ [])
    new-place m (inl e) = inr (inl e)
    new-place m (inr h) = inl h

    go : (b : Bool) → elem x s.effectful ≡ b → Spread (x ∷ []) s (spread_to x s)
    go true t = rw (t, spread_to) (record { stays = λ m h. h; waits = λ m h. h; set = there (elem_in x s.effectful t); new = λ m h. inl h; pushed = λ m h. inl h })
    go false t = rw (t, spread_to) (record { stays = λ m h. inr h; waits = λ m h. inr h; set = first; new = new-bit; pushed = new-place })

spread_on : (x : ℕ) (xs : List ℕ) (s t z : Spreading) → Spread (x ∷ []) s t → Spread xs t z → Spread (x ∷ xs) s z
spread_on x xs s t z a b =
    record {
      stays = λ m h. b.stays m (a.stays m h);
      waits = λ m h. b.waits m (a.waits m h);
      set = set_all;
      new = λ m h. news m (b.new m h);
      pushed = λ m h. places m (b.pushed m h);
    }
  where
    set_all : (m : ℕ) → (m ≡ x) ⊎ In m xs → In m z.effectful
    set_all m (inl e) = b.stays m (a.set m (inl e))
    set_all m (inr h) = b.set m h

    older : (m : ℕ) → In m s.effectful ⊎ (((m ≡ x) ⊎ ⊥) × In m t.pending) → In m s.effectful ⊎ (In m (x ∷ xs) × In m z.pending)
    older m (inl h) = inl h
    older m (inr (inl e, p)) = inr (inl e, b.waits m p)
    older m (inr (inr n, p)) = absurd n

    news : (m : ℕ) → In m t.effectful ⊎ (In m xs × In m z.pending) → In m s.effectful ⊎ (In m (x ∷ xs) × In m z.pending)
    news m (inl h) = older m (a.new m h)
    news m (inr (h, p)) = inr (inr h, p)

    before : (m : ℕ) → In m s.pending ⊎ ((m ≡ x) ⊎ ⊥) → In m s.pending ⊎ In m (x ∷ xs)
    before m (inl h) = inl h
    before m (inr (inl e)) = inr (inl e)
    before m (inr (inr n)) = absurd n

    places : (m : ℕ) → In m t.pending ⊎ In m xs → In m s.pending ⊎ In m (x ∷ xs)
    places m (inl h) = before m (a.pushed m h)
    places m (inr h) = inr (inr h)

pub spread_all : (xs : List ℕ) (s : Spreading) → Spread xs s (spread_to_all xs s)
unfolding spread_to_all
spread_all [] s = spread_none s
spread_all (x ∷ xs) s = spread_on x xs s (spread_to x s) _ (spread_one x s) (spread_all xs (spread_to x s))

module _ (dependents : List Pair) where
  -- after a pop of m
  abbrev pub after : Spreading → ℕ → List ℕ → Spreading
  after s m ms = spread_to_all (dependents_of dependents m) (record { effectful = s.effectful; pending = ms })

  -- bits stay
  pub bits_stay : (s z : Spreading) → Propagates dependents s z → (m : ℕ) → In m s.effectful → In m z.effectful
  bits_stay s z (returns _ e) m h = h
  bits_stay s z (pops _ _ n ns e p) m h = bits_stay (after s n ns) z p m ((spread_all (dependents_of dependents n) (record { effectful = s.effectful; pending = ns })).stays m h)

  -- a choice that holds all that has a bit or waits, and each importer of what it holds, holds all that gets a bit
  module _ (P : ℕ → Type 0) (closed : (a b : ℕ) → In (pair a b) dependents → P a → P b) where
    pub record Within (s : Spreading) : Type 0 where
      pub of-bits : (m : ℕ) → In m s.effectful → P m
      pub of-pending : (m : ℕ) → In m s.pending → P m

    popped-within : (s : Spreading) (n : ℕ) (ns : List ℕ) → s.pending ≡ n ∷ ns → Within s → Within (after s n ns)
    popped-within s n ns e w = record { of-bits = λ m h. bits m (d.new m h); of-pending = λ m h. places m (d.pushed m h) }
      where
        d : Spread (dependents_of dependents n) (record { effectful = s.effectful; pending = ns }) (after s n ns)
        d = spread_all (dependents_of dependents n) (record { effectful = s.effectful; pending = ns })

        waiting : (m : ℕ) → In m (n ∷ ns) → P m
        waiting m h = w.of-pending m (subst (λ l. In m l) (sym e) h)

        next : (m : ℕ) → In m (dependents_of dependents n) → P m
        next m h = closed n m (in_dependents n m dependents h) (waiting n (inl refl))

        bits : (m : ℕ) → In m s.effectful ⊎ (In m (dependents_of dependents n) × In m (after s n ns).pending) → P m
        bits m (inl h) = w.of-bits m h
        bits m (inr (h, p)) = next m h

        places : (m : ℕ) → In m ns ⊎ In m (dependents_of dependents n) → P m
        places m (inl h) = waiting m (inr h)
        places m (inr h) = next m h

    pub stays_within : (s z : Spreading) → Propagates dependents s z → Within s → Within z
    stays_within s z (returns _ e) w = w
    stays_within s z (pops _ _ n ns e p) w = stays_within (after s n ns) z p (popped-within s n ns e w)

  -- of each module with a bit: it waits, or its importers have their bits
  abbrev pub Tended : Spreading → Type 0
  Tended s = (a : ℕ) → In a s.effectful → In a s.pending ⊎ ((b : ℕ) → In (pair a b) dependents → In b s.effectful)

  popped_tended : (s : Spreading) (n : ℕ) (ns : List ℕ) → s.pending ≡ n ∷ ns → Tended s → Tended (after s n ns)
  popped_tended s n ns e t a h = go (d.new a h)
    where
      d : Spread (dependents_of dependents n) (record { effectful = s.effectful; pending = ns }) (after s n ns)
      d = spread_all (dependents_of dependents n) (record { effectful = s.effectful; pending = ns })

      place : In a (n ∷ ns) → In a (after s n ns).pending ⊎ ((b : ℕ) → In (pair a b) dependents → In b (after s n ns).effectful)
      place (inl q) = inr (λ b i. d.set b (dependents_in n b dependents (subst (λ k. In (pair k b) dependents) q i)))
      place (inr i) = inl (d.waits a i)

      tended : In a s.pending ⊎ ((b : ℕ) → In (pair a b) dependents → In b s.effectful)
          → In a (after s n ns).pending ⊎ ((b : ℕ) → In (pair a b) dependents → In b (after s n ns).effectful)
      tended (inl i) = place (subst (λ l. In a l) e i)
      tended (inr f) = inr (λ b i. d.stays b (f b i))

      go : In a s.effectful ⊎ (In a (dependents_of dependents n) × In a (after s n ns).pending)
          → In a (after s n ns).pending ⊎ ((b : ℕ) → In (pair a b) dependents → In b (after s n ns).effectful)
      go (inl i) = tended (t a i)
      go (inr (i, p)) = inl p

  -- when the stack is empty, each importer of a module with a bit has one
  pub end_closed : (s z : Spreading) → Propagates dependents s z → Tended s → (a b : ℕ) → In (pair a b) dependents → In a z.effectful → In b z.effectful
  end_closed s z (returns _ e) t a b i h = go (t a h)
    where
      go : In a s.pending ⊎ ((c : ℕ) → In (pair a c) dependents → In c s.effectful) → In b s.effectful
      go (inl p) = absurd (subst (λ l. In a l) e p)
      go (inr f) = f b i
  end_closed s z (pops _ _ n ns e p) t a b i h = end_closed (after s n ns) z p (popped_tended s n ns e t) a b i h
