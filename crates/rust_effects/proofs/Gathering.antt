-- The loop over the modules: which modules have their bits, and which pairs are among `dependents`, when it ends.
use Prim.Native.Nat.{ℕ, zero, suc, ◌+◌, ◌-◌, ◌<◌, ◌≤◌}
use mathlib.Core.Path.{◌≡◌, refl, ap, ◌∙◌, sym, subst}
use mathlib.Core.Logic.{◌⊎◌, inl, inr}
use mathlib.Core.Bool.{Bool, true, false, ◌&&◌, ◌||◌, not, false≢true}
use mathlib.Core.List.{List, [], ◌∷◌, ◌++◌}
use native.Mathlib.Omega.{arith}
use lib.Dec.{eqb}
use lib.ListN.{get_or}
use borrow.Author.Tests.{eqb-true, eqb-false, eq-eqb, ne_eqb}
use Rattle.determine_side_effects.specs.graph_crate.Check.{Graph}
use Rattle.determine_side_effects.specs.graph_access_crate.Names.{flags, wrap, import_records, import_record_target, import_record_kind, import_record_bits}
use Rattle.determine_side_effects.specs.graph_access_crate.Words.{flag, tabulate, module_of, normal}
use Rattle.determine_side_effects.specs.Effects.{effectful as has_effects, seeds}
use Rattle.determine_side_effects.specs.Paths.{Quiet, Leads, «effects» as begins, seeded, imports}
use Rattle.rust_values.specs.Values.{Pair, pair, optional, filter, In}
use Rattle.rust_values.proofs.Members.{in_append, in_append_left, in_append_right, at_in}
use Rattle.rust_effects.specs.DetermineSideEffects.{has_side_effects, Gathered, must_initialize, gather_record, gather_records, gather_module, gather_from, gathered}
use Rattle.rust_effects.proofs.Filtered.{in_filter, filter_in, in_numbers, numbers_in}

-- one record: the Rust's test of a resolved one is `seeds`
must_initialize_lem : (g : Graph) (t : ℕ) → must_initialize g t ≡ (not (eqb (wrap (module_of g t)) 0) || flag 3 (flags (module_of g t)))
unfolding must_initialize
must_initialize_lem g t = go (eqb (wrap (module_of g t)) 0) refl
  where
    go : (b : Bool) → eqb (wrap (module_of g t)) 0 ≡ b → must_initialize g t ≡ (not (eqb (wrap (module_of g t)) 0) || flag 3 (flags (module_of g t)))
    go true e = rw (e, must_initialize)
    go false e = rw (e, must_initialize)

seeds_found : (g : Graph) (row : List ℕ) (t : ℕ) → import_record_target row ≡ suc t
    → seeds g row ≡ (eqb (import_record_kind row) 0 && (flag 0 (import_record_bits row) && (normal g t && must_initialize g t)))
unfolding seeds
seeds_found g row t e =
    let z : eqb (import_record_target row) 0 ≡ false = ne_eqb (import_record_target row) 0 (omega (arith, e)) in
    let i : import_record_target row - 1 ≡ t = omega (arith, e) in
    rw (z, seeds, i, must_initialize_lem g t) refl

seeds_none : (g : Graph) (row : List ℕ) → import_record_target row ≡ 0 → seeds g row ≡ false
unfolding seeds
seeds_none g row e = let z : eqb (import_record_target row) 0 ≡ true = eq-eqb (import_record_target row) 0 e in rw (z, seeds)

-- what a record does to the bits and the pairs
abbrev taken : Graph → ℕ → List ℕ → Gathered → Gathered
taken g m row s = gather_record g m row (optional (import_record_target row)) s

taken_none : (g : Graph) (m : ℕ) (row : List ℕ) (s : Gathered) → import_record_target row ≡ 0 → taken g m row s ≡ s
unfolding gather_record optional
taken_none g m row s e = rw e

taken_seeds : (g : Graph) (m : ℕ) (row : List ℕ) (t : ℕ) (s : Gathered) → import_record_target row ≡ suc t → seeds g row ≡ true
    → taken g m row s ≡ record { effectful = m ∷ s.effectful; dependents = s.dependents ++ (pair t m ∷ []) }
unfolding gather_record optional
taken_seeds g m row t s e h = let q = sym (seeds_found g row t e) ∙ h in rw (e, q) refl

taken_found : (g : Graph) (m : ℕ) (row : List ℕ) (t : ℕ) (s : Gathered) → import_record_target row ≡ suc t → seeds g row ≡ false
    → taken g m row s ≡ record { effectful = s.effectful; dependents = s.dependents ++ (pair t m ∷ []) }
unfolding gather_record optional
taken_found g m row t s e h = let q = sym (seeds_found g row t e) ∙ h in rw (e, q) refl

-- `importer` is normal and Analyzed(false), with a record that is resolved to `importee`
pub record Depends (g : Graph) (v : List ℕ) (importee importer : ℕ) : Type 0 where
  pub quiet : Quiet g v importer
  pub row : List ℕ
  pub listed : In row (import_records (module_of g importer))
  pub target : import_record_target row ≡ suc importee

-- where a module depends on one from which a path leads, a path leads from it
pub depends_leads : (g : Graph) (v : List ℕ) (a b : ℕ) → Depends g v a b → Leads g v a → Leads g v b
depends_leads g v a b d l =
    let r = at_in d.row (import_records (module_of g b)) [] d.listed in
    imports b r.place a d.quiet (record { listed = r.inside; target = ap import_record_target r.is ∙ d.target }) l

seeded_leads : (g : Graph) (v : List ℕ) (m : ℕ) (row : List ℕ) → Quiet g v m → In row (import_records (module_of g m)) → seeds g row ≡ true → Leads g v m
seeded_leads g v m row q h e = let r = at_in row (import_records (module_of g m)) [] h in seeded m r.place q r.inside (ap (seeds g) r.is ∙ e)

-- has_side_effects
has_effects_lem : (x : ℕ) → has_side_effects x ≡ has_effects x
unfolding has_side_effects has_effects
has_effects_lem x = refl

-- Every bit is of a module from which a path leads, every pair is of a module and one that depends on it.
pub record Sound (g : Graph) (v : List ℕ) (s : Gathered) : Type 0 where
  pub bits : (m : ℕ) → In m s.effectful → (m < g.header.modules) × Leads g v m
  pub pairs : (a b : ℕ) → In (pair a b) s.dependents → Depends g v a b

module _ (g : Graph) (v : List ℕ) where
  record_sound : (m : ℕ) (row : List ℕ) (s : Gathered) → Quiet g v m → In row (import_records (module_of g m)) → Sound g v s → Sound g v (taken g m row s)
  record_sound m row s q i w = go (import_record_target row) refl (seeds g row) refl
    where
      bit : seeds g row ≡ true → (k : ℕ) → In k (m ∷ s.effectful) → (k < g.header.modules) × Leads g v k
      bit h k (inl e) = subst (λ j. (j < g.header.modules) × Leads g v j) (sym e) (q.inside, seeded_leads g v m row q i h)
      bit h k (inr j) = w.bits k j

      last : (t a b : ℕ) → import_record_target row ≡ suc t → In (pair a b) s.dependents ⊎ ((pair a b ≡ pair t m) ⊎ ⊥) → Depends g v a b
      last t a b e (inl h) = w.pairs a b h
      last t a b e (inr (inl p)) =
          subst (λ (o : Pair). Depends g v o.first o.second) (sym p) (record { quiet = q; row = row; listed = i; target = e })
      last t a b e (inr (inr n)) = absurd n

      one : (t a b : ℕ) → import_record_target row ≡ suc t → In (pair a b) (s.dependents ++ (pair t m ∷ [])) → Depends g v a b
      one t a b e h = last t a b e (in_append (pair a b) s.dependents (pair t m ∷ []) h)

      go : (t : ℕ) → import_record_target row ≡ t → (b : Bool) → seeds g row ≡ b → Sound g v (taken g m row s)
      go zero e b h = rw (taken_none g m row s e) w
      go (suc t) e true h = rw (taken_seeds g m row t s e h) (record { bits = bit h; pairs = λ a b. one t a b e })
      go (suc t) e false h = rw (taken_found g m row t s e h) (record { bits = w.bits; pairs = λ a b. one t a b e })

  records_sound : (m : ℕ) (rows : List (List ℕ)) (s : Gathered) → Quiet g v m → ((row : List ℕ) → In row rows → In row (import_records (module_of g m)))
      → Sound g v s → Sound g v (gather_records g m rows s)
  unfolding gather_records
  records_sound m [] s q i w = w
  records_sound m (row ∷ rows) s q i w = records_sound m rows (taken g m row s) q (λ x h. i x (inr h)) (record_sound m row s q (i row (inl refl)) w)

  module_sound : (m : ℕ) (s : Gathered) → m < g.header.modules → Sound g v s → Sound g v (gather_module g v m s)
  unfolding gather_module
  module_sound m s l w = go (normal g m) refl (eqb (get_or v m 0) 0) refl
    where
      go : (b : Bool) → normal g m ≡ b → (c : Bool) → eqb (get_or v m 0) 0 ≡ c → Sound g v (gather_module g v m s)
      go true n true z =
          let q : Quiet g v m = record { inside = l; is_normal = n; without = eqb-true (get_or v m 0) 0 z } in
          rw (n, gather_module, z) (records_sound m (import_records (module_of g m)) s q (λ row h. h) w)
      go true n false z = rw (n, gather_module, z) w
      go false n c z = rw (n, gather_module) w

  from_sound : (m n : ℕ) (s : Gathered) → m + n ≤ g.header.modules → Sound g v s → Sound g v (gather_from g v m n s)
  unfolding gather_from
  from_sound m zero s l w = w
  from_sound m (suc n) s l w = from_sound (m + 1) n (gather_module g v m s) (omega (arith, l)) (module_sound m s (omega (arith, l)) w)

  -- the bits before the loop
  abbrev at_first : Gathered
  at_first = record { effectful = filter (λ m. has_side_effects (get_or v m 0)) (tabulate (λ m. m) 0 g.header.modules); dependents = [] }

  first_sound : Sound g v at_first
  first_sound = record { bits = bit; pairs = λ a b h. absurd h }
    where
      bit : (m : ℕ) → In m (filter (λ k. has_side_effects (get_or v k 0)) (tabulate (λ k. k) 0 g.header.modules)) → (m < g.header.modules) × Leads g v m
      bit m h =
          let r = in_filter (λ k. has_side_effects (get_or v k 0)) m (tabulate (λ k. k) 0 g.header.modules) h in
          (omega (arith, in_numbers m 0 g.header.modules r.0), begins m (sym (has_effects_lem (get_or v m 0)) ∙ r.1))

  pub gathered_sound : Sound g v (gathered g v)
  unfolding gathered
  gathered_sound = from_sound 0 g.header.modules at_first (omega arith) first_sound

-- z has all that s has
record Grown (s z : Gathered) : Type 0 where
  bits_stay : (m : ℕ) → In m s.effectful → In m z.effectful
  pairs_stay : (p : Pair) → In p s.dependents → In p z.dependents

grown_none : (s : Gathered) → Grown s s
grown_none s = record { bits_stay = λ m h. h; pairs_stay = λ p h. h }

grown_on : (s t z : Gathered) → Grown s t → Grown t z → Grown s z
grown_on s t z a b = record { bits_stay = λ m h. b.bits_stay m (a.bits_stay m h); pairs_stay = λ p h. b.pairs_stay p (a.pairs_stay p h) }

-- record `row` of module m has been taken
pub record Taken (g : Graph) (m : ℕ) (row : List ℕ) (z : Gathered) : Type 0 where
  pub seeds_it : seeds g row ≡ true → In m z.effectful
  pub pairs_it : (t : ℕ) → import_record_target row ≡ suc t → In (pair t m) z.dependents

taken_stays : (g : Graph) (m : ℕ) (row : List ℕ) (s z : Gathered) → Grown s z → Taken g m row s → Taken g m row z
taken_stays g m row s z w t = record { seeds_it = λ e. w.bits_stay m (t.seeds_it e); pairs_it = λ k e. w.pairs_stay (pair k m) (t.pairs_it k e) }

module _ (g : Graph) (v : List ℕ) where
  record_takes : (m : ℕ) (row : List ℕ) (s : Gathered) → Grown s (taken g m row s) × Taken g m row (taken g m row s)
  record_takes m row s = go (import_record_target row) refl (seeds g row) refl
    where
      joined : (t k : ℕ) → import_record_target row ≡ suc t → import_record_target row ≡ suc k → In (pair k m) (s.dependents ++ (pair t m ∷ []))
      joined t k e f =
          let q : k ≡ t = omega (arith, e, f) in
          in_append_right (pair k m) s.dependents (pair t m ∷ []) (inl (ap (λ j. pair j m) q))

      older : (t : ℕ) (p : Pair) → In p s.dependents → In p (s.dependents ++ (pair t m ∷ []))
      older t p h = in_append_left p s.dependents (pair t m ∷ []) h

      go : (t : ℕ) → import_record_target row ≡ t → (b : Bool) → seeds g row ≡ b → Grown s (taken g m row s) × Taken g m row (taken g m row s)
      go zero e b h =
          rw (taken_none g m row s e) (grown_none s, record { seeds_it = λ f. absurd (false≢true (sym (seeds_none g row e) ∙ f)); pairs_it = λ k f. absurd (omega (arith, e, f)) })
      go (suc t) e true h =
          rw (taken_seeds g m row t s e h) (record { bits_stay = λ k i. inr i; pairs_stay = older t }, record { seeds_it = λ f. inl refl; pairs_it = λ k f. joined t k e f })
      go (suc t) e false h =
          rw (taken_found g m row t s e h)
          (record { bits_stay = λ k i. i; pairs_stay = older t }, record { seeds_it = λ f. absurd (false≢true (sym h ∙ f)); pairs_it = λ k f. joined t k e f })

  records_grow : (m : ℕ) (rows : List (List ℕ)) (s : Gathered) → Grown s (gather_records g m rows s)
  unfolding gather_records
  records_grow m [] s = grown_none s
  records_grow m (row ∷ rows) s = grown_on s (taken g m row s) _ (record_takes m row s).0 (records_grow m rows (taken g m row s))

  records-take : (m : ℕ) (rows : List (List ℕ)) (s : Gathered) (row : List ℕ) → In row rows → Taken g m row (gather_records g m rows s)
  unfolding gather_records
  records-take m [] s row h = absurd h
  records-take m (x ∷ rows) s row (inl e) =
      subst (λ r. Taken g m r (gather_records g m rows (taken g m x s))) (sym e) (taken_stays g m x (taken g m x s) _ (records_grow m rows (taken g m x s)) (record_takes m x s).1)
  records-take m (x ∷ rows) s row (inr h) = records-take m rows (taken g m x s) row h

  module_grows : (m : ℕ) (s : Gathered) → Grown s (gather_module g v m s)
  unfolding gather_module
  module_grows m s = go (normal g m) refl (eqb (get_or v m 0) 0) refl
    where
      go : (b : Bool) → normal g m ≡ b → (c : Bool) → eqb (get_or v m 0) 0 ≡ c → Grown s (gather_module g v m s)
      go true n true z = rw (n, gather_module, z) (records_grow m (import_records (module_of g m)) s)
      go true n false z = rw (n, gather_module, z) (grown_none s)
      go false n c z = rw (n, gather_module) (grown_none s)

  module_takes : (m : ℕ) (s : Gathered) → Quiet g v m → (row : List ℕ) → In row (import_records (module_of g m)) → Taken g m row (gather_module g v m s)
  unfolding gather_module
  module_takes m s q row h =
      let z : eqb (get_or v m 0) 0 ≡ true = eq-eqb (get_or v m 0) 0 q.without in
      rw (q.is_normal, gather_module, z) (records-take m (import_records (module_of g m)) s row h)

  from_grows : (m n : ℕ) (s : Gathered) → Grown s (gather_from g v m n s)
  unfolding gather_from
  from_grows m zero s = grown_none s
  from_grows m (suc n) s = grown_on s (gather_module g v m s) _ (module_grows m s) (from_grows (m + 1) n (gather_module g v m s))

  from_takes : (m n : ℕ) (s : Gathered) (k : ℕ) → m ≤ k → k < m + n → Quiet g v k → (row : List ℕ) → In row (import_records (module_of g k)) → Taken g k row (gather_from g v m n s)
  unfolding gather_from
  from_takes m zero s k l u q row h = absurd (omega (arith, l, u))
  from_takes m (suc n) s k l u q row h = go (eqb k m) refl (λ b c. from_takes (m + 1) n (gather_module g v m s) k b c q row h)
    where
      go : (b : Bool) → eqb k m ≡ b → (m + 1 ≤ k → k < m + 1 + n → Taken g k row (gather_from g v (m + 1) n (gather_module g v m s)))
          → Taken g k row (gather_from g v (m + 1) n (gather_module g v m s))
      go true e more =
          let i = eqb-true k m e in
          let t : Taken g k row (gather_module g v m s) = subst (λ j. Taken g k row (gather_module g v j s)) i (module_takes k s q row h) in
          taken_stays g k row (gather_module g v m s) _ (from_grows (m + 1) n (gather_module g v m s)) t
      go false e more = more (omega (arith, l, eqb-false k m e)) (omega (arith, u))

  -- what has effects at first has its bit
  pub gathered_first : (m : ℕ) → m < g.header.modules → has_effects (get_or v m 0) ≡ true → In m (gathered g v).effectful
  unfolding gathered
  gathered_first m l e =
      (from_grows 0 g.header.modules (at_first g v)).bits_stay m
      (filter_in (λ k. has_side_effects (get_or v k 0)) m (tabulate (λ k. k) 0 g.header.modules) (numbers_in m 0 g.header.modules (omega arith) (omega (arith, l)))
      (has_effects_lem (get_or v m 0) ∙ e))

  -- each record of a normal Analyzed(false) module has been taken
  pub gathered_takes : (m : ℕ) → Quiet g v m → (row : List ℕ) → In row (import_records (module_of g m)) → Taken g m row (gathered g v)
  unfolding gathered
  gathered_takes m q row h = from_takes 0 g.header.modules (at_first g v) m (omega arith) (omega (arith, q.inside)) q row h
