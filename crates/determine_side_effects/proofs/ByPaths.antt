-- Effects by paths (docs/RULES.md, Effects): a normal Analyzed(false) module ends as Analyzed(true) exactly if a path of resolved imports
-- leads from it to effects; the others keep their verdict. The order in which the passes take the modules plays no part in it.
use Prim.Native.Nat.{ℕ, zero, suc, ◌-◌, ◌<◌, ◌≤◌}
use mathlib.Core.Path.{◌≡◌, refl, ap, ◌∙◌, sym}
use mathlib.Core.Logic.{◌⊎◌, inl, inr}
use mathlib.Core.Bool.{Bool, true, false, ◌||◌, false≢true}
use mathlib.Core.List.{List, []}
use native.Mathlib.Nat.{zero-add}
use native.Mathlib.Omega.{arith}
use borrow.Author.Tests.{eqb-true, eqb-false, ne_eqb}
use lib.Dec.{eqb}
use lib.Seq.{get_or-set_same, get_or-set_other}
use lib.ListN.{length, get_or}
use Rattle.facts.specs.graph_crate.Check.{Graph}
use Rattle.facts.specs.graph_access_crate.Names.{effects, import_records, import_record_target}
use Rattle.facts.specs.graph_access_crate.Words.{module_of, normal}
use Rattle.determine_side_effects.specs.Effects.{effectful, seeds, reaches, moves, moved, pass, passes, settle, relaxed, recomputed, first_verdict, first_verdicts, last_verdicts}
use Rattle.determine_side_effects.specs.Paths.{Quiet, Leads, «effects» as begins, seeded, imports, ByPaths}
use Rattle.determine_side_effects.specs.Sequence.{given_verdicts, recomputed_from, rust_verdicts, RustSequence, LastByPaths}
use Rattle.determine_side_effects.proofs.Lists.{either, length-tabulate, get_d_tabulate, tabulate-same}
use Rattle.determine_side_effects.proofs.Settled.{Moving, moving, moving_moves, moved_true, moved_false, moved_length, pass-length, pass_still, settle-length, settled_still}

-- a record that reaches effects is resolved, to a module that has them
record Reached (v row : List ℕ) : Type 0 where
  to : ℕ
  target : import_record_target row ≡ suc to
  has : effectful (get_or v to 0) ≡ true

reached : (v row : List ℕ) → reaches v row ≡ true → Reached v row
unfolding reaches
reached v row e = go (eqb (import_record_target row) 0) refl
  where
    go : (b : Bool) → eqb (import_record_target row) 0 ≡ b → Reached v row
    go true t = absurd (false≢true (rw (t, reaches) at e))
    go false t =
        let n : import_record_target row ≡ suc (import_record_target row - 1) = omega (arith, eqb-false (import_record_target row) 0 t) in
        record { to = import_record_target row - 1; target = n; has = rw (t, reaches) at e }

reached_reaches : (v row : List ℕ) (t : ℕ) → import_record_target row ≡ suc t → effectful (get_or v t 0) ≡ true → reaches v row ≡ true
unfolding reaches
reached_reaches v row t e h =
    let z : eqb (import_record_target row) 0 ≡ false = ne_eqb (import_record_target row) 0 (omega arith) in
    let i : import_record_target row - 1 ≡ t = omega arith in
    rw (z, reaches, i) h

one_effectful : (x : ℕ) → x ≡ 1 → effectful x ≡ true
unfolding effectful
one_effectful x e = rw e

none_effectful : (x : ℕ) → x ≡ 0 → effectful x ≡ true → ⊥
unfolding effectful
none_effectful x z e = false≢true (rw z at e)

or_left : (a b : Bool) → a ≡ true → (a || b) ≡ true
or_left a b e = rw e

or_right : (a b : Bool) → b ≡ true → (a || b) ≡ true
or_right true b e = refl
or_right false b e = e

-- what has become of module m's verdict
pub data Turn (g : Graph) (v : List ℕ) (m x : ℕ) : Type 0 where
  kept : x ≡ get_or v m 0 → Turn g v m x
  turned : Quiet g v m → x ≡ 1 → Leads g v m → Turn g v m x

module _ (g : Graph) (v : List ℕ) where
  abbrev Sound : List ℕ → Type 0
  Sound w = (m : ℕ) → Turn g v m (get_or w m 0)

  still_leads : (w : List ℕ) → Sound w → (t : ℕ) → effectful (get_or w t 0) ≡ true → Leads g v t
  still_leads w s t e = go (s t)
    where
      go : Turn g v t (get_or w t 0) → Leads g v t
      go (kept k) = begins t (rw k at e)
      go (turned q o l) = l

  -- where a module moves, a path leads from it
  moving_leads : (w : List ℕ) → Sound w → (m : ℕ) → m < g.header.modules → Moving g w m → Quiet g v m × Leads g v m
  moving_leads w s m h i = let q = quiet (s m) in (q, go q (either _ _ i.why))
    where
      quiet : Turn g v m (get_or w m 0) → Quiet g v m
      quiet (kept k) = record { inside = h; is_normal = i.is_normal; without = sym k ∙ i.without }
      quiet (turned q o l) = q

      go : Quiet g v m → (seeds g (get_or (import_records (module_of g m)) i.by []) ≡ true) ⊎ (reaches w (get_or (import_records (module_of g m)) i.by []) ≡ true) → Leads g v m
      go q (inl e) = seeded m i.by q i.listed e
      go q (inr e) =
          let r = reached w (get_or (import_records (module_of g m)) i.by []) e in
          imports m i.by r.to q (record { listed = i.listed; target = r.target }) (still_leads w s r.to r.has)

  moved_sound : (w : List ℕ) → Sound w → (k : ℕ) → k < g.header.modules → k < length w → Sound (moved g w k)
  moved_sound w s k h l m = go (moves g w k) refl (eqb m k) refl
    where
      go : (b : Bool) → moves g w k ≡ b → (c : Bool) → eqb m k ≡ c → Turn g v m (get_or (moved g w k) m 0)
      go false e c i = rw (moved_false g w k e) (s m)
      go true e true i =
          let j : m ≡ k = eqb-true m k i in
          let p = moving_leads w s k h (moving g w k e) in
          rw (moved_true g w k e, j) (turned p.0 (get_or-set_same w k 1 0 l) p.1)
      go true e false i = rw (moved_true g w k e, get_or-set_other w k m 1 0 (eqb-false m k i)) (s m)

  pass_sound : (k : ℕ) (w : List ℕ) → Sound w → k ≤ g.header.modules → k ≤ length w → Sound (pass g k w)
  unfolding pass
  pass_sound zero w s h l = s
  pass_sound (suc k) w s h l = pass_sound k (moved g w k) (moved_sound w s k (omega arith) (omega arith)) (omega arith) (omega (arith, moved_length g w k))

  passes_sound : (n : ℕ) (w : List ℕ) → Sound w → g.header.modules ≤ length w → Sound (passes g n w)
  unfolding passes
  passes_sound zero w s l = s
  passes_sound (suc n) w s l = passes_sound n (pass g g.header.modules w) (pass_sound g.header.modules w s (omega arith) l) (omega (arith, pass-length g g.header.modules w))

  module _ (long : length v ≡ g.header.modules) where
    settled-sound : Sound (settle g v)
    unfolding settle
    settled-sound = passes_sound g.header.modules v (λ m. kept refl) (omega arith)

    nothing-moves : (m : ℕ) → m < g.header.modules → moves g (settle g v) m ≡ false
    nothing-moves m h = pass_still g g.header.modules (settle g v) (settled_still g v (omega arith)) m h (omega (arith, settle-length g v))

    -- a record that would move a module has moved it
    arrives : (m k : ℕ) → Quiet g v m → k < length (import_records (module_of g m))
        → (seeds g (get_or (import_records (module_of g m)) k []) || reaches (settle g v) (get_or (import_records (module_of g m)) k [])) ≡ true → get_or (settle g v) m 0 ≡ 1
    arrives m k q l e = go (settled-sound m)
      where
        go : Turn g v m (get_or (settle g v) m 0) → get_or (settle g v) m 0 ≡ 1
        go (turned p o r) = o
        go (kept i) = absurd (false≢true (
            sym (nothing-moves m q.inside)
            ∙ moving_moves g (settle g v) m (record { is_normal = q.is_normal; without = i ∙ q.without; by = k; listed = l; why = e })))

    leads-effects : (m : ℕ) → Leads g v m → effectful (get_or (settle g v) m 0) ≡ true
    leads-effects m (begins _ e) = go (settled-sound m)
      where
        go : Turn g v m (get_or (settle g v) m 0) → effectful (get_or (settle g v) m 0) ≡ true
        go (kept i) = rw i e
        go (turned q o l) = one_effectful _ o
    leads-effects m (seeded _ k q l e) = one_effectful _ (arrives m k q l (or_left _ _ e))
    leads-effects m (imports _ k t q i r) =
        one_effectful _ (arrives m k q i.listed (or_right (seeds g (get_or (import_records (module_of g m)) k [])) _ (reached_reaches (settle g v) _ t i.target (leads-effects t r))))

    pub settled-leads : (m : ℕ) → Quiet g v m → get_or (settle g v) m 0 ≡ 1 → Leads g v m
    settled-leads m q e = go (settled-sound m)
      where
        go : Turn g v m (get_or (settle g v) m 0) → Leads g v m
        go (kept i) = absurd (omega (arith, i, q.without))
        go (turned p o l) = l

    pub quiet-or-moved : (m : ℕ) → Quiet g v m → (get_or (settle g v) m 0 ≡ 0) ⊎ (get_or (settle g v) m 0 ≡ 1)
    quiet-or-moved m q = go (settled-sound m)
      where
        go : Turn g v m (get_or (settle g v) m 0) → (get_or (settle g v) m 0 ≡ 0) ⊎ (get_or (settle g v) m 0 ≡ 1)
        go (kept i) = inl (i ∙ q.without)
        go (turned p o l) = inr o

    pub leads-settled : (m : ℕ) → Quiet g v m → Leads g v m → get_or (settle g v) m 0 ≡ 1
    leads-settled m q l = go (quiet-or-moved m q)
      where
        go : (get_or (settle g v) m 0 ≡ 0) ⊎ (get_or (settle g v) m 0 ≡ 1) → get_or (settle g v) m 0 ≡ 1
        go (inl z) = absurd (none_effectful _ z (leads-effects m l))
        go (inr o) = o

    pub others-stay : (m : ℕ) → (Quiet g v m → ⊥) → get_or (settle g v) m 0 ≡ get_or v m 0
    others-stay m n = go (settled-sound m)
      where
        go : Turn g v m (get_or (settle g v) m 0) → get_or (settle g v) m 0 ≡ get_or v m 0
        go (kept i) = i
        go (turned q o l) = absurd (n q)

-- settling gives the verdicts by paths
pub by_paths : (g : Graph) (v : List ℕ) → length v ≡ g.header.modules → ByPaths g v (settle g v)
by_paths g v long =
    record {
      long = settle-length g v;
      becomes = λ m q. (settled-leads g v long m q, leads-settled g v long m q);
      else_stays = λ m q n. stays m q n (quiet-or-moved g v long m q);
      others = others-stay g v long;
    }
  where
    stays : (m : ℕ) → Quiet g v m → (Leads g v m → ⊥) → (get_or (settle g v) m 0 ≡ 0) ⊎ (get_or (settle g v) m 0 ≡ 1) → get_or (settle g v) m 0 ≡ 0
    stays m q n (inl z) = z
    stays m q n (inr o) = absurd (n (settled-leads g v long m q o))

-- settling leaves external modules as they are
pub externals_stay : (g : Graph) (m : ℕ) → m < g.header.modules → normal g m ≡ false → get_or (settle g (given_verdicts g)) m 0 ≡ effects (module_of g m)
unfolding given_verdicts
externals_stay g m h n =
    others-stay g (given_verdicts g) (length-tabulate (λ i. effects (module_of g i)) 0 g.header.modules) m (λ q. false≢true (sym n ∙ q.is_normal))
    ∙ get_d_tabulate (λ i. effects (module_of g i)) 0 g.header.modules m 0 h
    ∙ ap (λ i. effects (module_of g i)) (zero-add m)

-- that they were settled before the recomputation changes nothing
pub recomputed_anyway : (g : Graph) (m : ℕ) → m < g.header.modules → recomputed_from g (settle g (given_verdicts g)) m ≡ recomputed g m
unfolding recomputed_from recomputed
recomputed_anyway g m h = go (normal g m) refl
  where
    go : (b : Bool) → normal g m ≡ b → recomputed_from g (settle g (given_verdicts g)) m ≡ recomputed g m
    go true n = rw (n, recomputed_from, recomputed)
    go false n = rw (n, recomputed_from, recomputed) (externals_stay g m h n)

-- the last verdicts, by the ones before the settling
pub last_by_paths : LastByPaths
unfolding last_verdicts first_verdicts
last_by_paths g = by_paths g (first_verdicts g) (length-tabulate (first_verdict g) 0 g.header.modules)

-- the Rust's two settlings and the recomputation between them give the same verdicts as one settling
pub rust_sequence : RustSequence
unfolding rust_verdicts last_verdicts first_verdicts first_verdict given_verdicts
rust_sequence g = go (relaxed g) refl
  where
    n : ℕ
    n = g.header.modules

    go : (b : Bool) → relaxed g ≡ b → rust_verdicts g ≡ last_verdicts g
    go true e = rw (e, rust_verdicts) (ap (settle g) (tabulate-same _ (first_verdict g) 0 n (λ m h. recomputed_anyway g m (omega (arith, h)) ∙ rw (e, first_verdict))))
    go false e = rw (e, rust_verdicts) (ap (settle g) (tabulate-same _ (first_verdict g) 0 n (λ m h. rw (e, first_verdict))))
