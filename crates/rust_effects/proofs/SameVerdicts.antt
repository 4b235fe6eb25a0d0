-- What the Rust's determine_side_effects gives, where it returns, is what settling gives; and its sequence gives the last verdicts.
use Prim.Native.Nat.{ℕ, ◌<◌, ◌≤◌}
use mathlib.Core.Path.{◌≡◌, refl, ap, ◌∙◌, sym}
use mathlib.Core.Logic.{inl}
use mathlib.Core.Bool.{Bool, true, false, ◌&&◌, false≢true}
use mathlib.Core.List.{List, []}
use native.Mathlib.Nat.{zero-add}
use native.Mathlib.Omega.{arith}
use lib.Dec.{eqb, ltb}
use lib.Seq.{ext_get_or}
use lib.ListN.{length, get_or, get_or-eq_default}
use borrow.Author.Tests.{eqb-true, eq-eqb, ltb-true, ltb-false}
use Rattle.determine_side_effects.specs.graph_crate.Check.{Graph}
use Rattle.determine_side_effects.specs.graph_access_crate.Names.{effects, import_records}
use Rattle.determine_side_effects.specs.graph_access_crate.Words.{tabulate, module_of, normal}
use Rattle.determine_side_effects.specs.Effects.{effectful as has_effects, settle, relaxed, rescanned, last_verdicts}
use Rattle.determine_side_effects.specs.Paths.{Quiet, Leads, «effects» as begins, seeded, imports}
use Rattle.determine_side_effects.specs.Sequence.{given_verdicts, recomputed_from, rust_verdicts}
use Rattle.determine_side_effects.proofs.Lists.{both, length-tabulate, get_d_tabulate, tabulate-same}
use Rattle.determine_side_effects.proofs.ByPaths.{by_paths, rust_sequence}
use Rattle.keep_record.specs.Lines.{elem}
use Rattle.rust_values.specs.Values.{In}
use Rattle.rust_values.proofs.Members.{elem_in, in_elem, in_at}
use Rattle.rust_effects.specs.DetermineSideEffects.{gathered, Spreading, pending_below, Propagates, DetermineSideEffects, recomputed, none_relaxed, RecomputeAnalyzedSideEffects, none_relaxed_case, recomputes, SideEffects}
use Rattle.rust_effects.proofs.Filtered.{in_pending, pending_in}
use Rattle.rust_effects.proofs.Spreading.{bits_stay, stays_within, Tended, end_closed}
use Rattle.rust_effects.proofs.Gathering.{gathered_sound, gathered_first, gathered_takes, depends_leads}

-- the worklist as it begins
abbrev pub begun : Graph → List ℕ → Spreading
begun g v = record { effectful = (gathered g v).effectful; pending = pending_below (gathered g v).effectful g.header.modules }

-- the verdict of module m when the bits are `bits`
abbrev pub verdict_by : Graph → List ℕ → List ℕ → ℕ → ℕ
verdict_by g v bits m = elim (normal g m && eqb (get_or v m 0) 0) [ true ↦ elim (elem m bits) [ true ↦ 1 | false ↦ 0 ] | false ↦ get_or v m 0 ]

module _ (g : Graph) (v : List ℕ) (long : length v ≡ g.header.modules) (z : Spreading) (runs : Propagates (gathered g v).dependents (begun g v) z) where
  -- a path leads from each module that has its bit at the end
  bits_lead : (m : ℕ) → In m z.effectful → Leads g v m
  bits_lead =
      (stays_within (gathered g v).dependents (Leads g v) (λ a b i l. depends_leads g v a b ((gathered_sound g v).pairs a b i) l) (begun g v) z runs
      (record {
        of-bits = λ m h. ((gathered_sound g v).bits m h).1;
        of-pending = λ m h. ((gathered_sound g v).bits m (in_pending m g.header.modules (gathered g v).effectful h)).1;
      })
      ).of-bits

  stay : (m : ℕ) → In m (gathered g v).effectful → In m z.effectful
  stay = bits_stay (gathered g v).dependents (begun g v) z runs

  -- all that have their bits wait when the worklist begins
  begun_tended : Tended (gathered g v).dependents (begun g v)
  begun_tended a h = inl (pending_in a g.header.modules (gathered g v).effectful h ((gathered_sound g v).bits a h).0)

  effects_inside : (m : ℕ) → has_effects (get_or v m 0) ≡ true → m < g.header.modules
  unfolding has_effects
  effects_inside m e = go (ltb m g.header.modules) refl
    where
      go : (b : Bool) → ltb m g.header.modules ≡ b → m < g.header.modules
      go true t = ltb-true m g.header.modules t
      go false t =
          let l : length v ≤ m = omega (arith, long, ltb-false m g.header.modules t) in
          let d : get_or v m 0 ≡ 0 = get_or-eq_default v 0 l in
          absurd (false≢true (rw d at e))

  -- each module from which a path leads has its bit at the end
  leads_bits : (m : ℕ) → Leads g v m → In m z.effectful
  leads_bits m (begins _ e) = stay m (gathered_first g v m (effects_inside m e) e)
  leads_bits m (seeded _ k q l e) = stay m ((gathered_takes g v m q _ (in_at (import_records (module_of g m)) [] k l)).seeds_it e)
  leads_bits m (imports _ k t q i r) =
      end_closed (gathered g v).dependents (begun g v) z runs begun_tended t m
      ((gathered_takes g v m q _ (in_at (import_records (module_of g m)) [] k i.listed)).pairs_it t i.target) (leads_bits t r)

  same_verdict : (m : ℕ) → m < g.header.modules → verdict_by g v z.effectful m ≡ get_or (settle g v) m 0
  same_verdict m l = go (normal g m && eqb (get_or v m 0) 0) refl (elem m z.effectful) refl
    where
      quiet : (normal g m && eqb (get_or v m 0) 0) ≡ true → Quiet g v m
      quiet e = let b = both _ _ e in record { inside = l; is_normal = b.0; without = eqb-true (get_or v m 0) 0 b.1 }

      loud : (normal g m && eqb (get_or v m 0) 0) ≡ false → Quiet g v m → ⊥
      loud e q = let z : eqb (get_or v m 0) 0 ≡ true = eq-eqb (get_or v m 0) 0 q.without in false≢true (rw (q.is_normal, z) at (sym e))

      go : (b : Bool) → (normal g m && eqb (get_or v m 0) 0) ≡ b → (c : Bool) → elem m z.effectful ≡ c → verdict_by g v z.effectful m ≡ get_or (settle g v) m 0
      go true e true h = rw (e, verdict_by, h) (sym (((by_paths g v long).becomes m (quiet e)).1 (bits_lead m (elem_in m z.effectful h))))
      go true e false h =
          rw (e, verdict_by, h) (sym ((by_paths g v long).else_stays m (quiet e) (λ r. false≢true (sym h ∙ in_elem m z.effectful (leads_bits m r)))))
      go false e c h = rw (e, verdict_by) (sym ((by_paths g v long).others m (loud e)))

  pub same_verdicts : tabulate (verdict_by g v z.effectful) 0 g.header.modules ≡ settle g v
  same_verdicts =
      ext_get_or 0 _ _ (n ∙ sym ((by_paths g v long).long ∙ long))
      (λ m h. get_d_tabulate (verdict_by g v z.effectful) 0 g.header.modules m 0 (omega (arith, h, n)) ∙ ap (verdict_by g v z.effectful) (zero-add m)
      ∙ same_verdict m (omega (arith, h, n)))
    where
      n : length (tabulate (verdict_by g v z.effectful) 0 g.header.modules) ≡ g.header.modules
      n = length-tabulate (verdict_by g v z.effectful) 0 g.header.modules

-- determine_side_effects settles the verdicts
pub determined : (g : Graph) (v w : List ℕ) → length v ≡ g.header.modules → DetermineSideEffects g v w → w ≡ settle g v
determined g v w long d = d.verdicts_are ∙ same_verdicts g v long d.end d.propagates

-- the recomputation between the two settlings is that of the sequence
recomputed_same : (g : Graph) (v : List ℕ) (m : ℕ) → recomputed g v m ≡ recomputed_from g v m
unfolding recomputed recomputed_from rescanned
recomputed_same g v m = refl

pub none_relaxed_true : (g : Graph) → none_relaxed g ≡ true → relaxed g ≡ false
unfolding none_relaxed relaxed
none_relaxed_true g e = go (relaxed g) refl
  where
    go : (b : Bool) → relaxed g ≡ b → relaxed g ≡ false
    go true r = absurd (false≢true (rw (r, none_relaxed) at e))
    go false r = r

pub none_relaxed_false : (g : Graph) → none_relaxed g ≡ false → relaxed g ≡ true
unfolding none_relaxed relaxed
none_relaxed_false g e = go (relaxed g) refl
  where
    go : (b : Bool) → relaxed g ≡ b → relaxed g ≡ true
    go true r = r
    go false r = absurd (false≢true (sym (rw (r, none_relaxed) at e)))

pub recomputed_long : (g : Graph) (v : List ℕ) → length (tabulate (recomputed g v) 0 g.header.modules) ≡ g.header.modules
recomputed_long g v = length-tabulate (recomputed g v) 0 g.header.modules

pub given_long : (g : Graph) → length (tabulate (λ m. effects (module_of g m)) 0 g.header.modules) ≡ g.header.modules
given_long g = length-tabulate (λ m. effects (module_of g m)) 0 g.header.modules

pub sequence_relaxed : (g : Graph) → relaxed g ≡ true → settle g (tabulate (recomputed g (settle g (given_verdicts g))) 0 g.header.modules) ≡ last_verdicts g
unfolding rust_verdicts
sequence_relaxed g r =
    ap (settle g) (tabulate-same (recomputed g (settle g (given_verdicts g))) _ 0 g.header.modules (λ m h. recomputed_same g (settle g (given_verdicts g)) m))
    ∙ rw (r, rust_verdicts) at (rust_sequence g)

pub sequence_not : (g : Graph) → relaxed g ≡ false → settle g (given_verdicts g) ≡ last_verdicts g
unfolding rust_verdicts
sequence_not g r = rw (r, rust_verdicts) at (rust_sequence g)

-- the verdicts that the Rust ends with are the last verdicts, for any graph
pub rust_effects : (g : Graph) (w : List ℕ) → SideEffects g w → w ≡ last_verdicts g
unfolding given_verdicts
rust_effects g w s = go s.first w (determined g _ s.first (given_long g) s.determines) s.recomputes
  where
    go : (v x : List ℕ) → v ≡ settle g (given_verdicts g) → RecomputeAnalyzedSideEffects g v x → x ≡ last_verdicts g
    go v x e (none_relaxed_case _ r) = e ∙ sequence_not g (none_relaxed_true g r)
    go v x e (recomputes _ _ r d) =
        determined g _ x (recomputed_long g v) d ∙ ap (λ u. settle g (tabulate (recomputed g u) 0 g.header.modules)) e ∙ sequence_relaxed g (none_relaxed_false g r)
