-- K7: import records that bail out a CommonJS module.
use Prim.Native.Nat.{ℕ, ◌+◌, ◌-◌}
use mathlib.Core.Path.{◌≡◌, refl, ap, ◌∙◌, sym}
use mathlib.Core.Bool.{Bool, true, false, ◌&&◌, ◌||◌, not}
use mathlib.Core.Logic.{◌⊎◌, ⊎_elim}
use mathlib.Core.List.{List, []}
use native.Mathlib.Omega.{arith}
use borrow.Author.Tests.{eq-eqb, ne_eqb}
use lib.Dec.{eqb, ltb}
use lib.ListN.{get_or}
use Rattle.determine_side_effects.specs.graph_crate.Check.{Graph}
use Rattle.determine_side_effects.specs.graph_access_crate.Names.{exports, flags, reexport_count, import_records, import_record_target, import_record_kind, import_record_bits, only, statement_import_records}
use Rattle.determine_side_effects.specs.facts_crate.Facts.{bailout_fact}
use Rattle.determine_side_effects.specs.graph_access_crate.Words.{flag, normal, module_of, statement_of}
use Rattle.determine_side_effects.specs.Effects.{has_effects}
use Rattle.keep_rules.specs.declared.Candidate.TheVariants.{Gives, Nothing}
use Rattle.keep_rules.specs.Rules.{when, import_record_of, bails_out, import_record_candidate}

bails : Bool → Bool → Bool → Bool → Bool → Bool → Bool → Bool
bails usual common import bare effects reexports several = usual && (common && (not import && (not (bare && not effects) && (not reexports || several))))

bare_ends : (a b c d e f s : Bool) → d ≡ true → e ≡ false → false ≡ bails a b c d e f s
unfolding bails
bare_ends true true true d e f s p q = refl
bare_ends true true false d e f s p q = rw (p, q, bails)
bare_ends true false c d e f s p q = refl
bare_ends false b c d e f s p q = refl

effects_go : (d e f s : Bool) → e ≡ true → not f || s ≡ bails true true false d e f s
unfolding bails
effects_go true e f s p = rw (p, bails)
effects_go false e f s p = refl

plain_goes : (d e f s : Bool) → d ≡ false → not f || s ≡ bails true true false d e f s
unfolding bails
plain_goes d e f s p = rw (p, bails)

-- the record's target is t
module _ (g : Graph) (v : List ℕ) (m : ℕ) (row : List ℕ) (t : ℕ) (e : import_record_target row ≡ t + 1) where
  same : bails (normal g t) (eqb (exports (module_of g t)) 1) (eqb (import_record_kind row) 0) (flag 1 (import_record_bits row)) (has_effects v t) (flag 2 (flags (module_of g m))) (ltb 1 (reexport_count (module_of g m))) ≡ bails_out g v m row
  unfolding bails_out bails
  same =
      let n : import_record_target row ≡ 0 → ⊥ = λ z. omega (arith, z, e) in
      let i : t ≡ import_record_target row - 1 = omega (arith, e) in
      ap (λ y. bails (normal g y) (eqb (exports (module_of g y)) 1) (eqb (import_record_kind row) 0) (flag 1 (import_record_bits row)) (has_effects v y) (flag 2 (flags (module_of g m))) (ltb 1 (reexport_count (module_of g m)))) i
      ∙ rw (ne_eqb (import_record_target row) 0 n, bails_out)

  pub bails_external : normal g t ≡ false → false ≡ bails_out g v m row
  unfolding bails
  bails_external a = rw (a, bails) at same

  module _ (a : normal g t ≡ true) (x : ℕ) (f : x ≡ exports (module_of g t)) where
    pub bails-other : (x ≡ 1 → ⊥) → false ≡ bails_out g v m row
    unfolding bails
    bails-other n = rw (a, ne_eqb (exports (module_of g t)) 1 (λ z. n (f ∙ z)), bails) at same

    module _ (b : x ≡ 1) (k : ℕ) (h : k ≡ import_record_kind row) where
      pub bails-import : k ≡ 0 → false ≡ bails_out g v m row
      unfolding bails
      bails-import n = rw (a, eq-eqb (exports (module_of g t)) 1 (sym f ∙ b), eq-eqb (import_record_kind row) 0 (sym h ∙ n), bails) at same

      module _ (c : k ≡ 0 → ⊥) (y : ℕ) (i : y ≡ import_record_bits row) where
        pub bails-bare : flag 1 y ≡ true → has_effects v t ≡ false → false ≡ bails_out g v m row
        bails-bare p q = bare_ends (normal g t) (eqb (exports (module_of g t)) 1) (eqb (import_record_kind row) 0) (flag 1 (import_record_bits row)) (has_effects v t) (flag 2 (flags (module_of g m))) (ltb 1 (reexport_count (module_of g m))) (ap (flag 1) (sym i) ∙ p) q ∙ same

        module _ (past : (has_effects v t ≡ true) ⊎ (flag 1 y ≡ false)) (z : ℕ) (j : z ≡ flags (module_of g m)) where
          last : not (flag 2 z) || ltb 1 (reexport_count (module_of g m)) ≡ bails_out g v m row
          last =
              let here : bails true true false (flag 1 (import_record_bits row)) (has_effects v t) (flag 2 (flags (module_of g m))) (ltb 1 (reexport_count (module_of g m))) ≡ bails_out g v m row = rw (a, eq-eqb (exports (module_of g t)) 1 (sym f ∙ b), ne_eqb (import_record_kind row) 0 (λ u. c (h ∙ u))) at same in
              ap (λ u. not (flag 2 u) || ltb 1 (reexport_count (module_of g m))) j
              ∙ (⊎_elim (λ w. effects_go (flag 1 (import_record_bits row)) _ (flag 2 (flags (module_of g m))) (ltb 1 (reexport_count (module_of g m))) w)
              (λ w. plain_goes _ (has_effects v t) (flag 2 (flags (module_of g m))) (ltb 1 (reexport_count (module_of g m))) (ap (flag 1) (sym i) ∙ w)) past ∙ here)

          pub bails-own : flag 2 z ≡ false → true ≡ bails_out g v m row
          bails-own p = rw p at last

          pub bails-several : (n : ℕ) → n ≡ reexport_count (module_of g m) → flag 2 z ≡ true → ltb 1 n ≡ bails_out g v m row
          bails-several n q p = ap (ltb 1) q ∙ (rw p at last)

-- record k of the statement is record e of the module
module _ (g : Graph) (v : List ℕ) (m i k e : ℕ) (is : e ≡ only (get_or (statement_import_records (statement_of g m i)) k [])) where
  picked : when (bails_out g v m (get_or (import_records (module_of g m)) e [])) (bailout_fact (import_record_target (get_or (import_records (module_of g m)) e []) - 1)) ≡ import_record_candidate g v m i k
  unfolding import_record_candidate import_record_of
  picked = ap (λ j. when (bails_out g v m (get_or (import_records (module_of g m)) j [])) (bailout_fact (import_record_target (get_or (import_records (module_of g m)) j []) - 1))) is

  module _ (t : ℕ) (f : t ≡ import_record_target (get_or (import_records (module_of g m)) e [])) where
    pub record-unresolved : t ≡ 0 → Nothing ≡ import_record_candidate g v m i k
    unfolding bails_out when
    record-unresolved z = rw (eq-eqb (import_record_target (get_or (import_records (module_of g m)) e [])) 0 (sym f ∙ z), bails_out, when) at picked

    pub record-bails : bails_out g v m (get_or (import_records (module_of g m)) e []) ≡ true → Gives (bailout_fact (t - 1)) ≡ import_record_candidate g v m i k
    unfolding when
    record-bails a = ap (λ x. Gives (bailout_fact (x - 1))) f ∙ (rw (a, when) at picked)

    pub record-stays : bails_out g v m (get_or (import_records (module_of g m)) e []) ≡ false → Nothing ≡ import_record_candidate g v m i k
    unfolding when
    record-stays a = rw (a, when) at picked
