-- Starts that are written as triples are those starts again, and they are not refused.
use Prim.Native.Nat.{ℕ, zero, suc, ◌+◌, ◌*◌, ◌/◌, ◌%◌, ◌<◌}
use mathlib.Core.Path.{◌≡◌, refl, ap, ◌∙◌, sym}
use mathlib.Core.Bool.{true}
use mathlib.Core.List.{List, [], ◌∷◌}
use native.Mathlib.Omega.{arith}
use lib.ListN.{length, get_or}
use lib.Seq.{ext_get_or}
use Rattle.determine_side_effects.specs.graph_crate.Check.{Graph}
use Rattle.determine_side_effects.specs.graph_access_crate.Words.{tabulate, normal}
use Rattle.determine_side_effects.specs.facts_crate.declared.Fact.{Fact}
use Rattle.determine_side_effects.specs.facts_crate.declared.Fact.TheVariants.{Module, Statement, Use, CheckedUse, Forward, Bailout}
use Rattle.determine_side_effects.specs.facts_crate.Facts.{kind_of, first_part, second_part, fact_of, module_fact, Good}
use Rattle.determine_side_effects.proofs.facts_crate.Marks.{fact_back}
use Rattle.keep_record.proofs.Rows.{tabulate-length, tabulate-at}
use Rattle.starts.specs.Starts.{start_fault, starts_fault, starts_walk, starts_of}
use Rattle.starts.proofs.Starting.{kept_in, unused_none, module_kept, statement_in, use-in, bailout_in, fault_at, starts_turn, starts_end, good_checked}
use Rattle.own_starts.specs.Once.{triples}
use Rattle.closed_choices.proofs.Every.{Every, every_at}
use Rattle.std.specs.Prelude.{Ok}

-- how many numbers, and number j of triple k
three_each : (n m : ℕ) → m ≡ 3 * n → (m % 3 ≡ 0) × (m / 3 ≡ n)
three_each n m e = (omega (arith, e), omega (arith, e))

pub triples-length : (fs : List Fact) → length (triples fs) ≡ 3 * length fs
unfolding triples
triples-length [] = refl
triples-length (f ∷ fs) = omega (arith, triples-length fs)

triples_many : (fs : List Fact) → length (triples fs) / 3 ≡ length fs
triples_many fs = (three_each (length fs) (length (triples fs)) (triples-length fs)).1

abbrev parts_of : Fact → List ℕ
parts_of f = kind_of f ∷ first_part f ∷ second_part f ∷ []

part_at : (fs : List Fact) (k j : ℕ) → k < length fs → j < 3 → get_or (triples fs) (3 * k + j) 0 ≡ get_or (parts_of (get_or fs k (module_fact 0))) j 0
unfolding triples
part_at [] k j h l = absurd (omega arith)
part_at (f ∷ fs) zero zero h l = refl
part_at (f ∷ fs) zero (suc zero) h l = refl
part_at (f ∷ fs) zero (suc (suc zero)) h l = refl
part_at (f ∷ fs) zero (suc (suc (suc j))) h l = absurd (omega arith)
part_at (f ∷ fs) (suc k) j h l =
    let z : 3 * suc k + j ≡ suc (suc (suc (3 * k + j))) = omega arith in
    ap (λ i. get_or (triples (f ∷ fs)) i 0) z ∙ part_at fs k j (omega arith) l

-- the facts of the triples
first_part_lem : (fs : List Fact) (k : ℕ) → k < length fs → get_or (triples fs) (3 * k) 0 ≡ kind_of (get_or fs k (module_fact 0))
first_part_lem fs k h = let z : 3 * k ≡ 3 * k + 0 = omega arith in ap (λ i. get_or (triples fs) i 0) z ∙ part_at fs k 0 h (omega arith)

pub triples_back : (fs : List Fact) → starts_of (triples fs) ≡ fs
unfolding starts_of
triples_back fs =
    let of : ℕ → Fact = λ i. fact_of (get_or (triples fs) (3 * i) 0) (get_or (triples fs) (3 * i + 1) 0) (get_or (triples fs) (3 * i + 2) 0) in
    let many : length (tabulate of 0 (length (triples fs) / 3)) ≡ length fs = tabulate-length of 0 (length (triples fs) / 3) ∙ triples_many fs in
    ext_get_or (module_fact 0) (tabulate of 0 (length (triples fs) / 3)) fs many
    (λ i h.
    let u : i < length fs = omega (arith, h, many) in
    let z : 0 + i ≡ i = omega arith in
    let back : of i ≡ get_or fs i (module_fact 0) = rw (first_part_lem fs i u, part_at fs i 1 u (omega arith), part_at fs i 2 u (omega arith)) (sym (fact_back (get_or fs i (module_fact 0)))) in
    tabulate-at of 0 (length (triples fs) / 3) i (module_fact 0) (omega (arith, u, triples_many fs)) ∙ ap of z ∙ back)

-- A fact that a run may start: not a forward, and a statement of a normal module.
abbrev pub Startable : Graph → Fact → Type 0
Startable g (Module m) = Unit {0}
Startable g (Statement m i) = normal g m.0 ≡ true
Startable g (Use s x) = Unit {0}
Startable g (CheckedUse s x) = Unit {0}
Startable g (Forward s) = ⊥
Startable g (Bailout m) = Unit {0}

module _ (g : Graph) where
  faultless : (f : Fact) → Good g f → Startable g f → 0 ≡ start_fault g (kind_of f) (first_part f) (second_part f)
  faultless (Module m) h s = unused_none 0 refl ∙ module_kept g m.0 0 (sym (kept_in g m.0 true h.0 (sym h.1)))
  faultless (Statement m i) h s = statement_in g m.0 i.0 (sym (kept_in g m.0 true h.0 (sym s))) h.1
  faultless (Use s x) h u = (use-in g s.0 x.bits h.0 (λ z. omega (arith, z, h.1)) h.2).0
  faultless (CheckedUse s x) h u = (use-in g s.0 x.bits h.0 (λ z. omega (arith, z, h.1)) h.2).1
  faultless (Forward s) h u = absurd u
  faultless (Bailout m) h s = unused_none 0 refl ∙ bailout_in g m.0 0 h

  none_faulty : (starts : List ℕ) (n i : ℕ) → ((j : ℕ) → j < n → fault_at g starts (i + j) ≡ 0) → starts_fault g starts i n ≡ 0
  none_faulty starts zero i h = starts_end g starts i
  none_faulty starts (suc n) i h =
      let z : i ≡ i + 0 = omega arith in
      starts_turn g starts i n (ap (fault_at g starts) z ∙ h 0 (omega arith))
      ∙ none_faulty starts n (i + 1) (λ j l. let w : i + 1 + j ≡ i + suc j = omega arith in ap (fault_at g starts) w ∙ h (suc j) (omega (arith, l)))

  triples_faultless : (fs : List Fact) → Every (Good g) fs → Every (Startable g) fs → (j : ℕ) → j < length fs → fault_at g (triples fs) j ≡ 0
  unfolding fault_at
  triples_faultless fs a b j l =
      rw (first_part_lem fs j l, part_at fs j 1 l (omega arith), part_at fs j 2 l (omega arith))
      (sym (faultless (get_or fs j (module_fact 0)) (every_at (Good g) fs (module_fact 0) a j l) (every_at (Startable g) fs (module_fact 0) b j l)))

  -- the check of the starts finds nothing
  pub triples_pass : (fs : List Fact) → Every (Good g) fs → Every (Startable g) fs → starts_walk g (triples fs) ≡ Ok 0
  triples_pass fs a b =
      sym (good_checked g (triples fs) (three_each (length fs) (length (triples fs)) (triples-length fs)).0
      (none_faulty (triples fs) (length (triples fs) / 3) 0
      (λ j l. let z : 0 + j ≡ j = omega arith in ap (fault_at g (triples fs)) z ∙ triples_faultless fs a b j (omega (arith, l, triples_many fs))))).0
