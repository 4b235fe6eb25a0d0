-- What a line in form and the lines before it have.
use Prim.Native.Nat.{ℕ, ◌+◌, ◌*◌, ◌-◌, ◌<◌, ◌≤◌}
use mathlib.Core.Path.{◌≡◌, refl, ◌∙◌, sym}
use mathlib.Core.Bool.{Bool, true, false, false≢true}
use mathlib.Core.List.{List}
use native.Mathlib.Omega.{arith}
use borrow.Author.Tests.{ltb-true, leb-true}
use lib.Dec.{ltb, leb}
use lib.ListN.{length, get_or}
use Rattle.determine_side_effects.specs.graph_crate.Check.{Graph}
use Rattle.determine_side_effects.specs.facts_crate.declared.Fact.{Fact}
use Rattle.determine_side_effects.specs.facts_crate.Facts.{Good}
use Rattle.determine_side_effects.specs.Effects.{last_verdicts}
use Rattle.determine_side_effects.proofs.Lists.{both}
use Rattle.keep_record.specs.Held.{line_at}
use Rattle.record_form.specs.Form.{is_earlier, names_fit, in_form}
use Rattle.record_form.proofs.Forms.{first-late, two-names, form_good, form_names}
use Rattle.line_judgement.specs.Stand.{stands}
use Rattle.line_judgement.specs.Steps.{AllStand}

pub form_is : (g : Graph) (row : List ℕ) (k : ℕ) (b : Bool) → b ≡ in_form g row k → b ≡ true → in_form g row k ≡ true
form_is g row k b e n = sym e ∙ n

-- facts are good
pub line_good : (g : Graph) (row : List ℕ) (k : ℕ) → in_form g row k ≡ true → (f : Fact) → f ≡ (line_at row k).fact → Good g f
unfolding line_at
line_good g row k e f q = rw q (form_good g row k e)

stands_form : (g : Graph) (v : List ℕ) (starts : List Fact) (row : List ℕ) (k : ℕ) → stands g v starts row k ≡ true → in_form g row k ≡ true
unfolding stands
stands_form g v starts row k e = (both (in_form g row k) _ e).0

pub named_good : (g : Graph) (starts : List Fact) (row : List ℕ) (k n : ℕ) → AllStand g starts row k → (0 < n) × (n ≤ k) → (f : Fact) → f ≡ (line_at row (n - 1)).fact → Good g f
named_good g starts row k n all h f q =
    line_good g row (n - 1) (stands_form g (last_verdicts g) starts row (n - 1) (all (n - 1) (omega (arith, h.0, h.1)))) f q

-- names are of earlier lines
earlier : (k n : ℕ) → is_earlier k n ≡ true → (0 < n) × (n ≤ k)
unfolding is_earlier
earlier k n e = let b = both (ltb 0 n) (leb n k) e in (ltb-true 0 n b.0, leb-true n k b.1)

module _ (k rule a b : ℕ) (e : names_fit k rule a b ≡ true) (n : rule ≡ 0 → ⊥) where
  first_is : is_earlier k a ≡ true
  first_is = go (is_earlier k a) refl
    where
      go : (t : Bool) → is_earlier k a ≡ t → is_earlier k a ≡ true
      go true t = t
      go false t = absurd (false≢true (first-late k rule a b n t ∙ e))

  second_is : rule ≡ 1 → is_earlier k b ≡ true
  second_is o = two-names k rule a b n first_is o (is_earlier k b) refl ∙ e

module _ (g : Graph) (row : List ℕ) (k : ℕ) (e : in_form g row k ≡ true) (rule because : ℕ) (r : rule ≡ get_or row (6 * k + 3) 0) (a : because ≡ get_or row (6 * k + 4) 0) (n : rule ≡ 0 → ⊥) where
  fit : names_fit k rule because (get_or row (6 * k + 5) 0) ≡ true
  fit = rw (r, a) (form_names g row k e)

  pub because_earlier : (0 < because) × (because ≤ k)
  because_earlier = earlier k because (first_is k rule because (get_or row (6 * k + 5) 0) fit n)

  pub and_earlier : (and : ℕ) → and ≡ get_or row (6 * k + 5) 0 → rule ≡ 1 → (0 < and) × (and ≤ k)
  and_earlier and b o = rw b (earlier k (get_or row (6 * k + 5) 0) (second_is k rule because (get_or row (6 * k + 5) 0) fit n o))

pub earlier_inside : (row : List ℕ) (k n : ℕ) → (0 < n) × (n ≤ k) → 6 * k + 6 ≤ length row → 6 * (n - 1) + 6 ≤ length row
earlier_inside row k n h l = omega (arith, h.0, h.1, l)
