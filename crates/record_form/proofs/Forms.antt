-- The form of a line, test by test.
use Prim.Native.Nat.{ℕ, ◌+◌, ◌*◌, ◌<◌, ◌≤◌}
use mathlib.Core.Path.{◌≡◌, refl, ap, ◌∙◌, sym}
use mathlib.Core.Bool.{Bool, true, false, ◌&&◌}
use mathlib.Core.List.{List}
use native.Mathlib.Omega.{arith}
use borrow.Author.Tests.{lt-ltb, le-ltb, ltb-true, eq-eqb, ne_eqb, eqb-true}
use lib.Dec.{eqb, ltb, leb}
use lib.ListN.{get_or}
use Rattle.determine_side_effects.specs.graph_crate.Check.{Graph}
use Rattle.determine_side_effects.specs.facts_crate.Facts.{fact_of, Good}
use Rattle.determine_side_effects.proofs.Lists.{both}
use Rattle.starts.specs.Starts.{start_fault}
use Rattle.starts.proofs.Starting.{start_good}
use Rattle.record_form.specs.Form.{parts_fit, is_earlier, names_fit, in_form}

-- a fact's numbers
module _ (g : Graph) (kind a b : ℕ) where
  pub forward_out : kind ≡ 5 → g.header.symbols ≤ a → false ≡ parts_fit g kind a b
  unfolding parts_fit
  forward_out k h = rw (eq-eqb kind 5 k, le-ltb a g.header.symbols h, parts_fit)

  pub forward_in : kind ≡ 5 → a < g.header.symbols → eqb b 0 ≡ parts_fit g kind a b
  unfolding parts_fit
  forward_in k h = rw (eq-eqb kind 5 k, lt-ltb a g.header.symbols h, parts_fit)

  pub other_parts : (kind ≡ 5 → ⊥) → (f : ℕ) → f ≡ start_fault g kind a b → eqb f 0 ≡ parts_fit g kind a b
  unfolding parts_fit
  other_parts k f e = rw (ne_eqb kind 5 k, parts_fit) (ap (λ x. eqb x 0) e)

-- an earlier line
pub earlier_none : (k n : ℕ) → n ≡ 0 → false ≡ is_earlier k n
unfolding is_earlier
earlier_none k n e = rw (le-ltb 0 n (omega (arith, e)))

pub earlier_some : (k n : ℕ) → (n ≡ 0 → ⊥) → leb n k ≡ is_earlier k n
unfolding is_earlier
earlier_some k n e = rw (lt-ltb 0 n (omega (arith, e)))

-- a line's names
module _ (k rule a b : ℕ) where
  pub start_named : rule ≡ 0 → (a ≡ 0 → ⊥) → false ≡ names_fit k rule a b
  unfolding names_fit
  start_named r n = rw (eq-eqb rule 0 r, ne_eqb a 0 n, names_fit)

  pub start_names : rule ≡ 0 → a ≡ 0 → eqb b 0 ≡ names_fit k rule a b
  unfolding names_fit
  start_names r z = rw (eq-eqb rule 0 r, eq-eqb a 0 z, names_fit)

  module _ (r : rule ≡ 0 → ⊥) where
    pub first-late : is_earlier k a ≡ false → false ≡ names_fit k rule a b
    unfolding names_fit
    first-late e = rw (ne_eqb rule 0 r, e, names_fit)

    pub two-names : is_earlier k a ≡ true → rule ≡ 1 → (t : Bool) → t ≡ is_earlier k b → t ≡ names_fit k rule a b
    unfolding names_fit
    two-names e o t s = rw (ne_eqb rule 0 r, e, eq-eqb rule 1 o, names_fit) s

    pub one_name : is_earlier k a ≡ true → (rule ≡ 1 → ⊥) → eqb b 0 ≡ names_fit k rule a b
    unfolding names_fit
    one_name e o = rw (ne_eqb rule 0 r, e, ne_eqb rule 1 o, names_fit)

-- a line
module _ (g : Graph) (row : List ℕ) (k kind a b : ℕ) (first : kind ≡ get_or row (6 * k) 0) (second : a ≡ get_or row (6 * k + 1) 0) (third : b ≡ get_or row (6 * k + 2) 0) where
  pub parts_out : (t : Bool) → t ≡ parts_fit g kind a b → t ≡ false → false ≡ in_form g row k
  unfolding in_form
  parts_out t e f = rw (← first, ← second, ← third, sym e ∙ f)

  module _ (t : Bool) (e : t ≡ parts_fit g kind a b) (f : t ≡ true) (rule : ℕ) (fourth : rule ≡ get_or row (6 * k + 3) 0) where
    pub rule-out : 15 ≤ rule → false ≡ in_form g row k
    unfolding in_form
    rule-out h = rw (← first, ← second, ← third, sym e ∙ f, ← fourth, le-ltb rule 15 h)

    pub names-last : (rule < 15) → (c d : ℕ) → c ≡ get_or row (6 * k + 4) 0 → d ≡ get_or row (6 * k + 5) 0 → (r : Bool) → r ≡ names_fit k rule c d → r ≡ in_form g row k
    unfolding in_form
    names-last h c d fifth sixth r is = rw (← first, ← second, ← third, sym e ∙ f, ← fourth, lt-ltb rule 15 h, ← fifth, ← sixth) is

-- what a line in form has: a good fact, a rule, and names that fit
pub parts_good : (g : Graph) (kind a b : ℕ) → parts_fit g kind a b ≡ true → Good g (fact_of kind a b)
unfolding parts_fit fact_of
parts_good g kind a b e = go (eqb kind 5) refl
  where
    go : (t : Bool) → eqb kind 5 ≡ t → Good g (fact_of kind a b)
    go true t =
        let f : (ltb a g.header.symbols && eqb b 0) ≡ true = rw (t, parts_fit) at e in
        rw (eqb-true kind 5 t) (ltb-true a g.header.symbols (both (ltb a g.header.symbols) (eqb b 0) f).0)
    go false t = let f : eqb (start_fault g kind a b) 0 ≡ true = rw (t, parts_fit) at e in start_good g a b kind (eqb-true (start_fault g kind a b) 0 f)

module _ (g : Graph) (row : List ℕ) (k : ℕ) (e : in_form g row k ≡ true) where
  pub form_good : Good g (fact_of (get_or row (6 * k) 0) (get_or row (6 * k + 1) 0) (get_or row (6 * k + 2) 0))
  unfolding in_form
  form_good = parts_good g _ _ _ (both (parts_fit g (get_or row (6 * k) 0) (get_or row (6 * k + 1) 0) (get_or row (6 * k + 2) 0)) _ e).0

  rest : (ltb (get_or row (6 * k + 3) 0) 15 && names_fit k (get_or row (6 * k + 3) 0) (get_or row (6 * k + 4) 0) (get_or row (6 * k + 5) 0)) ≡ true
  unfolding in_form
  rest = (both (parts_fit g (get_or row (6 * k) 0) (get_or row (6 * k + 1) 0) (get_or row (6 * k + 2) 0)) _ e).1

  pub form_rule : get_or row (6 * k + 3) 0 < 15
  form_rule = ltb-true (get_or row (6 * k + 3) 0) 15 (both (ltb (get_or row (6 * k + 3) 0) 15) _ rest).0

  pub form_names : names_fit k (get_or row (6 * k + 3) 0) (get_or row (6 * k + 4) 0) (get_or row (6 * k + 5) 0) ≡ true
  form_names = (both (ltb (get_or row (6 * k + 3) 0) 15) _ rest).1
