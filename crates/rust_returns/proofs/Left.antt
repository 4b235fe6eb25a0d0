-- How many modules and statements of a list of facts a context has not included: each that is included makes it less.
use Prim.Native.Nat.{ℕ, ◌+◌, ◌<◌, ◌≤◌}
use mathlib.Core.Path.{◌≡◌, refl, subst, sym}
use mathlib.Core.Logic.{inl, inr}
use mathlib.Core.Bool.{Bool, true, false, false≢true}
use mathlib.Core.List.{List, [], ◌∷◌}
use native.Mathlib.Omega.{arith}
use Rattle.determine_side_effects.specs.facts_crate.declared.Fact.{Fact}
use Rattle.determine_side_effects.specs.facts_crate.declared.Fact.TheVariants.{Module, Statement, Use, CheckedUse, Forward, Bailout}
use Rattle.determine_side_effects.specs.facts_crate.Facts.{module_fact}
use Rattle.keep_record.specs.Lines.{elem}
use Rattle.rust_values.specs.Values.{pair, has_pair, In}
use Rattle.rust_values.proofs.Members.{elem_in, in_elem}
use Rattle.rust_engine.specs.Context.{Context}
use Rattle.rust_engine.proofs.Theorem.{HasRows}
use Rattle.rust_engine.proofs.HandlingStatements.{pair_in, in_pair}

unfoldable pub is_set : Context → Fact → Bool
is_set c (Module m) = elem m.0 c.modules
is_set c (Statement m i) = has_pair m.0 i.0 c.statements
is_set c (Use s x) = true
is_set c (CheckedUse s x) = true
is_set c (Forward s) = true
is_set c (Bailout m) = true

unfoldable pub one : Bool → ℕ
one true = 0
one false = 1

unfoldable pub left : List Fact → Context → ℕ
left [] c = 0
left (f ∷ fs) c = one (is_set c f) + left fs c

-- nothing that was included is lost
pub set-rows : (c d : Context) → HasRows c d → (f : Fact) → is_set c f ≡ true → is_set d f ≡ true
unfolding is_set
set-rows c d h (Module m) e = in_elem m.0 d.modules (h.has_modules m.0 (elem_in m.0 c.modules e))
set-rows c d h (Statement m i) e = in_pair m.0 i.0 d.statements (h.has_statements (pair m.0 i.0) (pair_in m.0 i.0 c.statements e))
set-rows c d h (Use s x) e = refl
set-rows c d h (CheckedUse s x) e = refl
set-rows c d h (Forward s) e = refl
set-rows c d h (Bailout m) e = refl

one_le : (a b : Bool) → (a ≡ true → b ≡ true) → one b ≤ one a
unfolding one
one_le true true h = omega arith
one_le true false h = absurd (false≢true (h refl))
one_le false true h = omega arith
one_le false false h = omega arith

one_lt : (a b : Bool) → a ≡ false → b ≡ true → one b < one a
unfolding one
one_lt true b e f = absurd (false≢true (sym e))
one_lt false true e f = omega arith
one_lt false false e f = absurd (false≢true f)

pub left_le : (L : List Fact) (c d : Context) → HasRows c d → left L d ≤ left L c
unfolding left
left_le [] c d h = omega arith
left_le (f ∷ fs) c d h = omega (arith, one_le (is_set c f) (is_set d f) (set-rows c d h f), left_le fs c d h)

pub left_lt : (L : List Fact) (c d : Context) → HasRows c d → (f : Fact) → In f L → is_set c f ≡ false → is_set d f ≡ true → left L d < left L c
unfolding left
left_lt [] c d h f q a b = absurd q
left_lt (x ∷ xs) c d h f (inl e) a b =
    omega (arith, one_lt (is_set c x) (is_set d x) (subst (λ y. is_set c y ≡ false) e a) (subst (λ y. is_set d y ≡ true) e b), left_le xs c d h)
left_lt (x ∷ xs) c d h f (inr q) a b = omega (arith, one_le (is_set c x) (is_set d x) (set-rows c d h x), left_lt xs c d h f q a b)

-- the same for modules only
unfoldable pub is_in : Context → Fact → Bool
is_in c (Module m) = elem m.0 c.modules
is_in c (Statement m i) = true
is_in c (Use s x) = true
is_in c (CheckedUse s x) = true
is_in c (Forward s) = true
is_in c (Bailout m) = true

unfoldable pub modules_left : List Fact → Context → ℕ
modules_left [] c = 0
modules_left (f ∷ fs) c = one (is_in c f) + modules_left fs c

module _ (c d : Context) (stays : (m : ℕ) → In m c.modules → In m d.modules) where
  still_in : (f : Fact) → is_in c f ≡ true → is_in d f ≡ true
  unfolding is_in
  still_in (Module m) e = in_elem m.0 d.modules (stays m.0 (elem_in m.0 c.modules e))
  still_in (Statement m i) e = refl
  still_in (Use s x) e = refl
  still_in (CheckedUse s x) e = refl
  still_in (Forward s) e = refl
  still_in (Bailout m) e = refl

  modules_le : (L : List Fact) → modules_left L d ≤ modules_left L c
  unfolding modules_left
  modules_le [] = omega arith
  modules_le (f ∷ fs) = omega (arith, one_le (is_in c f) (is_in d f) (still_in f), modules_le fs)

  lt_by : (L : List Fact) (f : Fact) → In f L → is_in c f ≡ false → is_in d f ≡ true → modules_left L d < modules_left L c
  unfolding modules_left
  lt_by [] f q a b = absurd q
  lt_by (x ∷ xs) f (inl e) a b = omega (arith, one_lt (is_in c x) (is_in d x) (subst (λ y. is_in c y ≡ false) e a) (subst (λ y. is_in d y ≡ true) e b), modules_le xs)
  lt_by (x ∷ xs) f (inr q) a b = omega (arith, one_le (is_in c x) (is_in d x) (still_in x), lt_by xs f q a b)

  pub modules_lt : (L : List Fact) (m : ℕ) → In (module_fact m) L → In m d.modules → (In m c.modules → ⊥) → modules_left L d < modules_left L c
  unfolding is_in
  modules_lt L m q now new = lt_by L (module_fact m) q (go (elem m c.modules) refl) (in_elem m d.modules now)
    where
      go : (b : Bool) → elem m c.modules ≡ b → elem m c.modules ≡ false
      go true e = absurd (new (elem_in m c.modules e))
      go false e = e
