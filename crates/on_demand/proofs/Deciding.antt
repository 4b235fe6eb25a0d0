-- What the tests of a module and of a statement decide.
use Prim.Native.Nat.{ℕ, ◌-◌, ◌<◌, ◌≤◌}
use mathlib.Core.Path.{◌≡◌, refl, ap, ◌∙◌, sym}
use mathlib.Core.Logic.{◌≢◌}
use mathlib.Core.Bool.{Bool, true, false, not}
use mathlib.Core.List.{List}
use native.Mathlib.Omega.{arith}
use borrow.Author.Tests.{eq-eqb, ne_eqb, lt-ltb, le-ltb}
use lib.Dec.{eqb}
use lib.ListN.{length, get_or}
use Rattle.determine_side_effects.specs.graph_crate.Check.{Graph}
use Rattle.determine_side_effects.specs.graph_access_crate.Names.{exports, flags, statement_bits, statement_import_records, references}
use Rattle.determine_side_effects.specs.graph_access_crate.Words.{flag, module_of, statement_of, normal}
use Rattle.on_demand.specs.Demand.{user_entry, on_demand, gated, has_gated, has_body}
use Rattle.on_demand.specs.Tabled.{one}

-- a module, by its verdict, its exports, its flag and its entry
module _ (g : Graph) (v : List ℕ) (m x : ℕ) (is : x ≡ get_or v m 0) where
  pub other_verdict : x ≢ 2 → 0 ≡ one (on_demand g v m)
  unfolding on_demand one
  other_verdict n = let e = ne_eqb x 2 n in rw (sym is, e, on_demand)

  module _ (two : x ≡ 2) (y : ℕ) (of : y ≡ exports (module_of g m)) where
    pub other-exports : y ≢ 0 → 0 ≡ one (on_demand g v m)
    unfolding on_demand one
    other-exports n = let d = eq-eqb x 2 two in let e = ne_eqb y 0 n in rw (sym is, d, sym of, e, on_demand)

    module _ (esm : y ≡ 0) (f : Bool) (by : f ≡ flag 0 (flags (module_of g m))) where
      pub has-eval : f ≡ true → 0 ≡ one (on_demand g v m)
      unfolding on_demand one
      has-eval t = let d = eq-eqb x 2 two in let e = eq-eqb y 0 esm in rw (sym is, d, sym of, e, sym by, t, on_demand)

      without-entry : (u : Bool) → 1 - one u ≡ one (not u)
      unfolding one
      without-entry true = refl
      without-entry false = refl

      pub last-test : (entry : ℕ) → f ≡ false → entry ≡ one (user_entry g m) → 1 - entry ≡ one (on_demand g v m)
      unfolding on_demand
      last-test entry t n =
          let d = eq-eqb x 2 two in
          let e = eq-eqb y 0 esm in
          ap (λ z. 1 - z) n ∙ without-entry (user_entry g m) ∙ rw (sym is, d, sym of, e, sym by, t, on_demand)

pub at_most_one : (b : Bool) → one b ≤ 1
unfolding one
at_most_one true = omega arith
at_most_one false = omega arith

pub one_is : (b : Bool) → eqb (one b) 1 ≡ b
unfolding one
one_is true = refl
one_is false = refl

-- a statement
module _ (g : Graph) (m i : ℕ) where
  pub gated_first : i ≡ 0 → false ≡ gated g m i
  unfolding gated
  gated_first z = let a = eq-eqb i 0 z in rw (a, gated)

  module _ (n : i ≢ 0) (f : Bool) (is : f ≡ flag 0 (statement_bits (statement_of g m i))) where
    pub gated-pure : f ≡ false → false ≡ gated g m i
    unfolding gated
    gated-pure e = let a = ne_eqb i 0 n in rw (a, sym is, e, gated)

    module _ (t : f ≡ true) (r : ℕ) (of : r ≡ length (references (statement_of g m i))) where
      pub gated-alone : r ≡ 0 → false ≡ gated g m i
      unfolding gated
      gated-alone e = let a = ne_eqb i 0 n in let l : r ≤ 0 = omega (arith, e) in let b = le-ltb 0 r l in rw (a, sym is, t, sym of, b, gated)

      pub gated-records : (k : ℕ) → r ≢ 0 → k ≡ length (statement_import_records (statement_of g m i)) → eqb k 0 ≡ gated g m i
      unfolding gated
      gated-records k d e =
          let a = ne_eqb i 0 n in
          let l : 0 < r = omega (arith, d) in
          let b = lt-ltb 0 r l in
          rw (a, sym is, t, sym of, b, gated, sym e)

-- a body
module _ (g : Graph) (v : List ℕ) (m : ℕ) where
  pub body_external : normal g m ≡ false → false ≡ has_body g v m
  unfolding has_body
  body_external e = rw (e, has_body)

  pub body_not : normal g m ≡ true → on_demand g v m ≡ false → false ≡ has_body g v m
  unfolding has_body
  body_not e d = rw (e, d, has_body)

  pub body_gated : {r : Bool} → normal g m ≡ true → on_demand g v m ≡ true → r ≡ has_gated g m → r ≡ has_body g v m
  unfolding has_body
  body_gated e d h = rw (e, d, has_body) h

  body_first : (b : Bool) → normal g m ≡ b → has_body g v m ≡ true → normal g m ≡ true
  body_first true e h = e
  body_first false e h = absurd (no (body_external e ∙ h))
    where
      no : false ≡ true → ⊥
      no z = let w : ◌≡◌ {A = ℕ} 0 1 = ap (λ b. elim b [ true ↦ 1 | false ↦ 0 ]) z in omega (arith, w)

  -- a module with a body is normal
  pub body_normal : has_body g v m ≡ true → normal g m ≡ true
  body_normal h = body_first (normal g m) refl h
