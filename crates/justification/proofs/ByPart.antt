-- Whether two facts are the same, part by part.
use Prim.Native.Nat.{ℕ}
use mathlib.Core.Path.{◌≡◌, sym}
use mathlib.Core.Bool.{false}
use borrow.Author.Tests.{eq-eqb, ne_eqb}
use lib.Dec.{eqb}
use Rattle.determine_side_effects.specs.facts_crate.declared.Fact.{Fact}
use Rattle.determine_side_effects.specs.facts_crate.Facts.{kind_of, first_part, second_part}
use Rattle.justification.specs.Justify.{same_fact}

module _ (a b : Fact) (k l : ℕ) (ka : k ≡ kind_of a) (lb : l ≡ kind_of b) where
  pub kinds_differ : (k ≡ l → ⊥) → false ≡ same_fact a b
  unfolding same_fact
  kinds_differ n = rw (sym ka, sym lb, ne_eqb k l n)

module _ (a b : Fact) (k l x y : ℕ) (ka : k ≡ kind_of a) (lb : l ≡ kind_of b) (e : k ≡ l) (xa : x ≡ first_part a) (yb : y ≡ first_part b) where
  pub firsts_differ : (x ≡ y → ⊥) → false ≡ same_fact a b
  unfolding same_fact
  firsts_differ n = rw (sym ka, sym lb, eq-eqb k l e, sym xa, sym yb, ne_eqb x y n)

module _ (a b : Fact) (k l x y u v : ℕ) (ka : k ≡ kind_of a) (lb : l ≡ kind_of b) (e : k ≡ l) (xa : x ≡ first_part a) (yb : y ≡ first_part b) (d : x ≡ y) (ua : u ≡ second_part a) (vb : v ≡ second_part b) where
  pub seconds : eqb u v ≡ same_fact a b
  unfolding same_fact
  seconds = rw (sym ka, sym lb, eq-eqb k l e, sym xa, sym yb, eq-eqb x y d, sym ua, sym vb)
