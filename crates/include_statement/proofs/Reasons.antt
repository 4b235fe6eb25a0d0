-- The reason of the uses that a statement's references give.
use Prim.Native.Nat.{ℕ, ◌+◌}
use mathlib.Core.Path.{◌≡◌, ap, ◌∙◌}
use mathlib.Core.Bool.{Bool, true, false}
use lib.Dec.{eqb}
use Rattle.determine_side_effects.specs.graph_crate.Check.{Graph}
use Rattle.determine_side_effects.specs.graph_access_crate.Names.{module_type, statement_bits}
use Rattle.determine_side_effects.specs.graph_access_crate.Words.{flag, module_of, statement_of}
use Rattle.keep_rules.specs.Rules.{reason_of}

module _ (g : Graph) (m i bits type : ℕ) (e : bits ≡ statement_bits (statement_of g m i)) (f : type ≡ module_type (module_of g m)) where
  reason : Bool → Bool → ℕ
  reason all json = elim all [ true ↦ 4 | false ↦ 1 ] + elim json [ true ↦ 8 | false ↦ 0 ]

  same : reason (flag 3 bits) (eqb type 2) ≡ reason_of g m i
  unfolding reason reason_of
  same = ap (λ b. reason (flag 3 b) (eqb type 2)) e ∙ ap (λ t. reason (flag 3 (statement_bits (statement_of g m i))) (eqb t 2)) f

  pub reason_12 : flag 3 bits ≡ true → eqb type 2 ≡ true → 12 ≡ reason_of g m i
  unfolding reason
  reason_12 a b = rw (a, b, reason) at same

  pub reason_4 : flag 3 bits ≡ true → eqb type 2 ≡ false → 4 ≡ reason_of g m i
  unfolding reason
  reason_4 a b = rw (a, b, reason) at same

  pub reason_9 : flag 3 bits ≡ false → eqb type 2 ≡ true → 9 ≡ reason_of g m i
  unfolding reason
  reason_9 a b = rw (a, b, reason) at same

  pub reason_1 : flag 3 bits ≡ false → eqb type 2 ≡ false → 1 ≡ reason_of g m i
  unfolding reason
  reason_1 a b = rw (a, b, reason) at same
