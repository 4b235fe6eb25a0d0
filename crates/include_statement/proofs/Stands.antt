-- A reference by the numbers where it stands.
use Prim.Native.Nat.{ℕ, zero, suc, ◌+◌, ◌<◌, ◌≤◌}
use mathlib.Core.Path.{◌≡◌, refl, ◌∙◌, sym}
use mathlib.Core.List.{List, []}
use native.Mathlib.Omega.{arith}
use lib.Seq.{get_or-drop}
use lib.ListN.{length, get_or, length-drop}
use Rattle.determine_side_effects.specs.graph_tables_crate.Tables.{header_in}
use Rattle.determine_side_effects.specs.graph_crate.Check.{graph_in}
use Rattle.determine_side_effects.specs.graph_access_crate.Names.{references, reference_kind, reference_symbol, reference_flag, property_count, first_property, depended_on}
use Rattle.determine_side_effects.proofs.graph_access_crate.ReadReferences.{width_0, width_2, width_3, kind_inside}
use Rattle.determine_side_effects.proofs.graph_access_crate.StatementRanges.{ReferenceGood}
use Rattle.determine_side_effects.specs.graph_access_crate.Words.{statement_of}
use Rattle.determine_side_effects.specs.graph_crate.Loaded.{Loaded}
use Rattle.determine_side_effects.proofs.graph_access_crate.Indexes.{reference_good_here}
use Rattle.include_statement.specs.Here.{Here}

module _ {numbers : List ℕ} {m i r place : ℕ} (h : Here numbers m i r place) where
  abbrev row : List ℕ
  row = get_or (references (statement_of (graph_in numbers) m i)) r []

  pub kind_here : place < length numbers
  kind_here = kind_inside numbers place h.stands.inside

  pub kind_is : get_or numbers place 0 ≡ reference_kind row
  unfolding reference_kind
  kind_is = sym h.stands.kind

  -- kind 3
  module _ (e : get_or numbers place 0 ≡ 3) where
    pub five_here : place + 4 < length numbers
    five_here = omega (arith, width_3 numbers place e, h.stands.inside)

    each : (c : ℕ) → c < 5 → get_or row c 0 ≡ get_or numbers (place + c) 0
    each c l = h.stands.member (h.stands.kind ∙ e) c l

    pub object-is : get_or numbers (place + 1) 0 ≡ reference_symbol row
    unfolding reference_symbol
    object-is = sym (each 1 (omega arith))

    pub write-is : get_or numbers (place + 2) 0 ≡ reference_flag row
    unfolding reference_flag
    write-is = sym (each 2 (omega arith))

    pub count_is : get_or numbers (place + 3) 0 ≡ property_count row
    unfolding property_count
    count_is = sym (each 3 (omega arith))

    pub first_is : get_or numbers (place + 4) 0 ≡ first_property row
    unfolding first_property
    first_is = sym (each 4 (omega arith))

  -- kind 2
  module _ (e : get_or numbers place 0 ≡ 2) where
    pub parts_here : place + 4 + get_or numbers (place + 3) 0 ≤ length numbers
    parts_here = omega (arith, width_2 numbers place e, h.stands.inside)

    pub depended_is : get_or numbers (place + 3) 0 ≡ length (depended_on row)
    unfolding depended_on
    depended_is = omega (arith, length-drop 3 row, h.stands.depended (h.stands.kind ∙ e))

    pub depends-is : (k : ℕ) → k < get_or numbers (place + 3) 0 → get_or numbers (place + 4 + k) 0 ≡ get_or (depended_on row) k 0
    unfolding depended_on
    depends-is k l = sym (get_or-drop 3 row k 0 ∙ h.stands.depends (h.stands.kind ∙ e) k l)

    pub resolved-is : get_or numbers (place + 1) 0 ≡ reference_symbol row
    unfolding reference_symbol
    resolved-is = sym (h.stands.resolved (h.stands.kind ∙ e) 1 (omega arith))

    pub target_is : get_or numbers (place + 2) 0 ≡ reference_flag row
    unfolding reference_flag
    target_is = sym (h.stands.resolved (h.stands.kind ∙ e) 2 (omega arith))

  plain : (k : ℕ) → get_or numbers place 0 ≡ k → (k ≡ 1 → ⊥) → (k ≡ 2 → ⊥) → k < 4 → (place + 1 < length numbers) × (get_or numbers (place + 1) 0 ≡ reference_symbol row)
  unfolding reference_symbol
  plain zero e a b l = (omega (arith, width_0 numbers place e, h.stands.inside), sym (h.stands.symbol (h.stands.kind ∙ e)))
  plain (suc zero) e a b l = absurd (a refl)
  plain (suc (suc zero)) e a b l = absurd (b refl)
  plain (suc (suc (suc zero))) e a b l = (omega (arith, five_here e), object-is e)
  plain (suc (suc (suc (suc k)))) e a b l = absurd (omega (arith, l))

  -- kinds 0 and 3
  module _ (a : get_or numbers place 0 ≡ 1 → ⊥) (b : get_or numbers place 0 ≡ 2 → ⊥) where
    pub symbol-here : place + 1 < length numbers
    symbol-here = (plain (get_or numbers place 0) refl a b (omega (arith, h.stands.few, h.stands.kind))).0

    pub symbol_is : get_or numbers (place + 1) 0 ≡ reference_symbol row
    symbol_is = (plain (get_or numbers place 0) refl a b (omega (arith, h.stands.few, h.stands.kind))).1

  module _ {tables : List ℕ} (t : Loaded numbers tables) where
    good : ReferenceGood (header_in numbers).symbols row
    unfolding graph_in
    good = reference_good_here t m i r h.module_inside h.statement_inside h.reference_inside

    below : (k : ℕ) → reference_kind row ≡ k → (k ≡ 1 → ⊥) → k < 4 → reference_symbol row < (header_in numbers).symbols
    unfolding reference_kind reference_symbol
    below zero e a l = good.symbol e
    below (suc zero) e a l = absurd (a refl)
    below (suc (suc zero)) e a l = (good.resolved e).0
    below (suc (suc (suc zero))) e a l = (good.member e).0
    below (suc (suc (suc (suc k)))) e a l = absurd (omega (arith, l))

    pub symbol_below : (get_or numbers place 0 ≡ 1 → ⊥) → reference_symbol row < (header_in numbers).symbols
    unfolding reference_kind
    symbol_below a = below (reference_kind row) refl (λ z. a (kind_is ∙ z)) h.stands.few

    pub depends-below : get_or numbers place 0 ≡ 2 → (k : ℕ) → k < get_or numbers (place + 3) 0 → get_or (depended_on row) k 0 < (header_in numbers).symbols
    unfolding depended_on
    depends-below e k l = omega (arith, get_or-drop 3 row k 0, good.depends (h.stands.kind ∙ e) k (omega (arith, l, h.stands.depended (h.stands.kind ∙ e))))
