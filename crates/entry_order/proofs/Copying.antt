-- The entries of one kind are copied in the list's order.
use Prim.Native.Nat.{ℕ, ◌+◌, ◌<◌, ◌≤◌}
use mathlib.Core.Path.{◌≡◌, refl, ap, ◌∙◌, sym}
use mathlib.Core.Bool.{Bool, true, false, not, beq}
use mathlib.Core.List.{List, [], ◌∷◌, ◌++◌}
use native.Mathlib.Omega.{arith}
use lib.Dec.{eqb}
use lib.ListN.{length, get_or, take, drop, set}
use Rattle.facts.specs.graph_crate.Check.{Graph}
use Rattle.facts.specs.graph_access_crate.Names.{entry_kind}
use Rattle.facts.specs.graph_access_crate.Words.{entry_of}
use Rattle.entry_order.specs.Order.{those, is_dynamic, is_user_defined}
use Rattle.entry_order.specs.Kinds.{of_kind}
use Rattle.entry_order.proofs.Those.{those_here, those_not}
use Rattle.entry_order.proofs.Places.{first_next, first_none}
use Rattle.entry_order.proofs.Filling.{Filling, fill_start, fill-same, fill-room, fill_step, fill_end, fill_done}

-- the state: place i of the list is next, and word `to` of the plan
pub record Copying (g : Graph) (dynamic : Bool) (list : List ℕ) (count at : ℕ) (plan₀ : List ℕ) (i to : ℕ) (plan : List ℕ) : Type 0 where
  pub within : i ≤ count
  pub fill : Filling at (those (of_kind g dynamic) (take count list)) plan₀ to (those (of_kind g dynamic) (drop i (take count list))) plan

module _ (g : Graph) (dynamic : Bool) (list : List ℕ) (count : ℕ) (long : count ≤ length list) (at : ℕ) (plan₀ : List ℕ) where
  abbrev whole : List ℕ
  whole = those (of_kind g dynamic) (take count list)

  abbrev left : ℕ → List ℕ
  left i = those (of_kind g dynamic) (drop i (take count list))

  pub copy_start : at + length (those (of_kind g dynamic) (take count list)) ≤ length plan₀ → Copying g dynamic list count at plan₀ 0 at plan₀
  copy_start r = record { within = omega arith; fill = fill_start at whole plan₀ r }

  module _ (i to : ℕ) (plan : List ℕ) (s : Copying g dynamic list count at plan₀ i to plan) where
    pub copy_done : count ≤ i → (to ≡ at + length (those (of_kind g dynamic) (take count list))) × (plan ≡ take at plan₀ ++ (those (of_kind g dynamic) (take count list) ++ drop to plan₀))
    unfolding those
    copy_done h =
        let none : left i ≡ [] = ap (λ l. those (of_kind g dynamic) l) (first_none list count long i h) in
        (fill_end at whole plan₀ to (left i) plan s.fill none, fill_done at whole plan₀ to (left i) plan s.fill none)

    module _ (h : i < count) (x : ℕ) (is : x ≡ get_or list i 0) where
      first : left i ≡ those (of_kind g dynamic) (x ∷ drop (i + 1) (take count list))
      first = ap (λ l. those (of_kind g dynamic) l) (first_next list count long i h ∙ ap (λ (y : ℕ). y ∷ drop (i + 1) (take count list)) (sym is))

      pub copy-other : of_kind g dynamic x ≡ false → Copying g dynamic list count at plan₀ (i + 1) to plan
      copy-other e =
          record {
            within = omega arith;
            fill = fill-same at whole plan₀ to (left i) plan s.fill (left (i + 1)) (first ∙ those_not (of_kind g dynamic) x (drop (i + 1) (take count list)) e);
          }

      module _ (e : of_kind g dynamic x ≡ true) where
        next : left i ≡ x ∷ left (i + 1)
        next = first ∙ those_here (of_kind g dynamic) x (drop (i + 1) (take count list)) e

        pub copy-room : to < length plan
        copy-room = fill-room at whole plan₀ to (left i) plan s.fill x (left (i + 1)) next

        pub copy-this : Copying g dynamic list count at plan₀ (i + 1) (to + 1) (set plan to x)
        copy-this = record { within = omega arith; fill = fill_step at whole plan₀ to (left i) plan s.fill x (left (i + 1)) next }

-- the code's test of the kind
pub kind_told : (g : Graph) (dynamic : Bool) (x kind : ℕ) (b : Bool) → kind ≡ entry_kind (entry_of g x) → beq (eqb kind 2) dynamic ≡ b → of_kind g dynamic x ≡ b
unfolding is_dynamic is_user_defined
kind_told g true x kind b e t = ap (λ (k : ℕ). eqb k 2) (sym e) ∙ sym (same (eqb kind 2)) ∙ t
  where
    same : (a : Bool) → beq a true ≡ a
    same true = refl
    same false = refl
kind_told g false x kind b e t = ap (λ (k : ℕ). not (eqb k 2)) (sym e) ∙ sym (other (eqb kind 2)) ∙ t
  where
    other : (a : Bool) → beq a false ≡ not a
    other true = refl
    other false = refl
