-- Members of enums, which are inlined.
use Prim.Native.Nat.{ℕ, ◌+◌, ◌<◌, ◌≤◌}
use mathlib.Core.Path.{◌≡◌, ap, ◌∙◌, sym}
use mathlib.Core.Bool.{Bool, true, false, ◌&&◌}
use mathlib.Core.List.{List, []}
use borrow.Author.Tests.{eq-eqb, ne_eqb}
use lib.Dec.{eqb}
use lib.ListN.{length, get_or, drop}
use Rattle.determine_side_effects.specs.graph_crate.Check.{Graph}
use Rattle.determine_side_effects.specs.graph_access_crate.Names.{owner, symbol_name, enum_name, enum_member, enum_members, reference_symbol, reference_flag, property_count, first_property}
use Rattle.determine_side_effects.specs.graph_access_crate.Words.{some, normal, module_of, symbol_of, root_of}
use Rattle.determine_side_effects.proofs.facts_crate.Folds.{some_next, some_here, some_none}
use Rattle.keep_rules.specs.Rules.{inlined}

-- a row of this name and member
abbrev pub named : ℕ → ℕ → List ℕ → Bool
named name member e = eqb (enum_name e) name && eqb (enum_member e) member

-- the rows from row k on have the answer
module _ (name member : ℕ) (rows : List (List ℕ)) (k : ℕ) {whole : Bool} (left : some (named name member) (drop k rows) ≡ whole) where
  pub member_none : length rows ≤ k → false ≡ whole
  member_none l = sym (some_none (named name member) [] rows k l) ∙ left

  module _ (l : k < length rows) (x : ℕ) (e : x ≡ enum_name (get_or rows k [])) where
    pub member-found : (y : ℕ) → x ≡ name → y ≡ enum_member (get_or rows k []) → y ≡ member → true ≡ whole
    member-found y a f b =
        let p = eq-eqb (enum_name (get_or rows k [])) name (sym e ∙ a) in
        let q = eq-eqb (enum_member (get_or rows k [])) member (sym f ∙ b) in
        let h : named name member (get_or rows k []) ≡ true = rw (p, q) in
        sym (some_here (named name member) [] rows k l h) ∙ left

    further : named name member (get_or rows k []) ≡ false → some (named name member) (drop (k + 1) rows) ≡ whole
    further h = sym (some_next (named name member) [] rows k l h) ∙ left

    pub member-other : (y : ℕ) → x ≡ name → y ≡ enum_member (get_or rows k []) → (y ≡ member → ⊥) → some (named name member) (drop (k + 1) rows) ≡ whole
    member-other y a f b =
        let p = eq-eqb (enum_name (get_or rows k [])) name (sym e ∙ a) in
        let q = ne_eqb (enum_member (get_or rows k [])) member (λ z. b (f ∙ z)) in
        let h : named name member (get_or rows k []) ≡ false = rw (p, q) in
        further h

    pub name-other : (x ≡ name → ⊥) → some (named name member) (drop (k + 1) rows) ≡ whole
    name-other a =
        let p = ne_eqb (enum_name (get_or rows k [])) name (λ z. a (e ∙ z)) in
        let h : named name member (get_or rows k []) ≡ false = rw p in
        further h

-- the object's root and its owner
module _ (g : Graph) (row : List ℕ) (object root o : ℕ) (a : object ≡ reference_symbol row) (b : root ≡ root_of g.symbols object) (c : o ≡ owner (symbol_of g root)) where
  body : ℕ → ℕ → Bool
  body r m = normal g m && (eqb (reference_flag row) 0 && (eqb (property_count row) 1 && some (named (symbol_name (symbol_of g r)) (first_property row)) (enum_members (module_of g m))))

  same : body root o ≡ inlined g row
  unfolding inlined body
  same = ap (λ m. body root m) c ∙ ap (λ r. body r (owner (symbol_of g r))) (b ∙ ap (root_of g.symbols) a)

  pub of_external : normal g o ≡ false → false ≡ inlined g row
  unfolding body
  of_external p = rw (p, body) at same

  module _ (p : normal g o ≡ true) (f : ℕ) (i : f ≡ reference_flag row) where
    pub written : (f ≡ 0 → ⊥) → false ≡ inlined g row
    unfolding body
    written n = rw (p, ne_eqb (reference_flag row) 0 (λ z. n (i ∙ z)), body) at same

    module _ (q : f ≡ 0) (n : ℕ) (j : n ≡ property_count row) where
      pub deeper : (n ≡ 1 → ⊥) → false ≡ inlined g row
      unfolding body
      deeper w = rw (p, eq-eqb (reference_flag row) 0 (sym i ∙ q), ne_eqb (property_count row) 1 (λ z. w (j ∙ z)), body) at same

      pub its-member : (name first : ℕ) {r : Bool} → n ≡ 1 → name ≡ symbol_name (symbol_of g root) → first ≡ first_property row → r ≡ some (named name first) (enum_members (module_of g o)) → r ≡ inlined g row
      unfolding body
      its-member name first w u y h =
          h ∙ ap (λ x. some (named x first) (enum_members (module_of g o))) u ∙ ap (λ x. some (named (symbol_name (symbol_of g root)) x) (enum_members (module_of g o))) y
          ∙ (rw (p, eq-eqb (reference_flag row) 0 (sym i ∙ q), eq-eqb (property_count row) 1 (sym j ∙ w), body) at same)
