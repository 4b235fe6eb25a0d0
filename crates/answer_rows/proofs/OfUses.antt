-- What a use shows, by the answers that the code gets.
use Prim.Native.Nat.{ℕ, ◌+◌, ◌*◌}
use mathlib.Core.Path.{◌≡◌, refl, ap, ◌∙◌, sym}
use mathlib.Core.Bool.{Bool, true, false, ◌&&◌, ◌||◌, not}
use mathlib.Core.List.{List, [], ◌∷◌, ◌++◌}
use lib.Dec.{eqb}
use Rattle.determine_side_effects.specs.graph_crate.Check.{Graph}
use Rattle.determine_side_effects.specs.graph_access_crate.Names.{module_type, owner}
use Rattle.determine_side_effects.specs.graph_access_crate.Words.{flag, module_of, symbol_of, normal}
use Rattle.linking_metadata.specs.Namespaces.{is_namespace, target_of}
use Rattle.keep_rules.specs.Rules.{bypassed}
use Rattle.answer_rows.specs.Shown.{only_if, used_by, external_by, json_by, reason_by}

pub only_none : (b : Bool) (n : ℕ) → b ≡ false → only_if b n ≡ []
unfolding only_if
only_none b n e = rw e

pub only_this : (b : Bool) (n : ℕ) → b ≡ true → only_if b n ≡ n ∷ []
unfolding only_if
only_this b n e = rw e

module _ (g : Graph) (s x : ℕ) where
  pub used_none : bypassed g s x ≡ true → used_by g s x ≡ []
  unfolding used_by
  used_none e = rw (e, used_by)

  pub used_these : (t : ℕ) → t ≡ target_of g s → bypassed g s x ≡ false → used_by g s x ≡ (s ∷ []) ++ (t ∷ [])
  unfolding used_by
  used_these t i e = rw (e, used_by) (ap (λ n. s ∷ n ∷ []) (sym i))

  pub external_none : bypassed g s x ≡ true → external_by g s x ≡ []
  unfolding external_by
  external_none e = rw (e, external_by)

  pub external_these : (t : ℕ) → t ≡ target_of g s → bypassed g s x ≡ false
      → external_by g s x ≡ only_if (not (normal g (owner (symbol_of g s)))) s ++ only_if (not (normal g (owner (symbol_of g t)))) t
  unfolding external_by
  external_these t i e =
      rw (e, external_by)
      (ap (λ n. only_if (not (normal g (owner (symbol_of g s)))) s ++ only_if (not (normal g (owner (symbol_of g n)))) n) (sym i))

-- by the tests' answers
unfoldable pub json_if : Bool → Bool → Bool → Bool → ℕ → List ℕ
json_if by nor json self t = elim by [ true ↦ [] | false ↦ only_if (nor && (json && not self)) t ]

unfoldable pub reason_if : Bool → Bool → Bool → Bool → Bool → ℕ → List ℕ
reason_if by names a b c o =
    elim (not by && names) [ true ↦ elim (a || b) [ true ↦ (8 * o) ∷ [] | false ↦ only_if c (8 * o + 1) ] | false ↦ [] ]

module _ (g : Graph) (s x t o : ℕ) (i : t ≡ target_of g s) (k : o ≡ owner (symbol_of g t)) where
  json_by_lem : json_by g s x ≡ json_if (bypassed g s x) (normal g o) (eqb (module_type (module_of g o)) 2) (flag 3 x) t
  unfolding json_by json_if
  json_by_lem =
      sym
      (ap (λ m. json_if (bypassed g s x) (normal g m) (eqb (module_type (module_of g m)) 2) (flag 3 x) t) k
      ∙ ap (λ n. json_if (bypassed g s x) (normal g (owner (symbol_of g n))) (eqb (module_type (module_of g (owner (symbol_of g n)))) 2) (flag 3 x) n) i)

  reason_by_lem : reason_by g s x ≡ reason_if (bypassed g s x) (is_namespace g t) (flag 0 x) (flag 1 x) (flag 2 x) o
  unfolding reason_by reason_if
  reason_by_lem =
      sym
      (ap (λ m. reason_if (bypassed g s x) (is_namespace g t) (flag 0 x) (flag 1 x) (flag 2 x) m) k
      ∙ ap (λ n. reason_if (bypassed g s x) (is_namespace g n) (flag 0 x) (flag 1 x) (flag 2 x) (owner (symbol_of g n))) i)

  pub json_strange : normal g o ≡ false → bypassed g s x ≡ false → json_by g s x ≡ []
  unfolding json_if only_if
  json_strange n e = json_by_lem ∙ rw (e, n, json_if)

  pub json_typed : eqb (module_type (module_of g o)) 2 ≡ false → normal g o ≡ true → bypassed g s x ≡ false → json_by g s x ≡ []
  unfolding json_if only_if
  json_typed d n e = json_by_lem ∙ rw (e, n, d, json_if)

  pub json_self : flag 3 x ≡ true → eqb (module_type (module_of g o)) 2 ≡ true → normal g o ≡ true → bypassed g s x ≡ false → json_by g s x ≡ []
  unfolding json_if only_if
  json_self f d n e = json_by_lem ∙ rw (e, n, d, f, json_if)

  pub json_this : flag 3 x ≡ false → eqb (module_type (module_of g o)) 2 ≡ true → normal g o ≡ true → bypassed g s x ≡ false → json_by g s x ≡ t ∷ []
  unfolding json_if only_if
  json_this f d n e = json_by_lem ∙ rw (e, n, d, f, json_if)

  pub reason_first : flag 0 x ≡ true → is_namespace g t ≡ true → bypassed g s x ≡ false → reason_by g s x ≡ (8 * o) ∷ []
  unfolding reason_if
  reason_first a n e = reason_by_lem ∙ rw (e, n, a, reason_if)

  pub reason_second : flag 1 x ≡ true → flag 0 x ≡ false → is_namespace g t ≡ true → bypassed g s x ≡ false → reason_by g s x ≡ (8 * o) ∷ []
  unfolding reason_if
  reason_second b a n e = reason_by_lem ∙ rw (e, n, a, b, reason_if)

  pub reason_third : flag 2 x ≡ true → flag 1 x ≡ false → flag 0 x ≡ false → is_namespace g t ≡ true → bypassed g s x ≡ false → reason_by g s x ≡ (8 * o + 1) ∷ []
  unfolding reason_if only_if
  reason_third c b a n e = reason_by_lem ∙ rw (e, n, a, b, c, reason_if)

  pub reason_no : flag 2 x ≡ false → flag 1 x ≡ false → flag 0 x ≡ false → is_namespace g t ≡ true → bypassed g s x ≡ false → reason_by g s x ≡ []
  unfolding reason_if only_if
  reason_no c b a n e = reason_by_lem ∙ rw (e, n, a, b, c, reason_if)

pub json_none : (g : Graph) (s x : ℕ) → bypassed g s x ≡ true → json_by g s x ≡ []
unfolding json_by
json_none g s x e = rw (e, json_by)

pub reason_none : (g : Graph) (s x : ℕ) → bypassed g s x ≡ true → reason_by g s x ≡ []
unfolding reason_by
reason_none g s x e = rw (e, reason_by)

pub reason_other : (g : Graph) (s x t : ℕ) → t ≡ target_of g s → is_namespace g t ≡ false → bypassed g s x ≡ false → reason_by g s x ≡ []
unfolding reason_if
reason_other g s x t i n e = reason_by_lem g s x t (owner (symbol_of g t)) i refl ∙ rw (e, n, reason_if)

-- a symbol by itself: whether its owner is external
module _ (g : Graph) (s o : ℕ) (r : Bool) (k : o ≡ owner (symbol_of g s)) (i : r ≡ normal g o) where
  pub strange_none : r ≡ true → only_if (not (normal g (owner (symbol_of g s)))) s ≡ []
  strange_none e = only_none (not (normal g (owner (symbol_of g s)))) s (ap (λ m. not (normal g m)) (sym k) ∙ ap not (sym i ∙ e))

  pub strange_this : r ≡ false → only_if (not (normal g (owner (symbol_of g s)))) s ≡ s ∷ []
  strange_this e = only_this (not (normal g (owner (symbol_of g s)))) s (ap (λ m. not (normal g m)) (sym k) ∙ ap not (sym i ∙ e))
