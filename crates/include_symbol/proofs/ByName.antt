-- K11: what a CommonJS module exports by a name.
use Prim.Native.Nat.{ℕ, ◌+◌, ◌-◌, ◌<◌, ◌≤◌}
use mathlib.Core.Path.{◌≡◌, ap, ◌∙◌, sym}
use mathlib.Core.Bool.{true, false}
use mathlib.Core.List.{List, []}
use native.Mathlib.Numerals.{add-one}
use borrow.Author.Tests.{eq-eqb, ne_eqb}
use lib.Seq.{drop-cons}
use lib.ListN.{length, get_or, drop, drop_of_length-le}
use Rattle.determine_side_effects.specs.graph_crate.Check.{Graph}
use Rattle.determine_side_effects.specs.graph_access_crate.Names.{export_name, export_symbol, resolved_exports, alias_namespace, alias_name}
use Rattle.determine_side_effects.specs.facts_crate.Facts.{use_fact}
use Rattle.determine_side_effects.specs.graph_access_crate.Words.{normal, module_of, symbol_of}
use Rattle.linking_metadata.specs.Namespaces.{common_js_of}
use Rattle.keep_rules.specs.declared.Candidate.{Candidate}
use Rattle.keep_rules.specs.declared.Candidate.TheVariants.{Gives, Nothing}
use Rattle.keep_rules.specs.Rules.{export_of, export_candidate, alias_candidate}

-- the rows from row k on have the answer
module _ (name : ℕ) (rows : List (List ℕ)) (k : ℕ) {whole : ℕ} (left : export_of name (drop k rows) ≡ whole) where
  pub export_go : (x : ℕ) → k < length rows → x ≡ export_name (get_or rows k []) → (x ≡ name → ⊥) → export_of name (drop (k + 1) rows) ≡ whole
  unfolding export_of
  export_go x l e n = sym (step l) ∙ left
    where
      step : k < length rows → export_of name (drop k rows) ≡ export_of name (drop (k + 1) rows)
      step l = rw (drop-cons rows k [] l, ne_eqb (export_name (get_or rows k [])) name (λ i. n (e ∙ i)), export_of) (ap (λ j. export_of name (drop j rows)) (sym (add-one k)))

  pub export_found : (x y : ℕ) → k < length rows → x ≡ export_name (get_or rows k []) → x ≡ name → y ≡ export_symbol (get_or rows k []) → y + 1 ≡ whole
  unfolding export_of
  export_found x y l e n f = ap (λ z. z + 1) f ∙ sym (rw (drop-cons rows k [] l, eq-eqb (export_name (get_or rows k [])) name (sym e ∙ n), export_of)) ∙ left

  pub export_none : length rows ≤ k → 0 ≡ whole
  unfolding export_of
  export_none l = sym (rw (drop_of_length-le rows l, export_of)) ∙ left

module _ (g : Graph) (name n : ℕ) where
  pub pick_none : n ≡ 0 → Nothing ≡ export_candidate g name n
  unfolding export_candidate
  pick_none e = rw (eq-eqb n 0 e, export_candidate)

  pub pick_external : (n ≡ 0 → ⊥) → normal g (n - 1) ≡ false → Nothing ≡ export_candidate g name n
  unfolding export_candidate
  pick_external e f = rw (ne_eqb n 0 e, f, export_candidate)

  pub pick_default : (n ≡ 0 → ⊥) → normal g (n - 1) ≡ true → name ≡ 0 → Nothing ≡ export_candidate g name n
  unfolding export_candidate
  pick_default e f z = rw (ne_eqb n 0 e, f, eq-eqb name 0 z, export_candidate)

  pub pick_missing : (n ≡ 0 → ⊥) → normal g (n - 1) ≡ true → (name ≡ 0 → ⊥) → export_of name (resolved_exports (module_of g (n - 1))) ≡ 0 → Nothing ≡ export_candidate g name n
  unfolding export_candidate
  pick_missing e f z m = rw (ne_eqb n 0 e, f, ne_eqb name 0 z, eq-eqb _ 0 m, export_candidate)

  pub pick_found : (x : ℕ) → (n ≡ 0 → ⊥) → normal g (n - 1) ≡ true → (name ≡ 0 → ⊥) → x ≡ export_of name (resolved_exports (module_of g (n - 1))) → (x ≡ 0 → ⊥) → Gives (use_fact (x - 1) 1) ≡ export_candidate g name n
  unfolding export_candidate
  pick_found x e f z i m = ap (λ y. Gives (use_fact (y - 1) 1)) i ∙ rw (ne_eqb n 0 e, f, ne_eqb name 0 z, ne_eqb _ 0 (λ j. m (i ∙ j)), export_candidate)

-- the root's alias namespace is a
module _ (g : Graph) (root k a : ℕ) (e : a ≡ alias_namespace (symbol_of g root)) where
  pub no_alias : a ≡ 0 → Nothing ≡ alias_candidate g root k
  unfolding alias_candidate
  no_alias z = rw (eq-eqb _ 0 (sym e ∙ z), alias_candidate)

  pub an_alias : (name : ℕ) {n : ℕ} {r : Candidate} → (a ≡ 0 → ⊥) → name ≡ alias_name (symbol_of g root) → n ≡ common_js_of g (a - 1) → r ≡ export_candidate g name n → r ≡ alias_candidate g root k
  unfolding alias_candidate
  an_alias name {n} z f i h = h ∙ ap (λ x. export_candidate g x n) f ∙ ap (λ x. export_candidate g (alias_name (symbol_of g root)) x) (i ∙ ap (λ b. common_js_of g (b - 1)) e) ∙ rw (ne_eqb _ 0 (λ j. z (e ∙ j)), alias_candidate)
