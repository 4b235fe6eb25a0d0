-- Which helpers a module needs, and which all kept modules need.
use Prim.Native.Nat.{ℕ, ◌+◌, ◌-◌, ◌<◌, ◌≤◌}
use mathlib.Core.Path.{◌≡◌, refl, ap, ◌∙◌, sym}
use mathlib.Core.Bool.{Bool, true, false, not, ◌||◌, ◌&&◌, and-false, or-true}
use mathlib.Core.List.{List, []}
use native.Mathlib.Omega.{arith}
use borrow.Author.Tests.{eq-eqb, ne_eqb}
use lib.Dec.{eqb}
use lib.ListN.{length, get_or, drop}
use Rattle.bit_row.specs.Row.{bit_at}
use Rattle.determine_side_effects.specs.graph_crate.Check.{Graph}
use Rattle.determine_side_effects.specs.graph_access_crate.Names.{module_helpers, helper_number, helper_statement}
use Rattle.determine_side_effects.specs.graph_access_crate.Words.{flag, some, tabulate, module_of}
use Rattle.determine_side_effects.specs.facts_crate.declared.Fact.{Fact}
use Rattle.determine_side_effects.specs.facts_crate.Facts.{module_fact, statement_fact, mark_of}
use Rattle.determine_side_effects.proofs.facts_crate.Folds.{some_next, some_here, some_none, some_tabulate_next, some-tabulate-here, some-tabulate-none}
use Rattle.marked.specs.Marked.{marked}
use Rattle.passes.specs.Helpers.{has_all, needs_helper, word_of, helper_word, helper_union}
use Rattle.passes.proofs.Words.{word_none}

-- a module's mark is its number
pub module_marked : (g : Graph) (marks : List ℕ) (m : ℕ) → bit_at marks m ≡ marked g marks (module_fact m)
unfolding marked mark_of
module_marked g marks m = refl

module _ (g : Graph) (kept : Fact → Bool) (m : ℕ) where
  pub all_runtime : m ≡ g.header.runtime → false ≡ has_all g kept m
  unfolding has_all
  all_runtime e = rw (eq-eqb m g.header.runtime e)

  pub all_other : (m ≡ g.header.runtime → ⊥) → not (kept (module_fact m)) ≡ has_all g kept m
  unfolding has_all
  all_other e = rw (ne_eqb m g.header.runtime e)

-- a row of a module's helpers
unfoldable pub row_needs : Graph → (Fact → Bool) → ℕ → ℕ → List ℕ → Bool
row_needs g kept m h row = eqb (helper_number row) h && (kept (statement_fact m (helper_statement row)) || has_all g kept m)

module _ (g : Graph) (kept : Fact → Bool) (m h n : ℕ) (size : n ≡ length (module_helpers (module_of g m))) where
  pub needing_start : some (row_needs g kept m h) (drop 0 (module_helpers (module_of g m))) ≡ needs_helper g kept m h
  unfolding needs_helper row_needs
  needing_start = refl

  module _ (k : ℕ) (left : some (row_needs g kept m h) (drop k (module_helpers (module_of g m))) ≡ needs_helper g kept m h) where
    pub needing-over : n ≤ k → false ≡ needs_helper g kept m h
    needing-over l = let z : length (module_helpers (module_of g m)) ≤ k = omega (arith, size) in sym (some_none (row_needs g kept m h) [] (module_helpers (module_of g m)) k z) ∙ left

    module _ (inside : k < n) (x : ℕ) (is : x ≡ helper_number (get_or (module_helpers (module_of g m)) k [])) where
      within : k < length (module_helpers (module_of g m))
      within = omega (arith, size)

      next : row_needs g kept m h (get_or (module_helpers (module_of g m)) k []) ≡ false → some (row_needs g kept m h) (drop (k + 1) (module_helpers (module_of g m))) ≡ needs_helper g kept m h
      next e = sym (some_next (row_needs g kept m h) [] (module_helpers (module_of g m)) k within e) ∙ left

      here : row_needs g kept m h (get_or (module_helpers (module_of g m)) k []) ≡ true → true ≡ needs_helper g kept m h
      here e = sym (some_here (row_needs g kept m h) [] (module_helpers (module_of g m)) k within e) ∙ left

      -- another helper's
      pub needing-other : (x ≡ h → ⊥) → some (row_needs g kept m h) (drop (k + 1) (module_helpers (module_of g m))) ≡ needs_helper g kept m h
      unfolding row_needs
      needing-other e = next (rw (ne_eqb (helper_number (get_or (module_helpers (module_of g m)) k [])) h (λ q. e (is ∙ q)), row_needs))

      module _ (e : x ≡ h) where
        of-helper : eqb (helper_number (get_or (module_helpers (module_of g m)) k [])) h ≡ true
        of-helper = eq-eqb (helper_number (get_or (module_helpers (module_of g m)) k [])) h (sym is ∙ e)

        pub needing-all : has_all g kept m ≡ true → true ≡ needs_helper g kept m h
        unfolding row_needs
        needing-all a = here (rw (of-helper, a, row_needs) (or-true (kept (statement_fact m (helper_statement (get_or (module_helpers (module_of g m)) k []))))))

        module _ (i : ℕ) (its : i ≡ helper_statement (get_or (module_helpers (module_of g m)) k [])) (b : Bool) (say : b ≡ kept (statement_fact m i)) where
          says : kept (statement_fact m (helper_statement (get_or (module_helpers (module_of g m)) k []))) ≡ b
          says = sym (say ∙ ap (λ j. kept (statement_fact m j)) its)

          pub needing-kept : b ≡ true → true ≡ needs_helper g kept m h
          unfolding row_needs
          needing-kept q = let y = says ∙ q in here (rw (of-helper, y, row_needs))

          pub needing-not : has_all g kept m ≡ false → b ≡ false → some (row_needs g kept m h) (drop (k + 1) (module_helpers (module_of g m))) ≡ needs_helper g kept m h
          unfolding row_needs
          needing-not a q = let y = says ∙ q in next (rw (of-helper, y, a, row_needs))

-- a module that lists no helper needs none
pub needs_none : (g : Graph) (kept : Fact → Bool) (m n : ℕ) → n ≡ length (module_helpers (module_of g m)) → n ≡ 0 → 0 ≡ helper_word g kept m
unfolding helper_word
needs_none g kept m n size e =
    sym (word_none (needs_helper g kept m) g.header.helpers (λ h. sym (needing-over g kept m h n size 0 (needing_start g kept m h n size) (omega (arith, e)))))

-- a kept module needs a helper, by its word
unfoldable pub module_needs : Graph → (Fact → Bool) → ℕ → ℕ → Bool
module_needs g kept h m = kept (module_fact m) && flag h (helper_word g kept m)

-- whether one of the first n modules is such a one
unfoldable pub some_need : Graph → (Fact → Bool) → ℕ → ℕ → Bool
some_need g kept n h = some (λ m. kept (module_fact m) && flag h (helper_word g kept m)) (tabulate (λ m. m) 0 n)

pub union_is : (g : Graph) (kept : Fact → Bool) → word_of (some_need g kept g.header.modules) g.header.helpers ≡ helper_union g kept
unfolding helper_union some_need
union_is g kept = refl

module _ (g : Graph) (kept : Fact → Bool) (h n : ℕ) where
  pub uniting_start : some (module_needs g kept h) (tabulate (λ m. m) 0 (n - 0)) ≡ some (λ m. kept (module_fact m) && flag h (helper_word g kept m)) (tabulate (λ m. m) 0 n)
  unfolding module_needs
  uniting_start = let z : n - 0 ≡ n = omega arith in rw z

  module _ {whole : Bool} (k : ℕ) (left : some (module_needs g kept h) (tabulate (λ m. m) k (n - k)) ≡ whole) where
    pub uniting-over : n ≤ k → false ≡ whole
    uniting-over l = sym (some-tabulate-none (module_needs g kept h) (λ m. m) n k l) ∙ left

    module _ (l : k < n) (word : ℕ) (is : word ≡ helper_word g kept k) (b : Bool) (say : b ≡ flag h word) where
      bit-says : flag h (helper_word g kept k) ≡ b
      bit-says = sym (say ∙ ap (flag h) is)

      pub uniting-without : b ≡ false → some (module_needs g kept h) (tabulate (λ m. m) (k + 1) (n - (k + 1))) ≡ whole
      unfolding module_needs
      uniting-without e =
          let y = bit-says ∙ e in
          let z : module_needs g kept h k ≡ false = rw (y, module_needs) (and-false (kept (module_fact k))) in
          sym (some_tabulate_next (module_needs g kept h) (λ m. m) n k l z) ∙ left

      pub uniting-lost : kept (module_fact k) ≡ false → some (module_needs g kept h) (tabulate (λ m. m) (k + 1) (n - (k + 1))) ≡ whole
      unfolding module_needs
      uniting-lost e =
          let z : module_needs g kept h k ≡ false = rw (e, module_needs) in
          sym (some_tabulate_next (module_needs g kept h) (λ m. m) n k l z) ∙ left

      pub uniting-here : b ≡ true → kept (module_fact k) ≡ true → true ≡ whole
      unfolding module_needs
      uniting-here e q =
          let y = bit-says ∙ e in
          let z : module_needs g kept h k ≡ true = rw (q, y, module_needs) in
          sym (some-tabulate-here (module_needs g kept h) (λ m. m) n k l z) ∙ left

-- the place of a module's word
pub word_place : {m x n : ℕ} → m < x → x ≡ n → m < n
word_place l e = omega (arith, l, e)

pub word_is : (plan : List ℕ) (at base m : ℕ) {word : ℕ} → at ≡ base → get_or plan (base + m) 0 ≡ word → get_or plan (at + m) 0 ≡ word
word_is plan at base m e q = ap (λ j. get_or plan (j + m) 0) e ∙ q
