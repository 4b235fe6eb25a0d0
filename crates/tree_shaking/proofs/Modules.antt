-- Whether a module is among some lines.
use Prim.Native.Nat.{ℕ, ◌+◌, ◌<◌, ◌≤◌}
use mathlib.Core.Path.{◌≡◌, refl, ap, ◌∙◌, sym}
use mathlib.Core.Bool.{true, false}
use mathlib.Core.List.{List}
use native.Mathlib.Omega.{arith}
use borrow.Author.Tests.{eq-eqb, ne_eqb}
use lib.Dec.{eqb}
use lib.ListN.{get_or}
use Rattle.determine_side_effects.specs.facts_crate.declared.Fact.{Fact}
use Rattle.determine_side_effects.specs.facts_crate.Facts.{kind_of, module_fact}
use Rattle.determine_side_effects.proofs.facts_crate.Folds.{some_next, some_here, some_none}
use Rattle.keep_record.specs.declared.Line.{Line}
use Rattle.keep_record.specs.Held.{line_at, lines_of}
use Rattle.keep_record.proofs.Rows.{lines-length, lines_at}
use Rattle.worklist.specs.Drain.{line}
use Rattle.tree_shaking.specs.Rounds.{kept_module}

-- in the loop, at line k: the lines from there on say what all say
pub record Looking (row : List ℕ) (from to k : ℕ) : Type 0 where
  pub on : kept_module k (lines_of to row) ≡ kept_module from (lines_of to row)

pub look_start : (row : List ℕ) (from to : ℕ) → Looking row from to from
look_start row from to = record { on = refl }

module _ (row : List ℕ) (from to k : ℕ) (s : Looking row from to k) where
  pub look_end : to ≤ k → false ≡ kept_module from (lines_of to row)
  unfolding kept_module
  look_end h = sym (sym s.on ∙ some_none (λ l. eqb (kind_of l.fact) 1) (line (module_fact 0) 0 0 0) (lines_of to row) k (omega (arith, lines-length to row)))

  module _ (h : k < to) (f : Fact) (is : f ≡ (line_at row k).fact) (x : ℕ) (kind : x ≡ kind_of f) where
    kind_here : kind_of (get_or (lines_of to row) k (line (module_fact 0) 0 0 0)).fact ≡ x
    kind_here = ap (λ (l : Line). kind_of l.fact) (lines_at to row k (line (module_fact 0) 0 0 0) h) ∙ ap kind_of (sym is) ∙ sym kind

    pub look-found : x ≡ 1 → true ≡ kept_module from (lines_of to row)
    unfolding kept_module
    look-found e = sym (sym s.on ∙ some_here (λ l. eqb (kind_of l.fact) 1) (line (module_fact 0) 0 0 0) (lines_of to row) k (omega (arith, lines-length to row)) (eq-eqb _ _ (kind_here ∙ e)))

    pub look-next : (x ≡ 1 → ⊥) → Looking row from to (k + 1)
    unfolding kept_module
    look-next n = record { on = sym (some_next (λ l. eqb (kind_of l.fact) 1) (line (module_fact 0) 0 0 0) (lines_of to row) k (omega (arith, lines-length to row)) (ne_eqb _ _ (λ z. n (sym kind_here ∙ z)))) ∙ s.on }
