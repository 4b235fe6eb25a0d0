-- A reference: its kind, then its parts by its kind.
use Prim.Native.Nat.{ℕ, ◌<◌}
use mathlib.Core.Path.{◌≡◌, ap, ◌∙◌, sym}
use mathlib.Core.Logic.{◌≢◌}
use mathlib.Core.List.{List, [], ◌∷◌, map}
use borrow.Author.Tests.{eq-eqb, ne_eqb}
use lib.ListN.{length, get_or}
use Rattle.rows.specs.Walk.{got, Rule, count, below, number, cells, many, firsts, ListRule, list, plain, walk_of, onward}
use Rattle.rows.proofs.Walks.{walk_then, walk-map, onward_at, onward_fault, at_got, list_go, clash}
use Rattle.rows.proofs.Cells.{number_got}
use Rattle.graph_format.specs.Format.{depended_at, parts_at, member_rules, reference_at}
use Rattle.std.specs.Prelude.{Ok, Err}
use Rattle.rows.specs.refusal_crate.declared.Refusal.{Refusal}

-- a number that was read is there
pub number_inside : (r : Rule) (numbers : List ℕ) (at : ℕ) {q : ℕ} → walk_of (number r numbers at) ≡ Ok q → at < length numbers
number_inside r numbers at {q} e = (number_got r numbers at (at_got _ q e).1).inside

module _ (symbols : ℕ) (numbers : List ℕ) (at : ℕ) where
  depended_is : walk_of (depended_at symbols numbers at) ≡ onward (walk_of (cells (below symbols ∷ below 2 ∷ []) numbers at)) (λ q. walk_of (list (plain numbers (symbols ∷ [])) numbers q))
  unfolding depended_at
  depended_is =
      walk_then (cells (below symbols ∷ below 2 ∷ []) numbers at) _ _
      (λ parts q e. walk-map (list (plain numbers (symbols ∷ [])) numbers q) (λ ds. get_or parts 0 0 ∷ get_or parts 1 0 ∷ map (λ d. get_or d 0 0) ds))

  pub depended_stop : {why : Refusal} → walk_of (cells (below symbols ∷ below 2 ∷ []) numbers at) ≡ Err why → walk_of (depended_at symbols numbers at) ≡ Err why
  depended_stop e = depended_is ∙ onward_fault _ e

  pub depended_go : {q : ℕ} → walk_of (cells (below symbols ∷ below 2 ∷ []) numbers at) ≡ Ok q
      → walk_of (depended_at symbols numbers at) ≡ walk_of (list (plain numbers (symbols ∷ [])) numbers q)
  depended_go e = depended_is ∙ onward_at _ e

module _ (kind symbols : ℕ) (numbers : List ℕ) (at : ℕ) where
  pub parts_symbol : kind ≡ 0 → parts_at kind symbols numbers at ≡ cells (below symbols ∷ []) numbers at
  unfolding parts_at
  parts_symbol e = rw (eq-eqb kind 0 e, parts_at)

  pub parts_none : kind ≢ 0 → kind ≡ 1 → parts_at kind symbols numbers at ≡ got [] at
  unfolding parts_at
  parts_none d e = rw (ne_eqb kind 0 d, eq-eqb kind 1 e, parts_at)

  pub parts_depended : kind ≢ 0 → kind ≢ 1 → kind ≡ 2 → parts_at kind symbols numbers at ≡ depended_at symbols numbers at
  unfolding parts_at
  parts_depended d₀ d₁ e = rw (ne_eqb kind 0 d₀, ne_eqb kind 1 d₁, eq-eqb kind 2 e, parts_at)

  pub parts_member : kind ≢ 0 → kind ≢ 1 → kind ≢ 2 → parts_at kind symbols numbers at ≡ cells (member_rules symbols) numbers at
  unfolding parts_at
  parts_member d₀ d₁ d₂ = rw (ne_eqb kind 0 d₀, ne_eqb kind 1 d₁, ne_eqb kind 2 d₂, parts_at)

module _ (symbols : ℕ) (numbers seen : List ℕ) (at : ℕ) where
  pub reference_stop : {why : Refusal} → walk_of (number (below 4) numbers at) ≡ Err why → walk_of (reference_at symbols numbers seen at) ≡ Err why
  unfolding reference_at walk_of
  reference_stop {why} e = walk_then (number (below 4) numbers at) _ (λ q. Err why) (λ a q f. absurd (clash (sym (ap walk_of f) ∙ e))) ∙ onward_fault _ e

  pub reference_go : {q kind : ℕ} → walk_of (number (below 4) numbers at) ≡ Ok q → kind ≡ get_or numbers at 0
      → walk_of (reference_at symbols numbers seen at) ≡ walk_of (parts_at kind symbols numbers q)
  unfolding reference_at
  reference_go {q} {kind} e k =
      walk_then (number (below 4) numbers at) _ (λ p. walk_of (parts_at kind symbols numbers p))
      (λ x p f. walk-map (parts_at x symbols numbers p) (λ parts. x ∷ parts) ∙ ap (λ y. walk_of (parts_at y symbols numbers p)) ((number_got (below 4) numbers at f).same ∙ sym k))
      ∙ onward_at _ e

-- a list, by its count
module _ (rule : ListRule) (numbers : List ℕ) (at : ℕ) where
  pub list_by : {q n : ℕ} → walk_of (number (count 16384 0 rule.counts) numbers at) ≡ Ok q → n ≡ get_or numbers at 0
      → walk_of (list rule numbers at) ≡ walk_of (many rule.row firsts n [] q)
  list_by {q} {n} e k = let g = at_got (number (count 16384 0 rule.counts) numbers at) q e in ap walk_of (list_go rule numbers at g.1 ((number_got _ numbers at g.1).same ∙ sym k))
