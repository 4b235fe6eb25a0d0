-- The test of a further round, by the option.
use mathlib.Core.Path.{◌≡◌, refl, ◌∙◌, sym}
use mathlib.Core.Bool.{Bool, true, false}
use native.Mathlib.Omega.{arith}
use borrow.Author.Tests.{lt-ltb}
use lib.Dec.{eqb, ltb}
use lib.ListN.{length, drop, length-drop}
use Rattle.determine_side_effects.specs.graph_crate.Check.{Graph}
use Rattle.determine_side_effects.specs.graph_access_crate.Words.{option}
use Rattle.determine_side_effects.specs.facts_crate.Facts.{kind_of}
use Rattle.keep_record.specs.declared.Line.{Line}
use Rattle.dynamic_entries.specs.Tries.{Progress}
use Rattle.tree_shaking.specs.Rounds.{kept_module, keeps_module, has_moved, goes_on}
use Rattle.closed_choices.proofs.Handling.{no_line}
use Rattle.settled_runs.proofs.Running.{some_place}

-- a module's line is a line
pub keeps_moves : (g : Graph) (p q : Progress) → keeps_module p q ≡ true → has_moved g p q ≡ true
unfolding keeps_module kept_module has_moved
keeps_moves g p q e =
    let k = some_place (λ (l : Line). eqb (kind_of l.fact) 1) (drop (length p.lines) q.lines) no_line e in
    let h : ltb (length p.lines) (length q.lines) ≡ true = lt-ltb (length p.lines) (length q.lines) (omega (arith, k.1, length-drop (length p.lines) q.lines)) in
    rw h

module _ (g : Graph) where
  pub goes_with : option g 7 ≡ true → goes_on g ≡ has_moved g
  unfolding goes_on
  goes_with o = let e : (p q : Progress) → goes_on g p q ≡ has_moved g p q = λ p q. rw (o, goes_on) in λ i p q. e p q i

  pub goes_without : option g 7 ≡ false → goes_on g ≡ keeps_module
  unfolding goes_on
  goes_without o = let e : (p q : Progress) → goes_on g p q ≡ keeps_module p q = λ p q. rw (o, goes_on) in λ i p q. e p q i

  -- a round that another follows moved something, by either test
  pub goes_moves : (p q : Progress) → goes_on g p q ≡ true → has_moved g p q ≡ true
  goes_moves p q e = go (option g 7) refl
    where
      go : (b : Bool) → option g 7 ≡ b → has_moved g p q ≡ true
      go true o = sym (λ i. goes_with o i p q) ∙ e
      go false o = keeps_moves g p q (sym (λ i. goes_without o i p q) ∙ e)
