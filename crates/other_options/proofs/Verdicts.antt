-- The verdicts on side effects read neither options nor entries.
use Prim.Native.Nat.{ℕ, zero, suc}
use mathlib.Core.Path.{◌≡◌, refl, ap, ◌∙◌}
use mathlib.Core.List.{List}
use Rattle.determine_side_effects.specs.rows_crate.Walk.{Item}
use Rattle.determine_side_effects.specs.graph_crate.Check.{Graph}
use Rattle.determine_side_effects.specs.graph_access_crate.Words.{module_of, statement_list, normal}
use Rattle.determine_side_effects.specs.Effects.{seeds, moves, moved, pass, passes, settle, relaxed, rescanned, recomputed, first_verdict, first_verdicts, last_verdicts}
use Rattle.other_options.proofs.Changed.{changed}

module _ (g : Graph) (o : ℕ) (es : List Item) where
  abbrev h : Graph
  h = changed g o es

  pass_same : (k : ℕ) (v : List ℕ) → pass h k v ≡ pass g k v
  unfolding pass moved moves seeds normal module_of
  pass_same zero v = refl
  pass_same (suc k) v = pass_same k (moved g v k)

  passes_same : (n : ℕ) (v : List ℕ) → passes h n v ≡ passes g n v
  unfolding passes
  passes_same zero v = refl
  passes_same (suc n) v = ap (λ x. passes h n x) (pass_same g.header.modules v) ∙ passes_same n (pass g g.header.modules v)

  firsts_same : first_verdicts h ≡ first_verdicts g
  unfolding first_verdicts first_verdict relaxed recomputed rescanned normal module_of statement_list
  firsts_same = refl

  pub lasts_same : last_verdicts h ≡ last_verdicts g
  unfolding last_verdicts settle
  lasts_same = ap (λ x. passes h g.header.modules x) firsts_same ∙ passes_same g.header.modules (first_verdicts g)
