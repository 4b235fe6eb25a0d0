-- Graphs with the same bits 0 to 5 of their options have the same verdicts, the same order of the entries and the same rounds.
use Prim.Native.Nat.{ℕ, zero, suc, ◌+◌, ◌<◌}
use mathlib.Core.Path.{◌≡◌, refl, ap, ◌∙◌}
use mathlib.Core.Bool.{Bool, true, false}
use mathlib.Core.List.{List, [], ◌∷◌, ◌++◌}
use lib.ListN.{length, drop}
use Rattle.determine_side_effects.specs.graph_crate.Check.{Graph}
use Rattle.determine_side_effects.specs.graph_access_crate.Words.{module_of, option, entry_of}
use Rattle.determine_side_effects.specs.facts_crate.declared.Fact.{Fact}
use Rattle.determine_side_effects.specs.facts_crate.declared.Fact.TheVariants.{Module, Statement, Use, CheckedUse, Forward, Bailout}
use Rattle.determine_side_effects.specs.Effects.{last_verdicts}
use Rattle.keep_record.specs.declared.Line.{Line}
use Rattle.entry_order.specs.Order.{module_of_entry, user_entries}
use Rattle.entry_starts.specs.Starts.{user_starts}
use Rattle.dynamic_entries.specs.Sorted.{sorted_entries}
use Rattle.dynamic_entries.specs.Tries.{Progress, starting, tries}
use Rattle.passes.specs.Bailouts.{bailout_starts, bailouts_starts}
use Rattle.tree_shaking.specs.Rounds.{bailed, round, live_count, has_moved, Ended, ended_at, rounds_from, users_starts, no_one, begun}
use Rattle.other_options.specs.Options.{with_options}
use Rattle.other_options.proofs.Changed.{user_starts_same}
use Rattle.other_options.proofs.Verdicts.{lasts_same}
use Rattle.other_options.proofs.Ordering.{users_same, sorted_entries_same}
use Rattle.other_options.proofs.Trying.{starting_same, tries_same}

-- what bailouts and user-defined entries start reads no options
module _ (g : Graph) (o : ℕ) where
  abbrev other : Graph
  other = with_options g o

  bailout_same : (f : Fact) → bailout_starts other f ≡ bailout_starts g f
  unfolding bailout_starts module_of
  bailout_same (Module m) = refl
  bailout_same (Statement m i) = refl
  bailout_same (Use s x) = refl
  bailout_same (CheckedUse s x) = refl
  bailout_same (Forward s) = refl
  bailout_same (Bailout m) = refl

  bailouts_same : (lines : List Line) → bailouts_starts other lines ≡ bailouts_starts g lines
  unfolding bailouts_starts
  bailouts_same [] = refl
  bailouts_same (l ∷ ls) =
      ap (λ (x : List Fact). x ++ bailouts_starts other ls) (bailout_same l.fact) ∙ ap (λ (x : List Fact). bailout_starts g l.fact ++ x) (bailouts_same ls)

  users_starts_same : (es : List ℕ) → users_starts other es ≡ users_starts g es
  unfolding users_starts module_of_entry entry_of
  users_starts_same [] = refl
  users_starts_same (e ∷ es) =
      let m = module_of_entry g e in
      ap (λ (x : List Fact). x ++ users_starts other es) (user_starts_same g o g.entries m) ∙ ap (λ (x : List Fact). user_starts g m ++ x) (users_starts_same es)

module _ (g : Graph) (o : ℕ) (same : (j : ℕ) → j < 6 → option (with_options g o) j ≡ option g j) where
  abbrev h : Graph
  h = with_options g o

  -- by any verdicts
  begun_by : (v : List ℕ) → begun h v ≡ begun g v
  unfolding begun
  begun_by v =
      ap (λ (es : List ℕ). starting h v (users_starts h es) nowhere) (users_same g o)
      ∙ ap (λ (fs : List Fact). starting h v fs nowhere) (users_starts_same g o (user_entries g))
      ∙ starting_same g o same v (users_starts g (user_entries g)) nowhere
    where
      nowhere : Progress
      nowhere = record { lines = []; live = no_one; dead = no_one }

  bailed_by : (v : List ℕ) (taken : ℕ) (p : Progress) → bailed h v taken p ≡ bailed g v taken p
  unfolding bailed
  bailed_by v taken p =
      ap (λ (fs : List Fact). starting h v fs p) (bailouts_same g o (drop taken p.lines))
      ∙ starting_same g o same v (bailouts_starts g (drop taken p.lines)) p

  round_by : (v : List ℕ) (taken : ℕ) (p : Progress) → round h v taken p ≡ round g v taken p
  unfolding round
  round_by v taken p =
      ap (λ (es : List ℕ). tries h v es (bailed h v taken p)) (sorted_entries_same g o)
      ∙ ap (λ (q : Progress). tries h v (sorted_entries g) q) (bailed_by v taken p)
      ∙ tries_same g o same v (sorted_entries g) (bailed g v taken p)

  rounds_by : (v : List ℕ) (test : Progress → Progress → Bool) (fuel made taken : ℕ) (p : Progress)
      → rounds_from h v test fuel made taken p ≡ rounds_from g v test fuel made taken p
  unfolding rounds_from
  rounds_by v test zero made taken p = refl
  rounds_by v test (suc fuel) made taken p =
      let n = length p.lines in
      let q = round g v taken p in
      ap (λ (x : Progress).
      elim (test p x) as (λ y. Ended) [ true ↦ rounds_from h v test fuel (made + 1) n x | false ↦ ended_at (made + 1) n x ]) (round_by v taken p)
      ∙ ap (λ (x : Ended). elim (test p q) as (λ y. Ended) [ true ↦ x | false ↦ ended_at (made + 1) n q ]) (rounds_by v test fuel (made + 1) n q)

  -- by the last ones
  pub verdicts_same : last_verdicts h ≡ last_verdicts g
  verdicts_same = lasts_same g o g.entries

  pub begun_same : begun h (last_verdicts h) ≡ begun g (last_verdicts g)
  begun_same = ap (λ (v : List ℕ). begun h v) verdicts_same ∙ begun_by (last_verdicts g)

  pub round_same : (taken : ℕ) (p : Progress) → round h (last_verdicts h) taken p ≡ round g (last_verdicts g) taken p
  round_same taken p = ap (λ (v : List ℕ). round h v taken p) verdicts_same ∙ round_by (last_verdicts g) taken p

  pub sorted_same : sorted_entries h ≡ sorted_entries g
  sorted_same = sorted_entries_same g o

  pub rounds_same : (test : Progress → Progress → Bool) (fuel made taken : ℕ) (p : Progress)
      → rounds_from h (last_verdicts h) test fuel made taken p ≡ rounds_from g (last_verdicts g) test fuel made taken p
  rounds_same test fuel made taken p = ap (λ (v : List ℕ). rounds_from h v test fuel made taken p) verdicts_same ∙ rounds_by (last_verdicts g) test fuel made taken p

  -- the test by which rounds go on with bit 7 reads no options
  pub moved_same : (p q : Progress) → has_moved h p q ≡ has_moved g p q
  unfolding has_moved live_count
  moved_same p q = refl
