-- Tries of dynamic entries read the options through drains alone.
use Prim.Native.Nat.{ℕ, ◌<◌}
use mathlib.Core.Path.{◌≡◌, refl, ap, ◌∙◌}
use mathlib.Core.Bool.{Bool, true, false, ◌||◌}
use mathlib.Core.List.{List, [], ◌∷◌}
use Rattle.determine_side_effects.specs.graph_crate.Check.{Graph}
use Rattle.determine_side_effects.specs.graph_access_crate.Words.{module_of, option, entry_of}
use Rattle.determine_side_effects.specs.facts_crate.declared.Fact.{Fact}
use Rattle.keep_record.specs.declared.Line.{Line}
use Rattle.keep_record.specs.Lines.{has}
use Rattle.entry_order.specs.Order.{module_of_entry}
use Rattle.entry_starts.specs.Starts.{module_starts}
use Rattle.dynamic_entries.specs.Sorted.{on_cycle}
use Rattle.dynamic_entries.specs.Alive.{record_of, is_pure, uses_no_export, lets_live, is_alive}
use Rattle.dynamic_entries.specs.Tries.{Progress, starting, lives, now_live, now_dead, tried, tries}
use Rattle.other_options.specs.Options.{with_options}
use Rattle.other_options.proofs.Changed.{module_starts_same}
use Rattle.other_options.proofs.Draining.{has_same, drained_all_same}
use Rattle.other_options.proofs.Ordering.{cycle_same}

-- whether an entry is live reads no options
module _ (g : Graph) (o : ℕ) where
  abbrev h : Graph
  h = with_options g o

  alive_same : (v : List ℕ) (kept : Fact → Bool) (e : ℕ) → is_alive h v kept e ≡ is_alive g v kept e
  unfolding is_alive lets_live uses_no_export is_pure record_of module_of_entry module_of entry_of
  alive_same v kept e = refl

  lives_same : (v : List ℕ) (p : Progress) (e : ℕ) → lives h v p e ≡ lives g v p e
  unfolding lives module_of_entry entry_of
  lives_same v p e =
      let m = module_of_entry g e in
      let kept : has h 0 p.lines ≡ has g 0 p.lines = λ j f. has_same g o 0 p.lines f j in
      ap (λ (b : Bool). b || is_alive h v (has h 0 p.lines) e) (cycle_same g o m)
      ∙ ap (λ (test : Fact → Bool). on_cycle g m || is_alive h v test e) kept
      ∙ ap (λ (b : Bool). on_cycle g m || b) (alive_same v (has g 0 p.lines) e)

module _ (g : Graph) (o : ℕ) (same : (j : ℕ) → j < 6 → option (with_options g o) j ≡ option g j) where
  abbrev other : Graph
  other = with_options g o

  pub starting_same : (v : List ℕ) (fs : List Fact) (p : Progress) → starting other v fs p ≡ starting g v fs p
  unfolding starting
  starting_same v fs p = ap (λ (ls : List Line). withLines ls) (drained_all_same g o same v 0 fs p.lines)
    where
      withLines : List Line → Progress
      withLines ls = record { lines = ls; live = p.live; dead = p.dead }

  live_same : (v : List ℕ) (e : ℕ) (p : Progress)
      → starting other v (module_starts other (module_of_entry g e)) (now_live g e p) ≡ starting g v (module_starts g (module_of_entry g e)) (now_live g e p)
  live_same v e p =
      ap (λ (fs : List Fact). starting other v fs (now_live g e p)) (module_starts_same g o g.entries (module_of_entry g e))
      ∙ starting_same v (module_starts g (module_of_entry g e)) (now_live g e p)

  tried_same : (v : List ℕ) (e : ℕ) (p : Progress) → tried other v e p ≡ tried g v e p
  unfolding tried now_live module_of_entry entry_of
  tried_same v e p =
      let m = module_of_entry g e in
      let there = starting other v (module_starts other m) (now_live g e p) in
      ap (λ (b : Bool).
      elim (p.live m) as (λ x. Progress) [ true ↦ p | false ↦ elim b as (λ x. Progress) [ true ↦ there | false ↦ now_dead e p ] ]) (lives_same g o v p e)
      ∙ ap (λ (q : Progress).
      elim (p.live m) as (λ x. Progress) [ true ↦ p | false ↦ elim (lives g v p e) as (λ x. Progress) [ true ↦ q | false ↦ now_dead e p ] ]) (live_same v e p)

  pub tries_same : (v : List ℕ) (es : List ℕ) (p : Progress) → tries other v es p ≡ tries g v es p
  unfolding tries
  tries_same v [] p = refl
  tries_same v (e ∷ es) p = ap (λ (q : Progress). tries other v es q) (tried_same v e p) ∙ tries_same v es (tried g v e p)
