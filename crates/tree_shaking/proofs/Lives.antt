-- How many modules are live, and whether a further round follows.
use Prim.Native.Nat.{ℕ, ◌+◌, ◌-◌, ◌<◌, ◌≤◌}
use mathlib.Core.Path.{◌≡◌, refl, ap, ◌∙◌, sym}
use mathlib.Core.Bool.{Bool, true, false}
use mathlib.Core.List.{List}
use native.Mathlib.Omega.{arith}
use borrow.Author.Tests.{eq-eqb, ne_eqb, lt-ltb, le-ltb}
use lib.Dec.{ltb}
use lib.ListN.{length, get_or}
use Rattle.determine_side_effects.specs.graph_crate.Check.{Graph}
use Rattle.determine_side_effects.specs.graph_access_crate.Words.{tabulate, option}
use Rattle.entry_order.specs.Order.{those}
use Rattle.entry_order.specs.Plan.{is_set, live_in}
use Rattle.entry_order.proofs.Those.{those_here, those_not}
use Rattle.cycles.proofs.Steps.{tabulate-first, tabulate_over}
use Rattle.dynamic_entries.specs.Tries.{Progress}
use Rattle.tree_shaking.specs.Rounds.{kept_module, live_count, keeps_module, has_moved, goes_on}
use Rattle.tree_shaking.specs.Parts.{TellsFurther}

module _ (g : Graph) (plan : List ℕ) where
  abbrev M : ℕ
  M = g.header.modules

  abbrev live : ℕ → Bool
  live = live_in g.header plan

  -- those from module m on
  unfoldable pub from : ℕ → List ℕ
  from m = tabulate (λ x. x) m (M - m)

  pub record Counted (m n : ℕ) : Type 0 where
    pub within : m ≤ M
    pub few : n ≤ m
    pub on : n + length (those live (from m)) ≡ live_count g live

  pub count_start : Counted 0 0
  unfolding from live_count
  count_start = let e : M - 0 ≡ M = omega arith in record { within = omega arith; few = omega arith; on = rw e (omega arith) }

  pub count_end : (m n : ℕ) → M ≤ m → Counted m n → n ≡ live_count g live
  unfolding from those
  count_end m n h c = let e = ap (λ (l : List ℕ). length (those live l)) (tabulate_over (λ x. x) m M h) in let o = c.on in omega (arith, e, o)

  pub count_here : (m n : ℕ) → m < M → get_or plan (g.header.entries + m) 0 ≡ 1 → Counted m n → Counted (m + 1) (n + 1)
  unfolding from live_in is_set
  count_here m n h e c =
      let l : live m ≡ true = rw (lt-ltb m M h, eq-eqb (get_or plan (g.header.entries + m) 0) 1 e) refl in
      let s = ap (λ (l : List ℕ). length (those live l)) (tabulate-first (λ x. x) m M h) in
      let t = ap (λ (l : List ℕ). length l) (those_here live m (from (m + 1)) l) in
      let o = c.on in
      record { within = omega (arith, h); few = omega (arith, c.few); on = omega (arith, s, t, o) }

  pub count_not : (m n : ℕ) → m < M → (get_or plan (g.header.entries + m) 0 ≡ 1 → ⊥) → Counted m n → Counted (m + 1) n
  unfolding from live_in is_set
  count_not m n h e c =
      let l : live m ≡ false = rw (lt-ltb m M h, ne_eqb (get_or plan (g.header.entries + m) 0) 1 e) refl in
      let s = ap (λ (l : List ℕ). length (those live l)) (tabulate-first (λ x. x) m M h) in
      let t = ap (λ (l : List ℕ). length l) (those_not live m (from (m + 1)) l) in
      let o = c.on in
      record { within = omega (arith, h); few = omega (arith, c.few); on = omega (arith, s, t, o) }

-- whether a further round follows, by the option
module _ (g : Graph) (from live : ℕ) (q : Progress) where
  pub by_modules : (o b : Bool) → o ≡ option g 7 → o ≡ false → b ≡ kept_module from q.lines → TellsFurther g from live q b
  unfolding goes_on keeps_module
  by_modules o b e f h p l c = let x : option g 7 ≡ false = sym e ∙ f in rw (x, goes_on, l) h

  pub by_lines : (o : Bool) → o ≡ option g 7 → o ≡ true → from < length q.lines → TellsFurther g from live q true
  unfolding goes_on has_moved
  by_lines o e f h p l c = let x : option g 7 ≡ true = sym e ∙ f in rw (x, goes_on, l, lt-ltb from (length q.lines) h) refl

  pub by_live : (o b : Bool) → o ≡ option g 7 → o ≡ true → length q.lines ≤ from → b ≡ ltb live (live_count g q.live) → TellsFurther g from live q b
  unfolding goes_on has_moved
  by_live o b e f h i p l c = let x : option g 7 ≡ true = sym e ∙ f in rw (x, goes_on, l, le-ltb from (length q.lines) h, ← (c x)) i
