-- What the live modules of a plan start, from one module on.
use Prim.Native.Nat.{ℕ, suc, ◌+◌, ◌-◌, ◌<◌, ◌≤◌}
use mathlib.Core.Path.{◌≡◌, refl, ap, ◌∙◌, sym}
use mathlib.Core.Bool.{Bool, true, false, ◌&&◌}
use mathlib.Core.List.{List, [], ◌++◌}
use native.Mathlib.Omega.{arith}
use borrow.Author.Tests.{lt-ltb, ne_eqb}
use lib.Dec.{ltb}
use lib.ListN.{get_or}
use Rattle.facts.specs.graph_format_crate.declared.Header.{Header}
use Rattle.facts.specs.graph_crate.Check.{Graph}
use Rattle.facts.specs.declared.Fact.{Fact}
use Rattle.entry_order.specs.Plan.{is_set, live_in}
use Rattle.entry_starts.specs.Starts.{module_starts}
use Rattle.tree_shaking.specs.Own.{live_starts}

unfoldable pub lives_from : Graph → Header → List ℕ → ℕ → List Fact
lives_from g h plan m = live_starts g (live_in h plan) m (h.modules - m)

pub modules_same : {a h : Header} → a ≡ h → a.modules ≡ h.modules
modules_same e = ap (λ (x : Header). x.modules) e

pub entries_same : {a h : Header} → a ≡ h → a.entries ≡ h.entries
entries_same e = ap (λ (x : Header). x.entries) e

module _ (h : Header) (plan : List ℕ) (m : ℕ) where
  live_by_word : m < h.modules → get_or plan (h.entries + m) 0 ≡ 1 → live_in h plan m ≡ true
  unfolding live_in is_set
  live_by_word l e = rw (lt-ltb m h.modules l, e)

  unlive_by_word : (get_or plan (h.entries + m) 0 ≡ 1 → ⊥) → live_in h plan m ≡ false
  unfolding live_in is_set
  unlive_by_word n = rw (ne_eqb (get_or plan (h.entries + m) 0) 1 n) (go (ltb m h.modules))
    where
      go : (b : Bool) → (b && false) ≡ false
      go true = refl
      go false = refl

module _ (g : Graph) (h : Header) (plan : List ℕ) where
  pub lives_all : lives_from g h plan 0 ≡ live_starts g (live_in h plan) 0 h.modules
  unfolding lives_from
  lives_all = let q : h.modules - 0 ≡ h.modules = omega arith in ap (λ (n : ℕ). live_starts g (live_in h plan) 0 n) q

  -- by the words of the header that was read
  module _ (a : Header) (is : a ≡ h) (m : ℕ) where
    pub lives-over : a.modules ≤ m → lives_from g h plan m ≡ []
    unfolding lives_from live_starts
    lives-over l = let q : h.modules - m ≡ 0 = omega (arith, modules_same is) in rw q

    module _ (l : m < a.modules) where
      more : h.modules - m ≡ suc (h.modules - (m + 1))
      more = omega (arith, modules_same is)

      inside : m < h.modules
      inside = omega (arith, modules_same is)

      place : get_or plan (h.entries + m) 0 ≡ get_or plan (a.entries + m) 0
      place = rw (entries_same is)

      pub lives-here : get_or plan (a.entries + m) 0 ≡ 1 → lives_from g h plan m ≡ module_starts g m ++ lives_from g h plan (m + 1)
      unfolding lives_from live_starts
      lives-here w = rw (more, live_by_word h plan m inside (place ∙ w), live_starts)

      pub lives-other : (get_or plan (a.entries + m) 0 ≡ 1 → ⊥) → lives_from g h plan m ≡ lives_from g h plan (m + 1)
      unfolding lives_from live_starts
      lives-other w = rw (more, unlive_by_word h plan m (λ e. w (sym place ∙ e)), live_starts)
