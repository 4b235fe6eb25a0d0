-- The mark of a fact, by its kind: what the code computes, where `h` is the header.
use Prim.Native.Nat.{ℕ, ◌+◌, ◌*◌, ◌-◌, ◌<◌}
use mathlib.Core.Path.{◌≡◌}
use mathlib.Core.List.{List}
use native.Mathlib.Omega.{arith}
use lib.ListN.{length}
use Rattle.graph_access.specs.graph_format_crate.declared.Header.{Header}
use Rattle.graph_access.specs.graph_tables_crate.Tables.{header_in, first_of}
use Rattle.graph_access.specs.graph_crate.Check.{graph_in}
use Rattle.facts.specs.declared.Fact.{Fact}
use Rattle.graph_access.specs.Words.{statement_list}
use Rattle.facts.specs.Facts.{module_fact, statement_fact, use_fact, checked_fact, forward_fact, bailout_fact, Good, mark_of, mark_count}
use Rattle.graph_access.specs.graph_crate.Loaded.{Loaded}
use Rattle.graph_access.proofs.Indexes.{statement_number_below}

module _ {numbers tables : List ℕ} (t : Loaded numbers tables) where
  -- a mark by the header that was read
  abbrev pub Marked : Fact → ℕ → Type 0
  Marked f x = (x ≡ mark_of (graph_in numbers) f) × (x < mark_count (graph_in numbers))

  module _ (h : Header) (e : h ≡ header_in numbers) where
    pub count_is : 2 * h.modules + h.statements + 63 * h.symbols ≡ mark_count (graph_in numbers)
    unfolding graph_in mark_count
    count_is = rw e

    module _ (f : Fact) (good : Good (graph_in numbers) f) where
      pub good_module : (m : ℕ) → f ≡ module_fact m → m < h.modules
      unfolding graph_in
      good_module m is = rw e (rw is at good).0

      pub good_bailout : (m : ℕ) → f ≡ bailout_fact m → m < h.modules
      unfolding graph_in
      good_bailout m is = rw e (rw is at good)

      pub good_forward : (s : ℕ) → f ≡ forward_fact s → s < h.symbols
      unfolding graph_in
      good_forward s is = rw e (rw is at good)

      pub good_use : (s x : ℕ) → f ≡ use_fact s x → (s < h.symbols) × (0 < x) × (x < 32)
      unfolding graph_in
      good_use s x is = rw e (rw is at good)

      pub good_checked : (s x : ℕ) → f ≡ checked_fact s x → (s < h.symbols) × (0 < x) × (x < 32)
      unfolding graph_in
      good_checked s x is = rw e (rw is at good)

      pub good_statement : (m i : ℕ) → f ≡ statement_fact m i → (m < (header_in numbers).modules) × (i < length (statement_list (graph_in numbers) m))
      unfolding graph_in
      good_statement m i is = rw is at good

      -- n is the statement's number among those of all modules
      pub good-number : (m i n : ℕ) → f ≡ statement_fact m i → n ≡ first_of (graph_in numbers).modules m + i → n < h.statements
      good-number m i n is number = let g = good_statement m i is in rw (e, number) (statement_number_below t m i g.0 g.1)

      pub module_mark : (m : ℕ) → f ≡ module_fact m → Marked f m
      unfolding mark_of
      module_mark m is = (rw is, omega (arith, count_is, good_module m is))

      pub bailout-mark : (m : ℕ) → f ≡ bailout_fact m → Marked f (h.modules + m)
      unfolding mark_of graph_in
      bailout-mark m is = (rw (e, is), omega (arith, count_is, good_bailout m is))

      pub statement-mark : (m i n : ℕ) → f ≡ statement_fact m i → n ≡ first_of (graph_in numbers).modules m + i → Marked f (2 * h.modules + n)
      unfolding mark_of graph_in
      statement-mark m i n is number = (rw (e, is, number), omega (arith, count_is, good-number m i n is number))

      pub forward-mark : (s : ℕ) → f ≡ forward_fact s → Marked f (2 * h.modules + h.statements + s)
      unfolding mark_of graph_in
      forward-mark s is = (rw (e, is), omega (arith, count_is, good_forward s is))

      pub use-mark : (s x : ℕ) → f ≡ use_fact s x → Marked f (2 * h.modules + h.statements + h.symbols + (31 * s + x - 1))
      unfolding mark_of graph_in
      use-mark s x is = let g = good_use s x is in (rw (e, is), omega (arith, count_is, g.0, g.1, g.2))

      pub checked-mark : (s x : ℕ) → f ≡ checked_fact s x → Marked f (2 * h.modules + h.statements + 32 * h.symbols + (31 * s + x - 1))
      unfolding mark_of graph_in
      checked-mark s x is = let g = good_checked s x is in (rw (e, is), omega (arith, count_is, g.0, g.1, g.2))
