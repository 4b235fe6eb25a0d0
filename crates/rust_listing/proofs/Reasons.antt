-- The byte of a module's namespace reasons: its value, since no fact shows one of its six upper bits.
use Prim.Native.Nat.{ℕ, ◌+◌, ◌*◌, ◌%◌, ◌<◌, ◌≤◌}
use mathlib.Core.Path.{◌≡◌, refl, ap, ◌∙◌, sym, subst}
use mathlib.Core.Bool.{Bool, true, false, not-eq-not}
use mathlib.Core.List.{List, [], ◌++◌}
use native.Mathlib.Omega.{arith}
use lib.ListN.{get_or, drop, get_or-append}
use Rattle.bit_row.specs.Row.{bit_at}
use Rattle.determine_side_effects.specs.graph_crate.Check.{Graph, graph_in, check_of, answer_of}
use Rattle.determine_side_effects.specs.facts_crate.declared.Fact.{Fact}
use Rattle.determine_side_effects.specs.facts_crate.Facts.{Good}
use Rattle.linking_metadata.specs.Namespaces.{target_of}
use Rattle.keep_record.specs.declared.Line.{Line}
use Rattle.worklist.specs.Drain.{fact_at}
use Rattle.answer_rows.specs.declared.Row.TheVariants.{NamespaceReason}
use Rattle.answer_rows.specs.Shown.{row_bytes, shown, bit_value, byte_of, bytes_of, shown_row}
use Rattle.answer_rows.proofs.InRow.{target_below}
use Rattle.answer_rows.proofs.Tabulated.{get_d_tabulate}
use Rattle.run_rows.specs.Run.{with_runtime, run_of}
use Rattle.closed_choices.specs.Choice.{HasLine}
use Rattle.closed_choices.proofs.Every.{every_at}
use Rattle.closed_choices.proofs.Handling.{no_line}
use Rattle.closed_choices.proofs.Showing.{bytes_long, row_shows, rows_show}
use Rattle.closed_choices.proofs.Spare.{spare_unshown}
use Rattle.run_choices.proofs.Growing.{main_whole}
use Rattle.rust_run.proofs.Level.{loaded}
use Rattle.rust_listing.specs.Listing.{one_if}
use Rattle.std.specs.Prelude.{Ok}

-- a byte of which only the two lowest bits may be set
two_bits : (a b : Bool)
    → bit_value a 0 + bit_value b 1 + bit_value false 2 + bit_value false 3 + bit_value false 4 + bit_value false 5 + bit_value false 6 + bit_value false 7 ≡ one_if a + 2 * one_if b
unfolding bit_value one_if
two_bits true true = refl
two_bits true false = refl
two_bits false true = refl
two_bits false false = refl

byte_of_two : (p : ℕ → Bool) (m : ℕ) → ((k : ℕ) → 2 ≤ k → k < 8 → p (8 * m + k) ≡ false) → byte_of p m ≡ one_if (p (8 * m)) + 2 * one_if (p (8 * m + 1))
unfolding byte_of
byte_of_two p m none =
    rw (none 2 (omega arith) (omega arith), none 3 (omega arith) (omega arith), none 4 (omega arith) (omega arith), none 5 (omega arith) (omega arith), none 6 (omega arith) (omega arith), none 7 (omega arith) (omega arith))
    (two_bits (p (8 * m)) (p (8 * m + 1)))

-- a byte of a row that an answer has filled
byte_there : (p : ℕ → Bool) (n : ℕ) (rest : List ℕ) (m : ℕ) → m < n → get_or (bytes_of p n ++ rest) m 0 ≡ byte_of p m
unfolding bytes_of
byte_there p n rest m l =
    let z : 0 + m ≡ m = omega arith in
    get_or-append (bytes_of p n) rest 0 m (omega (arith, l, bytes_long p n)) ∙ get_d_tabulate (byte_of p) 0 n m 0 l ∙ ap (byte_of p) z

reason_there : (g : Graph) (lines : List Line) (lent : List ℕ) (m : ℕ) → m < g.header.modules → get_or (shown_row g NamespaceReason lines lent) m 0 ≡ byte_of (shown g NamespaceReason lines) m
unfolding shown_row row_bytes
reason_there g lines lent m l = byte_there (shown g NamespaceReason lines) g.header.modules (drop g.header.modules lent) m l

module _ (numbers : List ℕ) (ok : answer_of (check_of numbers) ≡ Ok tt) where
  abbrev g : Graph
  g = graph_in numbers

  abbrev main : List Line
  main = (run_of (graph_in numbers)).main

  -- the facts of the main part's lines are good
  main_good : (f : Fact) → HasLine main f → Good g f
  unfolding run_of with_runtime fact_at
  main_good f h =
      subst (λ (x : Fact). Good g x) h.is
      (every_at (λ l. Good g l.fact) main no_line (main_whole (loaded numbers ok)).sound.good h.number h.inside)

  targets : (s : ℕ) → s < g.header.symbols → target_of g s < g.header.symbols
  unfolding graph_in
  targets s l = target_below (loaded numbers ok) s l

  upper_clear : (m k : ℕ) → m < g.header.modules → 2 ≤ k → k < 8 → shown g NamespaceReason main (8 * m + k) ≡ false
  unfolding row_bytes
  upper_clear m k l u w =
      let j = 8 * m + k in
      let i : j < 8 * row_bytes g NamespaceReason = omega (arith, l, w) in
      let s : 2 ≤ j % 8 = omega (arith, u, w) in
      (not-eq-not {b = false}).0
      (λ e. let p = (rows_show g NamespaceReason main []).set-by j i (row_shows g NamespaceReason main [] j i ∙ e) in
      spare_unshown g targets NamespaceReason p.0 j (main_good p.0 p.1) s p.2)

  bit_is : (lent : List ℕ) (m k : ℕ) → m < g.header.modules → k < 8 → shown g NamespaceReason main (8 * m + k) ≡ bit_at (shown_row g NamespaceReason main lent) (8 * m + k)
  unfolding row_bytes
  bit_is lent m k l w = sym (row_shows g NamespaceReason main lent (8 * m + k) (omega (arith, l, w)))

  pub reason_value : (lent : List ℕ) (m : ℕ) → m < g.header.modules
      → get_or (shown_row g NamespaceReason main lent) m 0 ≡ one_if (bit_at (shown_row g NamespaceReason main lent) (8 * m)) + 2 * one_if (bit_at (shown_row g NamespaceReason main lent) (8 * m + 1))
  reason_value lent m l =
      let z : 8 * m + 0 ≡ 8 * m = omega arith in
      reason_there g main lent m l
      ∙ byte_of_two (shown g NamespaceReason main) m (λ k u w. upper_clear m k l u w)
      ∙ (λ i. one_if ((rw z at (bit_is lent m 0 l (omega arith))) i) + 2 * one_if (bit_is lent m 1 l (omega arith) i))
