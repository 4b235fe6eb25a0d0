-- The marks of the starts, one after another.
use Prim.Native.Nat.{ℕ, ◌+◌, ◌*◌, ◌/◌, ◌<◌, ◌≤◌}
use mathlib.Core.Path.{◌≡◌, ap, ◌∙◌, sym}
use mathlib.Core.Bool.{false}
use mathlib.Core.List.{List, [], ◌∷◌, ◌++◌}
use native.Mathlib.Numerals.{add-one}
use native.Mathlib.Omega.{arith}
use lib.Seq.{take-suc, take_all}
use lib.ListN.{length, get_or, take}
use Rattle.bit_row.specs.Row.{bit_at}
use Rattle.determine_side_effects.specs.graph_format_crate.declared.Header.{Header}
use Rattle.determine_side_effects.specs.graph_tables_crate.Tables.{header_in}
use Rattle.determine_side_effects.specs.graph_crate.Check.{Graph, graph_in}
use Rattle.determine_side_effects.specs.facts_crate.declared.Fact.{Fact}
use Rattle.determine_side_effects.specs.facts_crate.Facts.{fact_of, module_fact, mark_count}
use Rattle.keep_record.specs.Lines.{elem}
use Rattle.starts.specs.Starts.{starts_of}
use Rattle.fact_marks.specs.Marks.{Marks, MarksOne}
use Rattle.completeness.proofs.Walks.{starts-length, start_is}

module _ (g : Graph) (starts : List ℕ) (i : ℕ) (row : List ℕ) (m : Marks g (take i (starts_of starts)) row) where
  pub mark_turn : i < length starts / 3 → (f : Fact) → f ≡ fact_of (get_or starts (3 * i) 0) (get_or starts (3 * i + 1) 0) (get_or starts (3 * i + 2) 0) → (after : List ℕ) → MarksOne g f row after
      → Marks g (take (i + 1) (starts_of starts)) after
  mark_turn h f is after one =
      let l : i < length (starts_of starts) = omega (arith, h, starts-length starts) in
      let e : take i (starts_of starts) ++ (f ∷ []) ≡ take (i + 1) (starts_of starts) =
      ap (λ x. take i (starts_of starts) ++ (x ∷ [])) (start_is starts i h f is) ∙ sym (take-suc (starts_of starts) i (module_fact 0) l) ∙ ap (λ j. take j (starts_of starts)) (sym (add-one i)) in
      rw e at (one.on (take i (starts_of starts)) m)

  pub mark_end : length starts / 3 ≤ i → Marks g (starts_of starts) row
  mark_end h = let l : length (starts_of starts) ≤ i = omega (arith, h, starts-length starts) in rw (take_all i (starts_of starts) l) at m

-- a cleared row holds no fact
pub no_marks : (numbers : List ℕ) (h : Header) → h ≡ header_in numbers → (row : List ℕ) → 2 * h.modules + h.statements + 63 * h.symbols ≤ 8 * length row
    → ((j : ℕ) → bit_at row j ≡ false) → Marks (graph_in numbers) [] row
unfolding mark_count graph_in elem
no_marks numbers h is row wide clear = record { wide = rw is at wide; marked = clear }
