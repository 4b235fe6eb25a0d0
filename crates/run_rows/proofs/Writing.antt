-- The words of helpers that are written.
use Prim.Native.Nat.{ℕ, ◌+◌, ◌*◌}
use mathlib.Core.Path.{◌≡◌, ap, ◌∙◌}
use mathlib.Core.List.{List, ◌++◌}
use lib.ListN.{get_or, drop}
use Rattle.determine_side_effects.specs.graph_format_crate.declared.Header.{Header}
use Rattle.determine_side_effects.specs.graph_tables_crate.Tables.{header_in}
use Rattle.determine_side_effects.specs.graph_access_crate.Words.{tabulate}
use Rattle.entry_order.specs.Plan.{words_at}

-- a word of helpers is where the code reads it
pub word_at : (numbers : List ℕ) (h : Header) → h ≡ header_in numbers → (plan : List ℕ) (m : ℕ)
    → get_or plan (2 * h.entries + 2 * h.modules + m) 0 ≡ get_or plan (words_at (header_in numbers) + m) 0
word_at numbers h e plan m = ap (λ (x : Header). get_or plan (2 * x.entries + 2 * x.modules + m) 0) e

-- words written up to the last
pub words_done : (f : ℕ → ℕ) (lent row : List ℕ) (m n : ℕ) → row ≡ tabulate f 0 m ++ drop m lent → m ≡ n → row ≡ tabulate f 0 n ++ drop n lent
words_done f lent row m n e q = e ∙ ap (λ k. tabulate f 0 k ++ drop k lent) q
