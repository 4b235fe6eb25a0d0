-- The runtime stage over the lines of the main part.
use Prim.Native.Nat.{ℕ, ◌+◌, ◌<◌}
use mathlib.Core.Path.{◌≡◌, ap, ◌∙◌}
use mathlib.Core.Bool.{Bool}
use mathlib.Core.List.{List}
use lib.ListN.{get_or}
use Rattle.determine_side_effects.specs.graph_crate.Check.{Graph}
use Rattle.determine_side_effects.specs.facts_crate.declared.Fact.{Fact}
use Rattle.determine_side_effects.specs.Effects.{last_verdicts}
use Rattle.keep_record.specs.Lines.{has}
use Rattle.keep_record.specs.Held.{lines_of}
use Rattle.keep_record.proofs.Rows.{lines-length}
use Rattle.marked.specs.Marked.{marked}
use Rattle.marked.proofs.ByLines.{marked_has}
use Rattle.entry_order.specs.Plan.{words_at, plan_size, Untouched}
use Rattle.entry_starts.specs.Working.{Working, Started}
use Rattle.passes.specs.Helpers.{helper_word, helper_union, runtime_starts}
use Rattle.tree_shaking.specs.Parts.{StageEnds}
use Rattle.std.specs.Prelude.{Result}
use Rattle.keep_record.specs.declared.Full.{Full}

-- the words of the helpers, by marks and by lines
module _ (g : Graph) (partners marks row : List ℕ) (count : ℕ) (w : Working g 0 partners marks row count) where
  by_lines : ◌≡◌ {A = Fact → Bool} (marked g marks) (has g 0 (lines_of count row))
  by_lines = marked_has g 0 marks row count w.held

  pub stage_ends : (plan₀ plan : List ℕ)
      → ((m : ℕ) → m < g.header.modules → (get_or plan (words_at g.header + m) 0 ≡ helper_word g (marked g marks) m) × (get_or plan (words_at g.header + m) 0 < 4294967296))
      → Untouched (words_at g.header) (plan_size g.header) plan₀ plan
      → (word : ℕ) → word ≡ helper_union g (marked g marks)
      → (partners' marks' row' : List ℕ) (r : Result ℕ Full) → Started g count (runtime_starts g (last_verdicts g) word) (lines_of count row) partners' marks' row' r
      → StageEnds g (lines_of count row) plan₀ partners' marks' row' plan r
  stage_ends plan₀ plan words others word is partners' marks' row' r s =
      let q : word ≡ helper_union g (has g 0 (lines_of count row)) = is ∙ ap (helper_union g) by_lines in
      record {
        started = rw (lines-length count row, ← q) s;
        words = λ m h. ((words m h).0 ∙ ap (λ (kept : Fact → Bool). helper_word g kept m) by_lines, (words m h).1);
        others = others;
      }
