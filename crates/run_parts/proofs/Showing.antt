-- What the rows that only a run has show.
use Prim.Native.Nat.{ℕ, ◌+◌}
use mathlib.Core.Path.{◌≡◌, refl, ap, ◌∙◌}
use mathlib.Core.Bool.{Bool}
use mathlib.Core.List.{List, ◌++◌}
use native.Mathlib.Omega.{arith}
use lib.ListN.{length, get_or, drop}
use Rattle.determine_side_effects.specs.graph_format_crate.declared.Header.{Header}
use Rattle.determine_side_effects.specs.graph_crate.Check.{Graph}
use Rattle.determine_side_effects.specs.graph_access_crate.Words.{tabulate}
use Rattle.keep_record.specs.declared.Line.{Line}
use Rattle.keep_record.specs.Lines.{has}
use Rattle.keep_record.specs.Held.{lines_of}
use Rattle.keep_record.proofs.Rows.{tabulate-same}
use Rattle.entry_order.specs.Plan.{live_in, dead_in, words_at}
use Rattle.dead_records.specs.Parts.{AfterStages}
use Rattle.passes.specs.Helpers.{helper_word}
use Rattle.tree_shaking.specs.declared.Reached.{Reached}
use Rattle.tree_shaking.specs.Rounds.{final_entries}
use Rattle.dead_records.specs.Dead.{dead_row}
use Rattle.run_rows.specs.Run.{run_of, helpers_row, entries_row}
use Rattle.run_parts.specs.declared.Part.TheVariants.{Whole}
use Rattle.run_parts.specs.Parts.{Holds, Shows, ScratchFits, RunShown}

-- lengths
pub still_fits : {h : Header} {a b : ℕ} → b ≡ a → ScratchFits h a → ScratchFits h b
still_fits e s = record { chain = omega (arith, e, s.chain); kept = omega (arith, e, s.kept) }

-- after both stages there is what these rows are shown from
pub shows_held : (g : Graph) (marks row plan : List ℕ) (x : Reached) → Holds g Whole marks row plan x → Shows g plan marks row x
shows_held g marks row plan x h = record { main_lines = h.main_lines; held = h.held; leaves = h.leaves; words = h.words refl }

-- what the row of dead records is shown from
pub after_stages : (g : Graph) (plan marks row : List ℕ) (x : Reached) → Shows g plan marks row x → AfterStages g plan marks row x.main x.total
after_stages g plan marks row x s = record { long = s.leaves.planned.long; cycles = s.leaves.planned.cycles; held = s.held }

module _ (g : Graph) (plan marks row : List ℕ) (x : Reached) (s : Shows g plan marks row x) where
  words_shown : tabulate (λ m. get_or plan (words_at g.header + m) 0) 0 g.header.modules ≡ tabulate (helper_word g (has g 0 (run_of g).main)) 0 g.header.modules
  words_shown =
      tabulate-same (λ m. get_or plan (words_at g.header + m) 0) (helper_word g (has g 0 (run_of g).main)) 0 g.header.modules
      (λ k h. let z : 0 + k ≡ k = omega arith in rw z (s.words k h).0)

  module _ (dead₀ helpers₀ entries₀ dead helpers entries : List ℕ) where
    dead-is : dead_row g (lines_of x.main row) (live_in g.header plan) (dead_in g.header plan) dead₀ ≡ dead_row g (run_of g).main (run_of g).live (run_of g).dead dead₀
    dead-is =
        ap (λ (ls : List Line). dead_row g ls (live_in g.header plan) (dead_in g.header plan) dead₀) s.main_lines
        ∙ ap (λ (live : ℕ → Bool). dead_row g (run_of g).main live (dead_in g.header plan) dead₀) s.leaves.live_are
        ∙ ap (λ (d : ℕ → Bool). dead_row g (run_of g).main (run_of g).live d dead₀) s.leaves.dead_are

    pub run-shown : dead ≡ dead_row g (lines_of x.main row) (live_in g.header plan) (dead_in g.header plan) dead₀
        → helpers ≡ tabulate (λ m. get_or plan (words_at g.header + m) 0) 0 g.header.modules ++ drop g.header.modules helpers₀
        → entries ≡ entries_row g (live_in g.header plan) entries₀
        → {n : ℕ} → n ≡ length (final_entries g (live_in g.header plan)) → RunShown g dead₀ helpers₀ entries₀ dead helpers entries n
    unfolding helpers_row
    run-shown a b c e =
        record {
          dead_shown = a ∙ dead-is;
          helpers_shown = b ∙ ap (λ words. words ++ drop g.header.modules helpers₀) words_shown;
          entries_shown = c ∙ ap (λ live. entries_row g live entries₀) s.leaves.live_are;
          counted = e ∙ ap (λ live. length (final_entries g live)) s.leaves.live_are;
        }
