-- A whole run over an accepted graph: both stages, and what its rows show.
use Rattle.std.specs.Prelude.{ℕ, Bool, List, ◌++◌, length, drop}
use Rattle.determine_side_effects.specs.graph_crate.Check.{Graph}
use Rattle.determine_side_effects.specs.graph_access_crate.Words.{tabulate}
use Rattle.determine_side_effects.specs.Effects.{last_verdicts}
use Rattle.keep_record.specs.declared.Line.{Line}
use Rattle.keep_record.specs.Lines.{has}
use Rattle.passes.specs.Helpers.{helper_word, helper_union}
use Rattle.tree_shaking.specs.Rounds.{Ended, main_part, final_entries, runtime_stage}

-- how many rounds there were, how many lines when the last one began, the lines of the main part, those with the lines of the runtime stage behind
-- them, and which entries were live or found dead
pub record Run : Type 0 where
  pub rounds : ℕ
  pub taken : ℕ
  pub main : List Line
  pub lines : List Line
  pub live : ℕ → Bool
  pub dead : ℕ → Bool

-- the runtime stage behind a main part, with the union of the helpers that it needs
unfoldable pub with_runtime : Graph → List ℕ → Ended → Run
with_runtime g v e =
    record {
      rounds = e.rounds;
      taken = e.taken;
      main = e.end.lines;
      lines = runtime_stage g v e.end.lines (helper_union g (has g 0 e.end.lines));
      live = e.end.live;
      dead = e.end.dead;
    }

unfoldable pub run_of : Graph → Run
run_of g = with_runtime g (last_verdicts g) (main_part g (last_verdicts g))

-- Two of the rows that a drain does not have, after an answer: helper words by module, final entries by graph index. What is behind them is as
-- lent. The third, of dead import records, is `dead_row` in `dead_records`.
unfoldable pub helpers_row : Graph → List Line → List ℕ → List ℕ
helpers_row g main lent = tabulate (helper_word g (has g 0 main)) 0 g.header.modules ++ drop g.header.modules lent

unfoldable pub entries_row : Graph → (ℕ → Bool) → List ℕ → List ℕ
entries_row g live lent = final_entries g live ++ drop (length (final_entries g live)) lent
