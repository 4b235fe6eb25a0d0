-- What is known of a drain, a run and a run's own starts at the C boundary, where they are not refused: the graph and the run are those of the numbers,
-- and the answer's counts are theirs.
use Prim.Native.Nat.{ℕ, ◌*◌}
use mathlib.Core.Path.{◌≡◌, ap, ◌∙◌, sym, subst}
use mathlib.Core.List.{List}
use lib.ListN.{length}
use Rattle.determine_side_effects.specs.graph_crate.Check.{Graph, graph_in, check_of, answer_of}
use Rattle.keep_record.specs.declared.Line.{Line}
use Rattle.drain_parts.specs.Operation as drain
use Rattle.tree_shaking.specs.Rounds.{final_entries}
use Rattle.run_rows.specs.Run.{Run, run_of}
use Rattle.run_parts.specs.declared.Totals.{Totals}
use Rattle.run_parts.specs.Operation as run
use Rattle.run_choices.proofs.Done.{run_done}
use Rattle.run_starts.specs.Operation as starts
use Rattle.judged_starts.proofs.Done.{starts_done}
use Rattle.answers.specs.declared.DrainAnswer.{DrainAnswer}
use Rattle.answers.specs.declared.ReadAnswer.{ReadAnswer}
use Rattle.answers.specs.declared.RunAnswer.{RunAnswer}
use Rattle.answers.specs.Answers.{drain_answer_of, run_answer_of, starts_answer_of}
use Rattle.host.specs.Operations.{KeepDrain, KeepRun, KeepStarts}
use Rattle.host_answers.proofs.Outcomes.{drains_of, runs_of, starts_of}
use Rattle.host_answers.proofs.NotRefused.{drain_not_refused, run_not_refused, starts_not_refused}
use Rattle.std.specs.Prelude.{Result, Ok}
use Rattle.determine_side_effects.specs.refusal_crate.declared.Refusal.{Refusal}

-- a drain
pub record DrainKept (numbers given : List ℕ) (a : DrainAnswer) (lent after : drain.Rows) : Type 0 where
  pub graph : Graph
  pub lines : List Line
  pub is_done : drain.outcome_of numbers given (drain.rooms_of lent) ≡ drain.done graph lines
  pub lines_are : a.lines ≡ length lines
  pub record_is : after.lines ≡ drain.record_after (drain.done graph lines) lent.lines

lines_back : (a : DrainAnswer) (g : Graph) (lines : List Line) → a ≡ drain_answer_of (drain.answered (drain.done g lines)) → a.lines ≡ length lines
unfolding drain.answered drain_answer_of
lines_back a g lines e = ap (λ (x : DrainAnswer). x.lines) e

pub drain_kept : (numbers given : List ℕ) (a : DrainAnswer) (lent after : drain.Rows) → KeepDrain numbers given a lent after → a.number ≡ 0 → DrainKept numbers given a lent after
drain_kept numbers given a lent after k z =
    let out = drain.outcome_of numbers given (drain.rooms_of lent) in
    let w = drain_not_refused out (drains_of numbers given (drain.rooms_of lent)) (sym (ap (λ (x : DrainAnswer). x.number) k.answers) ∙ z) in
    record {
      graph = w.0;
      lines = w.1;
      is_done = w.2;
      lines_are = lines_back a w.0 w.1 (k.answers ∙ ap (λ y. drain_answer_of (drain.answered y)) w.2);
      record_is = k.leaves.record_is ∙ ap (λ y. drain.record_after y lent.lines) w.2;
    }

-- a run
abbrev pub totals_in : RunAnswer → Totals
totals_in a = record { rounds = a.rounds; lines = a.lines; runtime_lines = a.runtime_lines; entries = a.entries }

pub record RunKept (numbers : List ℕ) (a : RunAnswer) (lent after : run.Rows) : Type 0 where
  pub accepted : answer_of (check_of numbers) ≡ Ok tt
  pub is_done : run.outcome_of numbers (run.rooms_of lent) ≡ run.done (graph_in numbers) (run_of (graph_in numbers))
  pub lines_are : a.lines ≡ length (run_of (graph_in numbers)).main
  pub entries_are : a.entries ≡ length (final_entries (graph_in numbers) (run_of (graph_in numbers)).live)
  pub record_is : after.lines ≡ run.record_after (run.done (graph_in numbers) (run_of (graph_in numbers))) lent.lines
  pub runs : run.Runs numbers (Ok (totals_in a)) lent after

-- the answer of a run that is done, as the boundary gives it
answer_back : (a : RunAnswer) (g : Graph) (r : Run) → a ≡ run_answer_of (run.answered (run.done g r))
    → (run.answered (run.done g r) ≡ Ok (totals_in a)) × (a.lines ≡ length r.main) × (a.entries ≡ length (final_entries g r.live))
unfolding run.answered run_answer_of
answer_back a g r e = (ap (λ (x : RunAnswer). Ok (totals_in x)) (sym e), ap (λ (x : RunAnswer). x.lines) e, ap (λ (x : RunAnswer). x.entries) e)

pub run_kept : (numbers : List ℕ) (a : RunAnswer) (lent after : run.Rows) → KeepRun numbers a lent after → a.number ≡ 0 → RunKept numbers a lent after
run_kept numbers a lent after k z =
    let out = run.outcome_of numbers (run.rooms_of lent) in
    let w = run_not_refused out (runs_of numbers (run.rooms_of lent)) (sym (ap (λ (x : RunAnswer). x.number) k.answers) ∙ z) in
    let d = run_done numbers (run.rooms_of lent) w.0 w.1 w.2 in
    let g = graph_in numbers in
    let s : run.done w.0 w.1 ≡ run.done g (run_of g) = ap (λ h. run.done h w.1) d.graph_is ∙ ap (λ (y : Run). run.done g y) d.run_is in
    let e : out ≡ run.done g (run_of g) = w.2 ∙ s in
    let b = answer_back a g (run_of g) (k.answers ∙ ap (λ y. run_answer_of (run.answered y)) e) in
    record {
      accepted = d.accepted;
      is_done = e;
      lines_are = b.1;
      entries_are = b.2;
      record_is = k.leaves.record_is ∙ ap (λ y. run.record_after y lent.lines) e;
      runs = subst (λ (y : Result Totals Refusal). run.Ends out y lent after) (ap run.answered e ∙ b.0) k.leaves;
    }

-- a run's own starts
pub record StartsKept (numbers : List ℕ) (b : ReadAnswer) (lent after : starts.Rows) : Type 0 where
  pub is_done : starts.outcome_of numbers (starts.rooms_of lent) ≡ starts.done (graph_in numbers)
  pub count_is : b.count ≡ 3 * length (starts.own_starts_once (graph_in numbers))
  pub starts_are : after.starts ≡ starts.starts_after (starts.done (graph_in numbers)) lent.starts

count_back : (b : ReadAnswer) (g : Graph) → b ≡ starts_answer_of (starts.answered (starts.done g)) → b.count ≡ 3 * length (starts.own_starts_once g)
unfolding starts.answered starts_answer_of
count_back b g e = ap (λ (x : ReadAnswer). x.count) e

pub starts_kept : (numbers : List ℕ) (b : ReadAnswer) (lent after : starts.Rows) → KeepStarts numbers b lent after → b.number ≡ 0 → StartsKept numbers b lent after
starts_kept numbers b lent after k z =
    let out = starts.outcome_of numbers (starts.rooms_of lent) in
    let w = starts_not_refused out (starts_of numbers (starts.rooms_of lent)) (sym (ap (λ (x : ReadAnswer). x.number) k.answers) ∙ z) in
    let e : out ≡ starts.done (graph_in numbers) = w.1 ∙ ap starts.done (starts_done numbers (starts.rooms_of lent) w.0 w.1).graph_is in
    record {
      is_done = e;
      count_is = count_back b (graph_in numbers) (k.answers ∙ ap (λ y. starts_answer_of (starts.answered y)) e);
      starts_are = k.leaves.starts_are ∙ ap (λ y. starts.starts_after y lent.starts) e;
    }
