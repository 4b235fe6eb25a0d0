-- An answer whose number is 0 is that of a call that was not refused: no refusal has the number 0. What such a call has found, for each operation.
use Prim.Native.Nat.{ℕ}
use mathlib.Core.Path.{◌≡◌, refl}
use mathlib.Core.Logic.{◌⊎◌, inl, inr, ◌↔◌}
use mathlib.Core.List.{List}
use native.Mathlib.Omega.{arith}
use Rattle.leb128.specs.Read.{Decoded, all, refused, answer_of as answer_of_read}
use Rattle.determine_side_effects.specs.rows_crate.Walk.{Parsed, got, fault}
use Rattle.determine_side_effects.specs.graph_crate.Check.{Graph, answer_of}
use Rattle.keep_record.specs.declared.Line.{Line}
use Rattle.drain_parts.specs.Operation as drain
use Rattle.run_rows.specs.Run.{Run}
use Rattle.run_parts.specs.Operation as run
use Rattle.run_starts.specs.Operation as starts
use Rattle.answers.specs.Answers.{read_answer_of, check_answer_of, drain_answer_of, run_answer_of, judge_answer_of, starts_answer_of}
use Rattle.host_answers.specs.Numbers.{OneOf}
use Rattle.host_answers.proofs.Faults.{Faults}
use Rattle.host_answers.proofs.Refusals.{Reads, Effects, Judges}
use Rattle.host_answers.proofs.Outcomes.{Drains, Runs, Starts}
use Rattle.std.specs.Prelude.{Result, Ok, Err}
use Rattle.determine_side_effects.specs.refusal_crate.declared.Refusal.{Refusal}
use Rattle.determine_side_effects.specs.refusal_crate.declared.Refusal.TheVariants.{NoRoom}
use Rattle.determine_side_effects.specs.refusal_crate.Number.{number_of}

not_zero : {high n : ℕ} → OneOf 2 high n → n ≡ 0 → ⊥
not_zero o e = omega (arith, o.least, e)

-- a file was read
pub read_whole : (d : Decoded) → Reads d → (read_answer_of (answer_of_read d)).number ≡ 0 → (xs : List ℕ) × (d ≡ all xs)
unfolding read_answer_of answer_of_read
read_whole (all xs) r z = (xs, refl)
read_whole (refused why) r z = absurd (go (r.numbers why refl))
  where
    go : (number_of why ≡ 1) ⊎ (number_of why ≡ 5) → ⊥
    go (inl e) = omega (arith, e, z)
    go (inr e) = omega (arith, e, z)

-- a graph was accepted
pub accepted_exactly : (x : Parsed Graph) → Faults x → ((check_answer_of (answer_of x)).number ≡ 0) ↔ (answer_of x ≡ Ok tt)
unfolding check_answer_of answer_of
accepted_exactly (got g q) f = (λ z. refl, λ e. refl)
accepted_exactly (fault why) f = (λ z. absurd (not_zero (f.numbers why refl) z), λ e. cc)

pub effects_passed : (c : Result Unit Refusal) → Effects c → (check_answer_of c).number ≡ 0 → c ≡ Ok tt
unfolding check_answer_of
effects_passed (Ok tt) f z = refl
effects_passed (Err why) f z = absurd (not_zero (f.numbers why refl) z)

-- a record was passed
pub passed_exactly : (j : Result Unit Refusal) → Judges j → ((judge_answer_of j).number ≡ 0) ↔ (j ≡ Ok tt)
unfolding judge_answer_of
passed_exactly (Ok tt) f = (λ z. refl, λ e. refl)
passed_exactly (Err why) f = (λ z. absurd (go z (f.numbers why refl)), λ e. cc)
  where
    go : number_of why ≡ 0 → OneOf 2 4 (number_of why) ⊎ (number_of why ≡ 6) → ⊥
    go z (inl o) = not_zero o z
    go z (inr e) = omega (arith, e, z)

-- the work was done
pub drain_not_refused : (o : drain.Outcome) → Drains o → (drain_answer_of (drain.answered o)).number ≡ 0 → (g : Graph) × (lines : List Line) × (o ≡ drain.done g lines)
unfolding drain.answered drain_answer_of
drain_not_refused (drain.before why) f z = absurd (not_zero (f.numbers why refl) z)
drain_not_refused drain.short f z = absurd (not_zero (f.numbers NoRoom refl) z)
drain_not_refused (drain.done g lines) f z = (g, lines, refl)

pub run_not_refused : (o : run.Outcome) → Runs o → (run_answer_of (run.answered o)).number ≡ 0 → (g : Graph) × (r : Run) × (o ≡ run.done g r)
unfolding run.answered run_answer_of
run_not_refused (run.before why) f z = absurd (not_zero (f.numbers why refl) z)
run_not_refused run.short f z = absurd (not_zero (f.numbers NoRoom refl) z)
run_not_refused (run.done g r) f z = (g, r, refl)

pub starts_not_refused : (o : starts.Outcome) → Starts o → (starts_answer_of (starts.answered o)).number ≡ 0 → (g : Graph) × (o ≡ starts.done g)
unfolding starts.answered starts_answer_of
starts_not_refused (starts.before why) f z = absurd (not_zero (f.numbers why refl) z)
starts_not_refused starts.short f z = absurd (not_zero (f.numbers NoRoom refl) z)
starts_not_refused (starts.done g) f z = (g, refl)
