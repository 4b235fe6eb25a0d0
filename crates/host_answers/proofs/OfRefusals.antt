-- Demand 1: what a caller knows of a call at the C boundary that was refused.
use Prim.Native.Nat.{ℕ}
use mathlib.Core.Path.{◌≡◌, ap}
use mathlib.Core.Bool.{Bool, true, false}
use mathlib.Core.List.{List, ◌++◌}
use lib.Dec.{ltb}
use lib.ListN.{length, drop}
use Rattle.leb128.specs.Read.{Decoded, all, refused, answer_of, read_of, lent_of}
use Rattle.determine_side_effects.specs.rows_crate.Walk.{Parsed, got, fault}
use Rattle.determine_side_effects.specs.graph_crate.Check.{Graph, check_of}
use Rattle.determine_side_effects.specs.Effects.{last_verdicts}
use Rattle.determine_side_effects.specs.Operation.{effects_answer, effects_row}
use Rattle.drain_parts.specs.Operation as drain
use Rattle.run_parts.specs.Operation as run
use Rattle.run_starts.specs.Operation as starts
use Rattle.answers.specs.declared.DrainAnswer.{DrainAnswer}
use Rattle.answers.specs.declared.ReadAnswer.{ReadAnswer}
use Rattle.answers.specs.declared.Refusal.{Refusal}
use Rattle.answers.specs.declared.RunAnswer.{RunAnswer}
use Rattle.answers.specs.Answers.{read_answer_of, check_answer_of, drain_answer_of, run_answer_of, starts_answer_of}
use Rattle.host_answers.specs.Refused.{EveryReadRefused, EveryEffectsRefused, untouched, cleared, DrainRefuses, EveryDrainRefused, RunRefuses, EveryRunRefused, StartsRefuse, EveryStartsRefused}
use Rattle.host_answers.proofs.ByRow.{row_of_run_lem, row_of_drain_lem}
use Rattle.std.specs.Prelude.{Ok, Err}
use Rattle.determine_side_effects.specs.refusal_crate.declared.Refusal.TheVariants.{NoRoom}

read_refuses : (d : Decoded) (lent after : List ℕ) (a : ReadAnswer) → a ≡ read_answer_of (answer_of d) → after ≡ lent_of d lent → (a.number ≡ 0 → ⊥) → after ≡ lent
unfolding read_answer_of answer_of lent_of
read_refuses (all xs) lent after a e l z = absurd (z (ap (λ (x : ReadAnswer). x.number) e))
read_refuses (refused why) lent after a e l z = l

pub read_refused : EveryReadRefused
read_refused file lent a after k z = read_refuses (read_of file (length lent)) lent after a k.answers k.leaves z

pub effects_refused : EveryEffectsRefused
unfolding effects_answer effects_row check_answer_of
effects_refused numbers lent a after k z = go (check_of numbers) k.answers k.leaves
  where
    by : (g : Graph) (b : Bool) → a ≡ check_answer_of (elim b [ true ↦ Err NoRoom | false ↦ Ok tt ]) → after ≡ elim b [ true ↦ lent | false ↦ last_verdicts g ++ drop g.header.modules lent ] → after ≡ lent
    by g true e l = l
    by g false e l = absurd (z (ap (λ (x : Refusal). x.number) e))

    go : (x : Parsed Graph) → a ≡ check_answer_of (elim x [ fault why ↦ Err why | got g q ↦ elim (ltb (length lent) g.header.modules) [ true ↦ Err NoRoom | false ↦ Ok tt ] ])
        → after ≡ elim x [ fault why ↦ lent | got g q ↦ elim (ltb (length lent) g.header.modules) [ true ↦ lent | false ↦ last_verdicts g ++ drop g.header.modules lent ] ] → after ≡ lent
    go (got g q) e l = by g (ltb (length lent) g.header.modules) e l
    go (fault why) e l = l

drain_refuses : (o : drain.Outcome) (lent after : drain.Rows) (a : DrainAnswer) → a ≡ drain_answer_of (drain.answered o) → drain.Ends o (drain.answered o) lent after → (a.number ≡ 0 → ⊥) → DrainRefuses a lent after
unfolding drain.answered drain_answer_of drain.row_after drain.marks_after drain.record_after
drain_refuses (drain.before why) lent after a e k z = record { rows_as_lent = row_of_drain_lem k; worked_on = untouched k.marks_are k.record_is }
drain_refuses drain.short lent after a e k z = record { rows_as_lent = row_of_drain_lem k; worked_on = cleared (ap (λ (x : DrainAnswer). x.number) e) k.marks_are k.record_is }
drain_refuses (drain.done g lines) lent after a e k z = absurd (z (ap (λ (x : DrainAnswer). x.number) e))

pub drain_refused : EveryDrainRefused
drain_refused numbers given a lent after k z = drain_refuses (drain.outcome_of numbers given (drain.rooms_of lent)) lent after a k.answers k.leaves z

run_refuses : (o : run.Outcome) (lent after : run.Rows) (a : RunAnswer) → a ≡ run_answer_of (run.answered o) → run.Ends o (run.answered o) lent after → (a.number ≡ 0 → ⊥) → RunRefuses a lent after
unfolding run.answered run_answer_of run.row_after run.marks_after run.record_after run.dead_after run.helpers_after run.entries_after
run_refuses (run.before why) lent after a e k z =
    record {
      rows_as_lent = row_of_run_lem k;
      dead_as_lent = k.dead_are;
      helpers_as_lent = k.helpers_are;
      entries_as_lent = k.entries_are;
      worked_on = untouched k.marks_are k.record_is;
    }
run_refuses run.short lent after a e k z =
    record {
      rows_as_lent = row_of_run_lem k;
      dead_as_lent = k.dead_are;
      helpers_as_lent = k.helpers_are;
      entries_as_lent = k.entries_are;
      worked_on = cleared (ap (λ (x : RunAnswer). x.number) e) k.marks_are k.record_is;
    }
run_refuses (run.done g r) lent after a e k z = absurd (z (ap (λ (x : RunAnswer). x.number) e))

pub run_refused : EveryRunRefused
run_refused numbers a lent after k z = run_refuses (run.outcome_of numbers (run.rooms_of lent)) lent after a k.answers k.leaves z

starts_refuse : (o : starts.Outcome) (lent after : starts.Rows) (a : ReadAnswer) → a ≡ starts_answer_of (starts.answered o) → starts.Ends o (starts.answered o) lent after → (a.number ≡ 0 → ⊥) → StartsRefuse a lent after
unfolding starts.answered starts_answer_of starts.marks_after starts.record_after starts.starts_after
starts_refuse (starts.before why) lent after a e k z = record { starts_as_lent = k.starts_are; worked_on = untouched k.marks_are k.record_is }
starts_refuse starts.short lent after a e k z = record { starts_as_lent = k.starts_are; worked_on = cleared (ap (λ (x : ReadAnswer). x.number) e) k.marks_are k.record_is }
starts_refuse (starts.done g) lent after a e k z = absurd (z (ap (λ (x : ReadAnswer). x.number) e))

pub starts_refused : EveryStartsRefused
starts_refused numbers a lent after k z = starts_refuse (starts.outcome_of numbers (starts.rooms_of lent)) lent after a k.answers k.leaves z
