-- The numbers of refusals: which each operation may give.
use Rattle.host_answers.specs.Numbers.{Numbered}
use Rattle.host_answers.proofs.GraphFaults.{check_faults}
use Rattle.host_answers.proofs.Refusals.{reads_of, effects_in, judges_of}
use Rattle.host_answers.proofs.Outcomes.{drains_of, runs_of, starts_of}

pub numbered : Numbered
numbered =
    record {
      of_read = λ file room. (reads_of file room).numbers;
      of_check = λ numbers. (check_faults numbers).numbers;
      of_effects = λ numbers room. (effects_in numbers room).numbers;
      of_drain = λ numbers given room. (drains_of numbers given room).numbers;
      of_run = λ numbers room. (runs_of numbers room).numbers;
      of_judge = λ numbers given row. (judges_of numbers given row).numbers;
      of_starts = λ numbers room. (starts_of numbers room).numbers;
    }
