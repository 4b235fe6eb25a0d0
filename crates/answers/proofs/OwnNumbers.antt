-- An answer by the own number and place of a refusal is the one that its definition says; and a number and a place that are given are answered as they are.
use Rattle.std.specs.Prelude.{ℕ, Result, Ok, Err, ◌≡◌, refl}
use Rattle.leb128.specs.refusal_crate.declared.Refusal.{Refusal as Why}
use Rattle.run_parts.specs.declared.Totals.{Totals}
use Rattle.answers.specs.declared.Refusal.{Refusal}
use Rattle.answers.specs.Answers.{refusal_of, read_answer_of, check_answer_of, drain_answer_of, run_answer_of, judge_answer_of, starts_answer_of, read_answer_by, check_answer_by, drain_answer_by, run_answer_by, judge_answer_by, starts_answer_by}

pub read_answer_own : (r : Result ℕ Why) → read_answer_by refusal_of r ≡ read_answer_of r
unfolding refusal_of read_answer_by read_answer_of
read_answer_own (Ok n) = refl
read_answer_own (Err why) = refl

pub check_answer_own : (r : Result Unit Why) → check_answer_by refusal_of r ≡ check_answer_of r
unfolding refusal_of check_answer_by check_answer_of
check_answer_own (Ok tt) = refl
check_answer_own (Err why) = refl

pub drain_answer_own : (r : Result ℕ Why) → drain_answer_by refusal_of r ≡ drain_answer_of r
unfolding refusal_of drain_answer_by drain_answer_of
drain_answer_own (Ok n) = refl
drain_answer_own (Err why) = refl

pub run_answer_own : (r : Result Totals Why) → run_answer_by refusal_of r ≡ run_answer_of r
unfolding refusal_of run_answer_by run_answer_of
run_answer_own (Ok n) = refl
run_answer_own (Err why) = refl

pub judge_answer_own : (r : Result Unit Why) → judge_answer_by refusal_of r ≡ judge_answer_of r
unfolding refusal_of judge_answer_by judge_answer_of
judge_answer_own (Ok tt) = refl
judge_answer_own (Err why) = refl

pub starts_answer_own : (r : Result ℕ Why) → starts_answer_by refusal_of r ≡ starts_answer_of r
unfolding refusal_of starts_answer_by starts_answer_of
starts_answer_own (Ok n) = refl
starts_answer_own (Err why) = refl

-- Each of these is the answer to a refusal n at p, whatever n and p are.
module _ (n p : ℕ) where
  abbrev given : Refusal
  given = record { number = n; place = p }

  pub read_answer_given : read_answer_by (λ (r : Refusal). r) (Err given) ≡ record { number = n; place = p; count = 0 }
  unfolding read_answer_by
  read_answer_given = refl

  pub check_answer_given : check_answer_by (λ (r : Refusal). r) (Err given) ≡ record { number = n; place = p }
  unfolding check_answer_by
  check_answer_given = refl

  pub drain_answer_given : drain_answer_by (λ (r : Refusal). r) (Err given) ≡ record { number = n; place = p; lines = 0 }
  unfolding drain_answer_by
  drain_answer_given = refl

  pub run_answer_given : run_answer_by (λ (r : Refusal). r) (Err given) ≡ record { number = n; place = p; rounds = 0; lines = 0; runtime_lines = 0; entries = 0 }
  unfolding run_answer_by
  run_answer_given = refl

  pub judge_answer_given : judge_answer_by (λ (r : Refusal). r) (Err given) ≡ record { number = n; place = p }
  unfolding judge_answer_by
  judge_answer_given = refl

  pub starts_answer_given : starts_answer_by (λ (r : Refusal). r) (Err given) ≡ record { number = n; place = p; count = 0 }
  unfolding starts_answer_by
  starts_answer_given = refl
