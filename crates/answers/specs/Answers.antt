-- The answers that cross the C boundary: each operation's answer as its numbers. The number 0 means not refused.
use Rattle.std.specs.Prelude.{ℕ, Result, Ok, Err}
use Rattle.leb128.specs.refusal_crate.Number.{number_of, place_of}
use Rattle.leb128.specs.refusal_crate.declared.Refusal.{Refusal as Why}
use Rattle.run_parts.specs.declared.Totals.{Totals}
use Rattle.answers.specs.declared.DrainAnswer.{DrainAnswer}
use Rattle.answers.specs.declared.ReadAnswer.{ReadAnswer}
use Rattle.answers.specs.declared.Refusal.{Refusal}
use Rattle.answers.specs.declared.RunAnswer.{RunAnswer}

-- why an operation refuses, as its number and its place
unfoldable pub refusal_of : Why → Refusal
refusal_of why = record { number = number_of why; place = place_of why }

-- of a read: how many numbers the file holds, or the refusal
unfoldable pub read_answer_of : Result ℕ Why → ReadAnswer
read_answer_of (Ok n) = record { number = 0; place = 0; count = n }
read_answer_of (Err why) = record { number = number_of why; place = place_of why; count = 0 }

-- of an operation that accepts or refuses
unfoldable pub check_answer_of : Result Unit Why → Refusal
check_answer_of (Ok tt) = record { number = 0; place = 0 }
check_answer_of (Err why) = record { number = number_of why; place = place_of why }

-- of a drain: how many lines it wrote, or the refusal
unfoldable pub drain_answer_of : Result ℕ Why → DrainAnswer
drain_answer_of (Ok n) = record { number = 0; place = 0; lines = n }
drain_answer_of (Err why) = record { number = number_of why; place = place_of why; lines = 0 }

-- of a run: its rounds, the lines of the main part and of the runtime stage, the final entries; or the refusal
unfoldable pub run_answer_of : Result Totals Why → RunAnswer
run_answer_of (Ok t) = record { number = 0; place = 0; rounds = t.rounds; lines = t.lines; runtime_lines = t.runtime_lines; entries = t.entries }
run_answer_of (Err why) = record { number = number_of why; place = place_of why; rounds = 0; lines = 0; runtime_lines = 0; entries = 0 }

-- of a judge: passed, or the refusal
unfoldable pub judge_answer_of : Result Unit Why → Refusal
judge_answer_of (Ok tt) = record { number = 0; place = 0 }
judge_answer_of (Err why) = record { number = number_of why; place = place_of why }

-- of a run's own starts: how many numbers they have, or the refusal
unfoldable pub starts_answer_of : Result ℕ Why → ReadAnswer
starts_answer_of (Ok n) = record { number = 0; place = 0; count = n }
starts_answer_of (Err why) = record { number = number_of why; place = place_of why; count = 0 }

-- The same answers, where `f` gives the number and the place of what refuses, whatever they are:

-- of a read
unfoldable pub read_answer_by : {W : Type 0} → (W → Refusal) → Result ℕ W → ReadAnswer
read_answer_by f (Ok n) = record { number = 0; place = 0; count = n }
read_answer_by f (Err why) = record { number = (f why).number; place = (f why).place; count = 0 }

-- of an operation that accepts or refuses
unfoldable pub check_answer_by : {W : Type 0} → (W → Refusal) → Result Unit W → Refusal
check_answer_by f (Ok tt) = record { number = 0; place = 0 }
check_answer_by f (Err why) = f why

-- of a drain
unfoldable pub drain_answer_by : {W : Type 0} → (W → Refusal) → Result ℕ W → DrainAnswer
drain_answer_by f (Ok n) = record { number = 0; place = 0; lines = n }
drain_answer_by f (Err why) = record { number = (f why).number; place = (f why).place; lines = 0 }

-- of a run
unfoldable pub run_answer_by : {W : Type 0} → (W → Refusal) → Result Totals W → RunAnswer
run_answer_by f (Ok t) = record { number = 0; place = 0; rounds = t.rounds; lines = t.lines; runtime_lines = t.runtime_lines; entries = t.entries }
run_answer_by f (Err why) = record { number = (f why).number; place = (f why).place; rounds = 0; lines = 0; runtime_lines = 0; entries = 0 }

-- of a judge
unfoldable pub judge_answer_by : {W : Type 0} → (W → Refusal) → Result Unit W → Refusal
judge_answer_by f (Ok tt) = record { number = 0; place = 0 }
judge_answer_by f (Err why) = f why

-- of a run's own starts
unfoldable pub starts_answer_by : {W : Type 0} → (W → Refusal) → Result ℕ W → ReadAnswer
starts_answer_by f (Ok n) = record { number = 0; place = 0; count = n }
starts_answer_by f (Err why) = record { number = (f why).number; place = (f why).place; count = 0 }
