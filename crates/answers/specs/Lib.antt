-- The main definitions of `Answers`: `read_answer_of`, `check_answer_of`, `drain_answer_of`, `run_answer_of`, `judge_answer_of`, `starts_answer_of`;
-- `read_answer_by` and its like, for any number and place.
pub mod Answers
