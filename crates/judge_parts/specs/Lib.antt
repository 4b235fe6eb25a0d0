-- The main definitions of `Operation`: `judge_of`.
pub mod Operation
pub mod Parts
