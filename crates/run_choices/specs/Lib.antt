-- The main definitions of each file.
-- `Operation`: `EveryRunKeeps`, `EnoughRuns`, `EveryRunSpares`.
-- `DeadAtEnd`: `EveryDeadAtEnd`, `DeadAsMarked`.
pub mod Operation
pub mod DeadAtEnd
