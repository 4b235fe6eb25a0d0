-- The main definitions of `Operation`: `own_by_kind`, `own_starts_once`, `outcome_of`, `answered`, `marks_after`, `record_after`, `starts_after`, `ReadsStarts`.
pub mod Operation
pub mod Parts
