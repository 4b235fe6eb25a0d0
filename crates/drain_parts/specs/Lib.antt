-- The main definitions of `Operation`: `outcome_of`, `answered`, `marks_after`, `record_after`, `row_after`, `Drains`.
-- `Links`, for the crates above, whose contracts say how long the partners are.
pub use Rattle.worklist.specs.Links
pub mod Operation
pub mod Parts
