-- The main definitions of `Operation`: `outcome_of`, `answered`, `marks_after`, `record_after`, `row_after`, `dead_after`, `helpers_after`,
--     `entries_after`, `Runs`.
-- `Links` and `Plan`, for the crates above, whose contracts say how long the partners and the plan are.
pub use Rattle.entry_order.specs.Plan
pub use Rattle.worklist.specs.Links
pub mod Operation
pub mod Parts
