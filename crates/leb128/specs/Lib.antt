-- The main definitions of each file.
-- `Groups`: `value`, `groups`, `good`.
-- `Read`: `read_of`, `answer_of`, `lent_of`.
pub mod Groups
pub mod Read
pub mod Number
-- The crate below, for the crates above.
pub use Rattle.refusal.specs as refusal_crate
