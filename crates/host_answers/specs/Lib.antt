-- The main definitions of each file.
-- `Numbers`: `OneOf`, `Numbered`.
-- `Answered`: what follows from an answer's number 0 at the C boundary. `Refused`: what follows from another number.
pub mod Numbers
pub mod Answered
pub mod Refused
