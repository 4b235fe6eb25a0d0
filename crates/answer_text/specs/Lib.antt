-- The main definitions of `Program`: `file_text`, `program_text`, `TextOfFile`.
pub mod Program
