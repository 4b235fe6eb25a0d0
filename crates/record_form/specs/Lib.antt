-- The main definitions of `Form`: `parts_fit`, `names_fit`, `in_form`.
pub mod Form
