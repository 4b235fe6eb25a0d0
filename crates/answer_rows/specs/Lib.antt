-- The main definitions of each file.
-- `Shown`: `shows`, `shown_row`, `rows_enough`.
-- `Together`: `RowsShown`.
pub mod Shown
pub mod Together
pub mod Tabled
