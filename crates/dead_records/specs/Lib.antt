-- The main definitions of each file.
-- `Dead`: `dead_record`, `dead_row`.
-- `Parts`: `AfterStages`, `kept_before`.
pub mod Dead
pub mod Parts
