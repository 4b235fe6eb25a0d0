-- The main definitions of each file.
-- `Choice`: `Closed`, `Smallest`, `HasLine`.
-- `Operation`: `EveryDrainShows`, `DrainShows`.
pub mod Choice
pub mod Operation
