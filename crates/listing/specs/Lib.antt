-- The main definitions of each file.
-- `Text`: `decimal`, `line`, `window`.
-- `Listing`: `listing_of`, `refused_text`.
pub mod Text
pub mod Listing
pub mod Parts
