-- The main definitions of each file.
-- `Choice`: `ClosedByRules`, `SmallestByRules`.
-- `Sentence`: `LineInForm`, `Justified`, `IsKeepRecord`.
-- `Operation`: `JudgesExactly`, `EveryDrainPasses`, `EveryRunPasses`, `SmallestBoth`, `EveryDrainSmallest`, `EveryRunSmallest`.
pub mod Choice
pub mod Sentence
pub mod Operation
