-- refusal/proofs/Lib.antt
pub mod Exits
