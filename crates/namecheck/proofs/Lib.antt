-- What the proofs share.
pub mod Whole
