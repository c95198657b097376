-- What the proofs share.
mod Stores
pub mod Sizes
