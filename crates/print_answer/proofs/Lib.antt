-- The proofs about what is printed.
pub mod Reported
pub mod Room
mod Cases
