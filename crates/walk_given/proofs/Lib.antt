-- The proofs about the given names.
pub mod Loops
