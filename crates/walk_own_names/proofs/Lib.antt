-- The proofs about a def's own names.
pub mod Ways
