-- The proofs about the walk.
pub mod Ways
pub mod Left
