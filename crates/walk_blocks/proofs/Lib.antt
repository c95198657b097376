-- The proofs about the way into a block.
pub mod Params
