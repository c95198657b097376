-- The proofs about the lines.
mod Lines
