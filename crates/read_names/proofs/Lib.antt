-- The proofs about names. Theorems states what is proved.
pub mod Theorems
pub mod Earliest
pub mod Writes
pub mod Links
pub mod Adds
pub mod Turns
