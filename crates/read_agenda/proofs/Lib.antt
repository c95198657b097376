-- The proofs about the agenda. Turns has the theorem: turns lead to where the definition of reading leads.
pub mod Turns
pub mod Dues
pub mod Lined
pub mod Sorts
pub mod Via
