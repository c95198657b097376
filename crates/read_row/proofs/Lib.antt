-- The proofs about lines that are read again. Theorems has what holds of each text that is a tree and of a work buffer that holds its
-- rows. FieldsLeft has the fields that a cursor has still to take, one after the other.
pub mod Theorems
pub mod FieldsLeft
pub mod FormWords
pub mod OnLine
pub mod Runs
pub mod Gives
pub mod TreeRows
pub mod Tails
pub mod Kept
pub mod Starts
