-- The proofs about the listing. Stored says how a list of entries is written part by part, AtRow what is listed by the tests of the code.
pub mod Stored
pub mod AtRow
