-- The answers of the calls as numbers, for C.
pub mod Numbers
