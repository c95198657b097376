-- The answers agree with each other; examples, by computation.
pub mod Theorems
pub mod Examples
pub mod Limits
