-- The public calls.
pub mod Calls
