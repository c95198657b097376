-- The faults of a text, found.
pub mod Found
