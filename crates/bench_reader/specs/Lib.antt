-- The reader's answer as numbers.
pub mod Numbers
