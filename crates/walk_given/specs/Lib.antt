-- The given names.
pub mod GivenModel
