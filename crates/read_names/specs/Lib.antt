-- A number for each name.
pub mod Names
pub mod ChainsModel
