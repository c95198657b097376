-- The way into a block.
pub mod BlocksModel
