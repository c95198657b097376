-- What the slots say after the walk, and what the rows give it.
pub mod Table
pub mod Notes
pub mod Slots
