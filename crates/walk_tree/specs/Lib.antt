-- The walk over the rows of a tree.
pub mod WalkModel
pub mod StepsModel
