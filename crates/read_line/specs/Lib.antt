-- One line: what it is as numbers, and the steps that a cursor takes through it.
pub mod LineModel
pub mod StepsModel
