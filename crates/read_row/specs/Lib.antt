-- Lines read again: the line of a row, and its parameters.
pub mod RowModel
pub mod Left
pub mod Worded
