-- The rows of a tree, where they stand in the work buffer, and how the reader comes to them.
pub mod Laid
pub mod MachineModel
pub mod ReaderModel
