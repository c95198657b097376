-- The words of the table.
pub mod WordsModel
pub mod ChildrenModel
