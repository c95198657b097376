-- What is due: as a list of entries, and as a stack of numbers in the work buffer.
pub mod AgendaModel
pub mod StackModel
pub mod Entries
pub mod LentModel
