-- Fields of a line, and the hash of a name.
pub mod FieldsModel
