-- The classes of bytes.
pub mod BytesModel
