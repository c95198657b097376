-- Messages as bytes, and the table of the eight texts.
pub mod MessagesModel
pub mod TextsModel
