-- A def's own names.
pub mod OwnNamesModel
