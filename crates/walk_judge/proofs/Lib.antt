-- The first parameter of a method.
pub mod First
