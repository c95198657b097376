-- The built-in names: the number of a name, the rule of the tables of src/lib.rt, and the iterator over them.
pub mod Table
pub mod Cut
