-- The faults in the report's order, and the list that they are written to.
pub mod OrderModel
pub mod ListModel
