-- The entries are the faults, in order. Theorems states it. Reach says how far rows reach, Right what a fault is by the rows, FaultRows that each
-- fault of a tree is so, Listed what is listed at each row.
pub mod Theorems
pub mod Reach
pub mod Right
pub mod FaultRows
pub mod Listed
