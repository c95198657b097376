-- What the line's proofs share. That a cursor's steps find the line: Cut to BySteps. For the code: Tail.
pub mod Cut
pub mod FieldRows
pub mod Due
pub mod Formed
pub mod Shaped
pub mod BySteps
pub mod Tail
