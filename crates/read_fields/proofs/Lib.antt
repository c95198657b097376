-- What the cursor's proofs share: the laws of fields and runs of bytes, and of the steps over them.
pub mod Fields
pub mod FieldFront
pub mod Takes
