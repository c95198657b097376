-- The proofs about messages. Table: what a table of texts says of a kind. Lengths: how long a message is.
mod Table
pub mod Lengths
