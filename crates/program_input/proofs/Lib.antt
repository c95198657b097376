-- What the proof of the reading needs of lists.
pub mod Bytes
