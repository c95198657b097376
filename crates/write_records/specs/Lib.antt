-- Records, written one after the other.
pub mod WriteModel
