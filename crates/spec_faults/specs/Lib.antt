-- Faults by position (RULE.md, from 'Terms' on), the rule, and the walk of src/semantic/mod.rs.
pub mod Builtins
pub mod Position
pub mod Bindings
pub mod Faults
pub mod Rule
pub mod Rust
pub mod Kinds
pub mod KindsModel
