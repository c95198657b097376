-- Theorems about the public calls: what is stated stands in specs/, under the same names. Examples has two scripts, Agreed what the theorems share.
pub mod Passed
pub mod Demands
pub mod ForC
pub mod Examples
mod Agreed
