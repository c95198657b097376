-- Which entry shows which fault.
pub mod Shown
