-- The lines that `namecheck` prints, from the numbers of the report. What is printed is defined in crate `spec_answers`, specs/Printed.
pub mod LinesModel
