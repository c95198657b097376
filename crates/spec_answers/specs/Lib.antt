-- The answers of check, report, message and name; the Rust's answer beside them; what `namecheck` prints.
pub mod Answers
pub mod RustAnswers
pub mod Printed
