-- Bytes pushed to a buffer, and to an output.
pub mod PushModel
pub mod OutputModel
