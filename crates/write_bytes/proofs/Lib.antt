-- Pushed: bytes pushed one part after the other are pushed at once. Digits: the digits of a number.
pub mod Pushed
pub mod Digits
