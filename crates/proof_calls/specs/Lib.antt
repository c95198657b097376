-- What is stated about the public calls. Passed has what is true of every script that check passes, Demands what was demanded; ForC says
-- both of the calls for C.
pub mod Passed
pub mod Demands
pub mod ForC
