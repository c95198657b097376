-- The proofs of the public calls: what a listed fault gives, and the answers of each call by its cases. What follows is in crate `proof_calls`.
mod FaultWritten
mod Cases
mod Over
