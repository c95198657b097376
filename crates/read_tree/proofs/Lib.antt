-- The proofs about the reader. Theorems has what follows from its contract. Machine has the theorem about the machine, whose
-- agenda is in the work buffer: it ends where the definition ends.
pub mod Theorems
pub mod SortNumbers
pub mod Machine
pub mod CutText
pub mod ParsedFacts
pub mod Same
pub mod Starts
pub mod Buffer
pub mod Written
pub mod Follows
pub mod InNumbers
pub mod Bounds
pub mod FirstLine
pub mod Answered
