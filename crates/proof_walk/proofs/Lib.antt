-- The walk leaves the kind of each fault in the slot of its row: Theorems states it. The rest leads there:
--   State                             what holds at each row of the walk
--   PartRows, WordTests, ByKind       what the rows of a part give; tests on words; what the walk does at a line of each kind
--   Fourths                           where fourth numbers alone change: stamps, flags, links
--   Noted, Gathered, Assigned         a def's own names are noted, those that its rows bind; which of them are assigned at each row
--   Flagged                           each `var` of a def's block gets the flag that the notes give it
--   Opened, Nested                    the way into a def or a method; a block in a block, what holds after it, and that its pop leads back
--   InExprs, OneRead, Lambdas         rows of expressions: steps, a read, a lambda
--   Done                              rows outside of lambdas, one after the other
--   Exprs, Targets, Stmts             expressions, targets, statements
--   Start                             the given names, and the whole walk
pub mod Theorems
pub mod State
pub mod PartRows
pub mod WordTests
pub mod ByKind
pub mod Fourths
pub mod Noted
pub mod Gathered
pub mod Flagged
pub mod Assigned
pub mod Opened
pub mod InExprs
pub mod OneRead
pub mod Lambdas
pub mod Done
pub mod Exprs
pub mod Targets
pub mod Nested
pub mod Stmts
pub mod Start
