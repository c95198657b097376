-- The proofs. Theorems states what is proved, for every tree; Scripts has examples, a to k. The rest leads to the theorems:
--   Lists, Read                   laws of tests, names and lists; a read has no fault, or one
--   Ascending, Places             the visited lines and the faults ascend by line; every place is a line of the tree
--   Once, Report                  the report lists each fault once, by place and then by line
--   FaultKinds, KindNumbers       every listed fault has a kind from 8 to 15, and 14 no name; the numbers of kinds
--   FoundBindings, LambdaParams   the tests of a read and the bindings that they find; what is bound in a lambda's block is its parameters
--   NoFaults                      a tree has no fault exactly when the rule holds of it
--   ListingWalk                   the walk that lists every fault
--   Bound                         the bindings of each part of a tree, and where they stand
--   TextWalk                      the same walk in the text's order
--   Earlier                       tests over bindings: which stand earlier in a block
--   OwnNames                      a def's own names are the locals that the Rust gathers
--   Covers                        a part of the text adds its own bindings, and only them
--   TextExprs, TextTargets,
--   TextStmts, InTextOrder        the faults by position are those of the walk in the text's order: expressions, targets, statements, a tree
--   Order, Deduped                put in the order of their places, once for a lambda and a name, they are what the walk lists
--   Finds                         what the Rust walk finds beside a list of faults, in any order of a lambda's captured names
--   FreeNames, Captured,
--   UnderLambda                   lambdas: the check of the captured names, the captures that the walk lists, and the body
--   Stack, First                  the Rust walk's answer, beside the faults that the walk lists
pub mod Theorems
pub mod Scripts
pub mod Lists
pub mod Read
pub mod Ascending
pub mod Places
pub mod Once
pub mod Report
pub mod FaultKinds
pub mod KindNumbers
pub mod FoundBindings
pub mod LambdaParams
pub mod NoFaults
pub mod ListingWalk
pub mod Bound
pub mod TextWalk
pub mod Earlier
pub mod OwnNames
pub mod Covers
pub mod TextExprs
pub mod TextTargets
pub mod TextStmts
pub mod InTextOrder
pub mod Order
pub mod Deduped
pub mod Stack
pub mod Finds
pub mod FreeNames
pub mod Captured
pub mod UnderLambda
pub mod First
