-- The answers of the calls as numbers, for C: "a number, then what goes with it, then 0 up to the end of the row".
use Rattle.std.specs.Prelude.{ℕ, ◌-◌, List, [], ◌∷◌, ◌++◌, length, replicate}
use Rattle.spec_text.specs.Bytes.{Part}
use Rattle.spec_answers.specs.Answers.{Answer, accepted, written, faulty, refused}

-- "100, accepted; or the record of the first fault, which begins with its kind"; "101 and the count"; a refusal: its number, and what it carries
abbrev pub numbers : Answer → List ℕ
numbers accepted = 100 ∷ []
numbers (written k) = 101 ∷ k ∷ []
numbers (faulty ns) = ns
numbers (refused k vs) = k ∷ vs

-- in a row of n numbers: after the last of them 0
abbrev pub answer_of : ℕ → Answer → List ℕ
answer_of n a = numbers a ++ replicate (n - length (numbers a)) 0

-- "102, and the offset and the length of a part of the text"
abbrev pub part_answer : Part → List ℕ
part_answer x = 102 ∷ x.offset ∷ length x.bytes ∷ []

-- "major, minor, patch"
abbrev pub version : List ℕ
version = 1 ∷ 0 ∷ 2 ∷ []
