-- Refusals 2 to 7 as one theorem, a table: FORMAT.md's examples, the limits met and passed, and the particulars that it lists. By computation. (Texts of 65,536 bytes and of 4,098 lines: the crate `spec_answers`, proofs/Limits.antt.)
use Rattle.std.proofs.Common.{ℕ, zero, suc, ◌≡◌, refl, List, [], ◌∷◌, ◌++◌, map, replicate}
use Prim.Native.String.{String}
use Rattle.spec_text.specs.Bytes.{Bytes, bytes}
use Rattle.spec_text.specs.Reading.{Reading, tree, refusal, reading}

-- what is shown of a reading: that a tree was read, or the refusal and its line
pub data Shown : Type 0 where
  read : Shown
  refused : ℕ → ℕ → Shown

abbrev pub shown : Reading → Shown
shown (tree t) = read
shown (refusal k n) = refused k n

pub record Example : Type 0 where
  pub text : Bytes
  pub work : ℕ
  pub is : Shown

-- with a work buffer that is just long enough
abbrev pub example : Bytes → Shown → Example
example b s = record { text = b; work = 16_384; is = s }

abbrev text : String → Shown → Example
text s r = example (bytes s) r

-- a text n times
abbrev pub times : ℕ → Bytes → Bytes
times zero b = []
times (suc n) b = b ++ times n b

-- a `lit` at depth n + 2: an `expr`, n times `un`, the `lit`
abbrev deep : ℕ → Bytes
deep n = bytes "tree\t0\t1\nexpr\t0\t1\n" ++ (times n (bytes "un\t0\t1\n") ++ bytes "lit\t0\t1\n")

-- a def with n parameters `p`, and no statement
abbrev params : ℕ → Bytes
params n = bytes "tree\t0\t1\ndef\t0\t1\tf\t0" ++ (times n (bytes "\tp") ++ bytes "\n")

-- a read of a name of n bytes `a`
abbrev named : ℕ → Bytes
named n = bytes "tree\t0\t1\nexpr\t0\t1\nvar\t0\t1\t" ++ (replicate n 97 ++ bytes "\n")

abbrev pub refusals : List Example
refusals =
    -- the table's examples
    record { text = bytes "tree\t0\t0\n"; work = 16_383; is = refused 2 0 }
    ∷ text "" (refused 3 1)
    ∷ text "tree\t0\t0\nx\n" (refused 4 2)
    ∷ text "tree\t0\t01\n" (refused 5 1)
    ∷ text "tree\t0\t1\nlit\t0\t1\n" (refused 6 2)
    ∷ example (params 17) (refused 7 2)
    -- script l: depth 64 and 65, 16 parameters, names of 63 and 64 bytes
    ∷ example (deep 62) read
    ∷ example (deep 63) (refused 7 66)
    ∷ example (params 16) read
    ∷ example (named 63) read
    ∷ example (named 64) (refused 5 3)
    -- 3: the missing line, also where it would be at depth 65; the counts are not added up ahead
    ∷ text "tree\t0\t4096\n" (refused 3 2)
    ∷ text "tree\t0\t1\nassign\t0\t1\nlit\t0\t1\n" (refused 3 4)
    ∷ example (bytes "tree\t0\t1\nexpr\t0\t1\n" ++ times 63 (bytes "un\t0\t1\n")) (refused 3 66)
    -- 4: any byte after the last due line
    ∷ text "tree\t0\t0\n\n" (refused 4 2)
    ∷ text "tree\t0\t0\ntree\t0\t0\n" (refused 4 2)
    -- 5: no LF; fields too many, too few, empty; numbers and names
    ∷ text "tree\t0\t0" (refused 5 1)
    ∷ text "tree\t0\t0\t\n" (refused 5 1)
    ∷ text "tree\t0\n" (refused 5 1)
    ∷ text "tree\t\t0\n" (refused 5 1)
    ∷ text "tree\t0\t4097\n" (refused 5 1)
    ∷ text "tree\t0\t+1\n" (refused 5 1)
    ∷ text "tree\t0\t-0\n" (refused 5 1)
    ∷ text "tree\t0\t0\r\n" (refused 5 1)
    ∷ text "Tree\t0\t0\n" (refused 5 1)
    ∷ text "tree\t0\t1\npass\t4294967295\t0\n" read
    ∷ text "tree\t0\t1\npass\t4294967296\t0\n" (refused 5 2)
    ∷ text "tree\t1\t0\nglobal\t1a\n" (refused 5 2)
    ∷ text "tree\t1\t0\nglobal\t_1\n" read
    ∷ text "tree\t1\t0\nglobal\ta-b\n" (refused 5 2)
    ∷ text "tree\t0\t1\n\n" (refused 5 2)
    -- 6: a second `tree`, a `global` where a statement is due, a first line that is no `tree`; a statement where an expression is due
    ∷ text "tree\t0\t1\ntree\t0\t0\n" (refused 6 2)
    ∷ text "tree\t0\t1\nglobal\ta\n" (refused 6 2)
    ∷ text "pass\t0\t1\n" (refused 6 1)
    ∷ text "tree\t0\t1\nexpr\t0\t1\npass\t0\t1\n" (refused 6 3)
    -- 5 before 6 before 7 on a line: at depth 65, and with 17 names
    ∷ example (bytes "tree\t0\t1\nexpr\t0\t1\n" ++ (times 63 (bytes "un\t0\t1\n") ++ bytes "lit\t0\n")) (refused 5 66)
    ∷ example (bytes "tree\t0\t1\nexpr\t0\t1\n" ++ (times 63 (bytes "un\t0\t1\n") ++ bytes "pass\t0\t1\n")) (refused 6 66)
    ∷ example (bytes "tree\t0\t1\nlambda\t0\t1" ++ (times 17 (bytes "\tp") ++ bytes "\n")) (refused 6 2)
    ∷ example (bytes "tree\t0\t1\ndef\t0\t1\tf\t0" ++ (times 17 (bytes "\tp") ++ bytes "\t1\n")) (refused 5 2)
    -- `elif`, `method` and `attr` are one deeper than their `if` or `class`; every word is read once
    ∷ text "tree\t1\t10\nglobal\tg\nbreak\t0\t1\ncontinue\t0\t1\npass\t0\t1\ndef\t0\t1\tf\t1\tp\nreturn\t0\t1\nlambda\t0\t1\tq\nlit\t0\t1\nassign\t0\t1\nun\t0\t1\nlit\t0\t1\nget\t0\t1\ta\nvar\t0\t1\tx\nif\t0\t1\t1\t1\t1\nbin\t0\t1\nlit\t0\t1\nlit\t0\t1\npass\t0\t1\nelif\t1\nlit\t0\t1\npass\t0\t1\npass\t0\t1\nwhile\t0\t1\t1\nlit\t0\t1\npass\t0\t1\nfor\t0\t1\ti\t1\nlist\t0\t1\t1\nset\t0\t1\t0\npass\t0\t1\nexpr\t0\t1\ncall\t0\t1\t2\nvar\t0\t1\tf\ntuple\t0\t1\t1\ntreeset\t0\t1\t0\ndict\t0\t1\t1\nlit\t0\t1\nindex\t0\t1\nlit\t0\t1\nlit\t0\t1\nclass\t0\t1\tC\t1\t1\nmethod\tm\t1\tself\npass\t0\t1\nattr\ta\nlit\t0\t1\n"
    read
    ∷ []

abbrev pub Hold : List Example → Type 0
Hold es = map (λ (e : Example). shown (reading e.text e.work)) es ≡ map (λ (e : Example). e.is) es

pub refusals_hold : Hold refusals
refusals_hold = refl

-- ---- some rows by themselves, for short texts: where one fails, antt shows both sides
abbrev read? : Bytes → Shown
read? b = shown (reading b 16_384)

leading_zero_5 : read? (bytes "tree\t0\t01\n") ≡ refused 5 1
leading_zero_5 = refl

not_due_6 : read? (bytes "tree\t0\t1\nlit\t0\t1\n") ≡ refused 6 2
not_due_6 = refl

seventeen_not_due_6 : read? (bytes "tree\t0\t1\nlambda\t0\t1\ta\ta\ta\ta\ta\ta\ta\ta\ta\ta\ta\ta\ta\ta\ta\ta\ta\n") ≡ refused 6 2
seventeen_not_due_6 = refl
