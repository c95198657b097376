-- The same of the calls for C, in the numbers that they answer with (serduzhap_c, specs/Numbers).
use Rattle.std.specs.Prelude.{ℕ, ◌*◌, ◌≤◌, ◌≡◌, ◌↔◌, ◌⊎◌, cond, List, eqb, get_or, take}
use Rattle.spec_text.specs.Bytes.{Bytes}
use Rattle.spec_text.specs.Reading.{refusal, reading}
use Rattle.spec_faults.specs.Faults.{record_length}
use Rattle.proof_calls.specs.Passed.{Passes}

-- the first number of an answer, and the one after it
abbrev pub number : List ℕ → ℕ
number r = get_or r 0 0

abbrev pub value : List ℕ → ℕ
value r = get_or r 1 0

-- an answer's number is k, or from 1 to the last one of a refusal or a fault: never 0
abbrev pub Numbered : ℕ → ℕ → List ℕ → Type 0
Numbered k last r = (number r ≡ k) ⊎ ((1 ≤ number r) × (number r ≤ last))

-- 100 exactly when the text passes; 1 to 7 with the line exactly when it is refused so; else the kind of a fault
pub record PassedC (text : Bytes) (work : ℕ) (r : List ℕ) : Type 0 where
  pub accepted : (number r ≡ 100) ↔ Passes text work
  pub refused : (k n : ℕ) → (reading text work ≡ refusal k n) ↔ ((number r ≡ k) × (value r ≡ n) × (1 ≤ k) × (k ≤ 7))
  pub kinds : Numbered 100 15 r

-- what a call wrote: so many records or bytes, if its number is 101
abbrev pub count : List ℕ → ℕ
count r = cond (eqb (number r) 101) (value r) 0

-- two calls on one text, with buffers of the same lengths; neither answers with 100
pub record SameReportC (new new' : List ℕ) (r r' : List ℕ) : Type 0 where
  pub kinds : Numbered 101 16 r
  pub answer : r ≡ r'
  pub writes : take (record_length * count r) new ≡ take (record_length * count r) new'

pub record SameMessageC (new new' : Bytes) (r r' : List ℕ) : Type 0 where
  pub kinds : Numbered 101 18 r
  pub answer : r ≡ r'
  pub writes : take (count r) new ≡ take (count r) new'
