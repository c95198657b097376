-- The answers of the calls agree with the Rust walk: the proof half of demand 2, about the definitions.
use Rattle.std.proofs.Common.{ℕ, ◌*◌, arith, ◌≡◌, refl, sym, ap, ◌∙◌, List, [], ◌∷◌, length, drop}
use Rattle.spec_text.specs.Bytes.{Bytes}
use Rattle.spec_text.specs.Tree.{Tree}
use Rattle.spec_text.specs.Reading.{tree, reading}
use Rattle.spec_faults.specs.Faults.{Fault, faults, record_length, record7, records}
use Rattle.spec_faults.specs.Rust.{Order, Rearranges, as_read, Checked, analyze_with_globals, Answers, no_error, first, captured}
use Rattle.spec_faults.proofs.Finds.{first_error}
use Rattle.spec_faults.proofs.Theorems.{rust_walk, rust_any_order}
use Rattle.spec_answers.specs.Answers.{first_record, check, nth_fault, message_or, message_in, message}
use Rattle.spec_answers.specs.RustAnswers.{SpanOf, worded}

pub records_length : (fs : List Fault) → length (records fs) ≡ record_length * length fs
records_length [] = refl
records_length (f ∷ fs) = let h : length (records fs) ≡ 7 * length fs = records_length fs in omega arith

-- ---- "The Rust pass decides kind, span and message of the first fault"
-- in any order of the captured names, kind and span
pub rust_check : (order : Order) → Rearranges order → (text : Bytes) (work : ℕ) (t : Tree) → reading text work ≡ tree t
    → SpanOf (analyze_with_globals order t) (check text work)
rust_check order h text work t e = rw e (go (rust_any_order order h t))
  where
    go : {c : Checked} {fs : List Fault} → Answers c fs → SpanOf c (first_record fs)
    go no_error = refl
    go first = (_, refl)
    go (captured {f} h i k p s e) = (drop 3 (record7 f), rw (k, s, e))

-- in the order of the reads, the message too
pub rust_message : (text : Bytes) (work out : ℕ) (t : Tree) → reading text work ≡ tree t → message text work 0 out ≡ worded (analyze_with_globals as_read t) out
rust_message text work out t e = ap (message_in 0 out) e ∙ go (faults t) ∙ ap (λ c. worded c out) (sym (rust_walk t))
  where
    go : (fs : List Fault) → message_or out (nth_fault fs 0) ≡ worded (first_error fs) out
    go [] = refl
    go (f ∷ fs) = refl
