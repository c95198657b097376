-- What the theorems share: an answer says which case of the code's it is, and the answers of the definitions by cases of the text.
use Rattle.std.proofs.Common.{ℕ, zero, suc, ◌*◌, ◌<◌, ◌≤◌, arith, ◌≡◌, refl, sym, ap, ◌∙◌, subst, Bool, true, false, List, [], ◌∷◌, leb, ltb, length, get_or, take, drop, ltb-true, ltb-false, leb-true, None, Some, Result, Ok, Err}
use Rattle.std.proofs.Math.Option.{Option, none, some}
use Rattle.std.proofs.Math.Seq.{take-append_seam}
use Rattle.spec_text.specs.Bytes.{Bytes, between}
use Rattle.spec_text.specs.Tree.{Tree}
use Rattle.spec_text.specs.Reading.{Reading, tree, refusal, reading}
use Rattle.spec_text.proofs.Lists.{and_split}
use Rattle.spec_text.proofs.Theorems.{refusal_numbers}
use Rattle.spec_faults.specs.Faults.{Fault, faults, record_length, records, message_of}
use Rattle.spec_faults.specs.KindsModel.{kind_by_number}
use Rattle.spec_faults.proofs.KindNumbers.{kind_again}
use Rattle.spec_faults.proofs.Lists.{All, none as All-none, also}
use Rattle.spec_answers.specs.Answers.{Answer, accepted, written, faulty, refused, refused_at, Outcome, over, refusing, reported, report_of, nth_fault, wrote_if, message_in}
use Rattle.spec_answers.proofs.Theorems.{records_length}
use Rattle.report_records.specs.declared.Record.{Record}
use Rattle.serduzhap.specs.Calls.{check_says, report_says, message_says}
use Rattle.std.specs.Prelude.{Option as Maybe}
use Rattle.spec_text.specs.Numbers.{refusal_number}
use Rattle.spec_text.specs.declared.refusal.Refusal.{Refusal}
use Rattle.spec_text.specs.declared.refusal.Refusal.TheVariants.{TextTooLong, WorkTooShort, LineMissing, LineLeft, Malformed, NotDue, OverLimit}
use Rattle.spec_text.proofs.Numbers.{one_refused}
use Rattle.spec_text.specs.declared.refusal.Refused.{Refused}
use Rattle.serduzhap.specs.declared.ReportError.{ReportError}
use Rattle.serduzhap.specs.declared.ReportError.TheVariants as R
use Rattle.serduzhap.specs.declared.MessageError.{MessageError}
use Rattle.serduzhap.specs.declared.MessageError.TheVariants as M
use Rattle.serduzhap_c.specs.Numbers.{numbers}

-- ---- an answer says which case it is
-- the record of a fault
abbrev record_of : Answer → Record
record_of a =
    let ns = numbers a in
    record { kind = kind_by_number (get_or ns 0 0); start = get_or ns 1 0; end = get_or ns 2 0; name = record { offset = get_or ns 3 0; len = get_or ns 4 0 }; class = record { offset = get_or ns 5 0; len = get_or ns 6 0 } }

-- so many records or bytes were written
abbrev pub count : Answer → ℕ
count accepted = 0
count (written k) = k
count (faulty ns) = 0
count (refused k vs) = 0

pub check_says_lem : (c d : Result (Maybe Record) Refused) → check_says c ≡ check_says d → c ≡ d
check_says_lem (Ok None) (Ok None) e = refl
check_says_lem (Ok (Some r)) (Ok (Some q)) e = rw (kind_again r.kind, kind_again q.kind) at (ap {B = Result (Maybe Record) Refused} (λ a. Ok (Some (record_of a))) e)
check_says_lem (Err r) (Err q) e =
    let a : refusal_number r.why ≡ refusal_number q.why = cc in
    let b : r.line ≡ q.line = cc in
    ap Err (one_refused a b)
check_says_lem (Ok None) (Ok (Some q)) e = absurd cc
check_says_lem (Ok None) (Err q) e = absurd cc
check_says_lem (Ok (Some r)) (Ok None) e = absurd cc
check_says_lem (Ok (Some r)) (Err q) e = absurd cc
check_says_lem (Err r) (Ok None) e = absurd cc
check_says_lem (Err r) (Ok (Some q)) e = absurd cc

-- a text's refusal has another number than 16
why_small : (w : Refusal) → refusal_number w ≤ 7
why_small TextTooLong = omega arith
why_small WorkTooShort = omega arith
why_small LineMissing = omega arith
why_small LineLeft = omega arith
why_small Malformed = omega arith
why_small NotDue = omega arith
why_small OverLimit = omega arith

pub report_says_lem : (r q : Result ℕ ReportError) → report_says r ≡ report_says q → r ≡ q
report_says_lem (Ok j) (Ok k) e = let a : j ≡ k = cc in rw a
report_says_lem (Err (R.Refused c)) (Err (R.Refused d)) e =
    let a : refusal_number c.why ≡ refusal_number d.why = cc in
    let b : c.line ≡ d.line = cc in
    ap (λ (x : Refused). Err (R.Refused x)) (one_refused a b)
report_says_lem (Err (R.OutputTooShort m)) (Err (R.OutputTooShort n)) e = let a : m ≡ n = cc in rw a
report_says_lem (Err (R.Refused c)) (Err (R.OutputTooShort n)) e = let a : refusal_number c.why ≡ 16 = cc in absurd (omega (arith, a, why_small c.why))
report_says_lem (Err (R.OutputTooShort n)) (Err (R.Refused c)) e = let a : 16 ≡ refusal_number c.why = cc in absurd (omega (arith, a, why_small c.why))
report_says_lem (Ok j) (Err (R.Refused c)) e = absurd cc
report_says_lem (Ok j) (Err (R.OutputTooShort n)) e = absurd cc
report_says_lem (Err (R.Refused c)) (Ok k) e = absurd cc
report_says_lem (Err (R.OutputTooShort n)) (Ok k) e = absurd cc

pub message_says_lem : (r q : Result ℕ MessageError) → message_says r ≡ message_says q → r ≡ q
message_says_lem (Ok j) (Ok k) e = let a : j ≡ k = cc in rw a
message_says_lem (Err (M.Refused c)) (Err (M.Refused d)) e =
    let a : refusal_number c.why ≡ refusal_number d.why = cc in
    let b : c.line ≡ d.line = cc in
    ap (λ (x : Refused). Err (M.Refused x)) (one_refused a b)
message_says_lem (Err M.NoFault) (Err M.NoFault) e = refl
message_says_lem (Err M.TooLong) (Err M.TooLong) e = refl
message_says_lem (Ok j) (Err (M.Refused d)) e = absurd cc
message_says_lem (Ok j) (Err M.NoFault) e = absurd cc
message_says_lem (Ok j) (Err M.TooLong) e = absurd cc
message_says_lem (Err (M.Refused c)) (Ok k) e = absurd cc
message_says_lem (Err (M.Refused c)) (Err M.NoFault) e = absurd cc
message_says_lem (Err (M.Refused c)) (Err M.TooLong) e = absurd cc
message_says_lem (Err M.NoFault) (Ok k) e = absurd cc
message_says_lem (Err M.NoFault) (Err (M.Refused d)) e = absurd cc
message_says_lem (Err M.NoFault) (Err M.TooLong) e = let z : ◌≡◌ {A = ℕ} 17 18 = cc in absurd (omega arith)
message_says_lem (Err M.TooLong) (Ok k) e = absurd cc
message_says_lem (Err M.TooLong) (Err (M.Refused d)) e = absurd cc
message_says_lem (Err M.TooLong) (Err M.NoFault) e = let z : ◌≡◌ {A = ℕ} 18 17 = cc in absurd (omega arith)

-- ---- what a report is, by cases of the text and of the output's length
abbrev pub whole : ℕ → List ℕ → Outcome
whole n ns = record { answer = written n; writes = ns }

pub data Report (out : ℕ) : Reading → Outcome → Type 0 where
  report_refused : {k n : ℕ} → Report out (refusal k n) (refusing (refused_at k n))
  too_short : {t : Tree} → out < record_length * length (faults t) → Report out (tree t) (refusing (refused 16 (length (faults t) ∷ [])))
  report_written : {t : Tree} → record_length * length (faults t) ≤ out → Report out (tree t) (whole (length (faults t)) (records (faults t)))

pub report_by : (out : ℕ) (x : Reading) → Report out x (report_of out x)
report_by out (refusal k n) = report_refused
report_by out (tree t) = go (ltb out (record_length * length (faults t))) refl
  where
    go : (b : Bool) → ltb out (record_length * length (faults t)) ≡ b → Report out (tree t) (reported out (faults t))
    go true e = rw (e, reported) (too_short (ltb-true out (record_length * length (faults t)) e))
    go false e = rw (e, reported) (report_written (ltb-false out (record_length * length (faults t)) e))

-- ---- what a message is
pub data Message (i out : ℕ) : Reading → Outcome → Type 0 where
  message_refused : {k n : ℕ} → Message i out (refusal k n) (refusing (refused_at k n))
  no_fault : {t : Tree} → length (faults t) ≤ i → Message i out (tree t) (refusing (refused 17 []))
  too_long : {t : Tree} {f : Fault} → nth_fault (faults t) i ≡ some f → out < length (message_of f) → Message i out (tree t) (refusing (refused 18 []))
  message_written : {t : Tree} {f : Fault} → nth_fault (faults t) i ≡ some f → length (message_of f) ≤ out
      → Message i out (tree t) (whole (length (message_of f)) (message_of f))

nth_none : (fs : List Fault) (i : ℕ) → nth_fault fs i ≡ none → length fs ≤ i
nth_none [] i e = omega arith
nth_none (f ∷ fs) zero e = absurd cc
nth_none (f ∷ fs) (suc i) e = omega (arith, nth_none fs i e)

pub none_nth : (fs : List Fault) (i : ℕ) → length fs ≤ i → nth_fault fs i ≡ none
none_nth [] i h = refl
none_nth (f ∷ fs) zero h = absurd (omega arith)
none_nth (f ∷ fs) (suc i) h = none_nth fs i (omega arith)

pub message_by : (i out : ℕ) (x : Reading) → Message i out x (message_in i out x)
message_by i out (refusal k n) = message_refused
message_by i out (tree t) = go (nth_fault (faults t) i) refl
  where
    fits : (f : Fault) → nth_fault (faults t) i ≡ some f → (b : Bool) → ltb out (length (message_of f)) ≡ b → Message i out (tree t) (wrote_if out (message_of f))
    fits f d true e = rw (e, wrote_if) (too_long d (ltb-true out (length (message_of f)) e))
    fits f d false e = rw (e, wrote_if) (message_written d (ltb-false out (length (message_of f)) e))

    go : (o : Option Fault) → nth_fault (faults t) i ≡ o → Message i out (tree t) (message_in i out (tree t))
    go none e = rw e (no_fault (nth_none (faults t) i e))
    go (some f) e = rw e (fits f e (ltb out (length (message_of f))) refl)

pub all_nth : {P : Fault → Type 0} {fs : List Fault} → All P fs → (i : ℕ) {f : Fault} → nth_fault fs i ≡ some f → P f
all_nth All-none i e = absurd cc
all_nth {P} (also {a} h r) zero {f} e = let z : a ≡ f = cc in subst P z h
all_nth (also h r) (suc i) e = all_nth r i e

-- ---- what is written is as long as the answer says
pub report_counts : {out : ℕ} {x : Reading} {o : Outcome} → Report out x o → length o.writes ≡ record_length * count o.answer
report_counts report_refused = refl
report_counts (too_short h) = refl
report_counts (report_written {t} h) = records_length (faults t)

pub message_counts : {i out : ℕ} {x : Reading} {o : Outcome} → Message i out x o → length o.writes ≡ count o.answer
message_counts message_refused = refl
message_counts (no_fault h) = refl
message_counts (too_long d h) = refl
message_counts (message_written d h) = refl

-- ---- outputs that an outcome was written over begin alike
begins : (ns old : List ℕ) {n : ℕ} → length ns ≡ n → take n (over ns old) ≡ ns
begins ns old e = ap (λ n. take n (over ns old)) (sym e) ∙ take-append_seam ns (drop (length ns) old)

pub alike : (o : Outcome) (old old' : List ℕ) {new new' : List ℕ} {n : ℕ} → length o.writes ≡ n → new ≡ over o.writes old → new' ≡ over o.writes old'
    → take n new ≡ take n new'
alike o old old' {n = n} e a b = ap (take n) a ∙ begins o.writes old e ∙ sym (begins o.writes old' e) ∙ sym (ap (take n) b)

-- ---- a reading is one tree or one refusal
pub one_tree : {t t' : Tree} → tree t ≡ tree t' → t ≡ t'
one_tree e = cc

pub one_refusal : {j k m n : ℕ} → refusal j m ≡ refusal k n → (j ≡ k) × (m ≡ n)
one_refusal e = (cc, cc)

pub one_reading : {x : Reading} {k n : ℕ} {t : Tree} → x ≡ refusal k n → x ≡ tree t → ⊥
one_reading e f = cc

-- "A refusal has a number from 1 to 7"
pub refusal_range : (text : Bytes) (work : ℕ) {k n : ℕ} → reading text work ≡ refusal k n → (1 ≤ k) × (k ≤ 7)
refusal_range text work {k} {n} e =
    let p = and_split (between 1 7 k) _ (refusal_numbers text work k n e) in
    let q = and_split (leb 1 k) (leb k 7) p.0 in
    (leb-true 1 k q.0, leb-true k 7 q.1)
