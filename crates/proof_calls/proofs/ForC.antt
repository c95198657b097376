-- The same theorems of the calls for C.
use Rattle.std.proofs.Common.{ℕ, ◌*◌, ◌≤◌, arith, ◌≡◌, refl, sym, ap, ◌∙◌, subst, inl, inr, cond, List, [], ◌∷◌, length, ne_eqb}
use Rattle.spec_text.specs.Bytes.{Bytes}
use Rattle.spec_text.specs.Reading.{Reading, tree, refusal, reading}
use Rattle.spec_faults.specs.Faults.{Fault, faults, record_length}
use Rattle.spec_faults.proofs.Lists.{All, also}
use Rattle.spec_faults.proofs.FaultKinds.{FromEight, kinds}
use Rattle.spec_answers.specs.Answers.{Answer, accepted, first_record, check_of, check, Outcome, over, report, message, name}
use Rattle.serduzhap_c.specs.Numbers.{answer_of, part_answer}
use Rattle.proof_calls.specs.ForC.{number, value, Numbered, PassedC, count, SameReportC, SameMessageC}
use Rattle.proof_calls.proofs.Agreed as A
use Rattle.proof_calls.proofs.Agreed.{Report, report_refused, too_short, report_written, report_by, Message, message_refused, no_fault, too_long, message_written, message_by, report_counts, message_counts, alike, refusal_range}
use Rattle.proof_calls.proofs.Passed.{passes_if}

-- the answer of check, as seven numbers
abbrev seven : Answer → List ℕ
seven a = answer_of 7 a

-- ---- the number of an answer: 100 is `accepted`, 1 to 7 a refusal, 8 to 15 a fault
first_accepted : (fs : List Fault) → All FromEight fs → number (seven (first_record fs)) ≡ 100 → accepted ≡ first_record fs
first_accepted [] h e = refl
first_accepted (f ∷ fs) (also h r) e = absurd (omega (arith, h.most, e))

first_other : (fs : List Fault) → All FromEight fs → number (seven (first_record fs)) ≤ 7 → ⊥
first_other [] h m = omega arith
first_other (f ∷ fs) (also h r) m = omega (arith, h.least, m)

first_numbered : (fs : List Fault) → All FromEight fs → Numbered 100 15 (seven (first_record fs))
first_numbered [] h = inl refl
first_numbered (f ∷ fs) (also h r) = inr (omega (arith, h.least), h.most)

module _ (text : Bytes) (work : ℕ) where
  -- a refusal's number
  refusal_numbered : (i last : ℕ) {k n : ℕ} (vs : List ℕ) → 7 ≤ last → reading text work ≡ refusal k n → Numbered i last (k ∷ vs)
  refusal_numbered i last vs m e = let l = refusal_range text work e in inr (l.0, omega (arith, m, l.1))

  number_accepted : (x : Reading) → reading text work ≡ x → number (seven (check_of x)) ≡ 100 → accepted ≡ check_of x
  number_accepted (tree t) d e = first_accepted (faults t) (kinds t) e
  number_accepted (refusal k n) d e = absurd (omega (arith, (refusal_range text work d).1, e))

  number_refused : (x : Reading) {k n : ℕ} → number (seven (check_of x)) ≡ k → value (seven (check_of x)) ≡ n → k ≤ 7 → x ≡ refusal k n
  number_refused (tree t) {k} a b m = absurd (first_other (faults t) (kinds t) (subst (λ i. i ≤ 7) (sym a) m))
  number_refused (refusal j i) a b m = cc

  check_numbered : (x : Reading) → reading text work ≡ x → Numbered 100 15 (seven (check_of x))
  check_numbered (tree t) d = first_numbered (faults t) (kinds t)
  check_numbered (refusal k n) d = refusal_numbered 100 15 (n ∷ 0 ∷ 0 ∷ 0 ∷ 0 ∷ 0 ∷ []) (omega arith) d

  pub passed_c : (r : List ℕ) → r ≡ answer_of 7 (check text work) → PassedC text work r
  passed_c r h =
      let x = reading text work in
      let a : number r ≡ number (seven (check_of x)) = ap number h in
      let b : value r ≡ value (seven (check_of x)) = ap value h in
      record {
        accepted = (λ e. (passes_if text work).0 (number_accepted x refl (sym a ∙ e)), λ p. a ∙ sym (ap (λ y. number (seven y)) ((passes_if text work).1 p)));
        refused = λ k n. (
          λ e. (a ∙ ap (λ y. number (seven (check_of y))) e, b ∙ ap (λ y. value (seven (check_of y))) e, (refusal_range text work e).0, (refusal_range text work e).1),
          λ p. number_refused x (sym a ∙ p.0) (sym b ∙ p.1) p.3,
        );
        kinds = subst (Numbered 100 15) (sym h) (check_numbered x refl);
      }

  -- ---- what a report or a message is, in numbers
  none_written : {k n : ℕ} → reading text work ≡ refusal k n → count (k ∷ n ∷ []) ≡ 0
  none_written {k} {n} e = ap (λ b. cond b n 0) (ne_eqb k 101 (λ d. omega (arith, (refusal_range text work e).1, d)))

  report_numbered : {out : ℕ} {x : Reading} {o : Outcome} → reading text work ≡ x → Report out x o → Numbered 101 16 (answer_of 2 o.answer)
  report_numbered e (report_refused {k} {n}) = refusal_numbered 101 16 (n ∷ []) (omega arith) e
  report_numbered e (too_short h) = inr (omega arith, omega arith)
  report_numbered e (report_written h) = inl refl

  report_count : {out : ℕ} {x : Reading} {o : Outcome} → reading text work ≡ x → Report out x o → A.count o.answer ≡ count (answer_of 2 o.answer)
  report_count e report_refused = sym (none_written e)
  report_count e (too_short h) = refl
  report_count e (report_written h) = refl

  message_numbered : {i out : ℕ} {x : Reading} {o : Outcome} → reading text work ≡ x → Message i out x o → Numbered 101 18 (answer_of 2 o.answer)
  message_numbered e (message_refused {k} {n}) = refusal_numbered 101 18 (n ∷ []) (omega arith) e
  message_numbered e (no_fault h) = inr (omega arith, omega arith)
  message_numbered e (too_long d h) = inr (omega arith, omega arith)
  message_numbered e (message_written d h) = inl refl

  message_count : {i out : ℕ} {x : Reading} {o : Outcome} → reading text work ≡ x → Message i out x o → A.count o.answer ≡ count (answer_of 2 o.answer)
  message_count e message_refused = sym (none_written e)
  message_count e (no_fault h) = refl
  message_count e (too_long d h) = refl
  message_count e (message_written d h) = refl

-- ---- two calls on one text, with buffers of the same lengths
pub one_check_c : (text : Bytes) (work : ℕ) (r r' : List ℕ) → r ≡ answer_of 7 (check text work) → r' ≡ answer_of 7 (check text work) → r ≡ r'
one_check_c text work r r' a b = a ∙ sym b

pub one_name_c : (text : Bytes) (work i : ℕ) (r r' : List ℕ) → r ≡ part_answer (name text work i) → r' ≡ part_answer (name text work i) → r ≡ r'
one_name_c text work i r r' a b = a ∙ sym b

pub one_report_c : (text : Bytes) (work : ℕ) (old old' new new' r r' : List ℕ) → length old ≡ length old'
    → (r ≡ answer_of 2 (report text work (length old)).answer) × (new ≡ over (report text work (length old)).writes old)
    → (r' ≡ answer_of 2 (report text work (length old')).answer) × (new' ≡ over (report text work (length old')).writes old')
    → SameReportC new new' r r'
one_report_c text work old old' new new' r r' e a b =
    let o = report text work (length old) in
    let w : report text work (length old') ≡ o = ap (report text work) (sym e) in
    let p = report_by (length old) (reading text work) in
    let l : length o.writes ≡ record_length * count r =
    report_counts p ∙ ap (λ n. record_length * n) (report_count text work refl p ∙ sym (ap count a.0)) in
    record {
      kinds = subst (Numbered 101 16) (sym a.0) (report_numbered text work refl p);
      answer = a.0 ∙ sym (b.0 ∙ ap (λ (o : Outcome). answer_of 2 o.answer) w);
      writes = alike o old old' l a.1 (b.1 ∙ ap (λ (o : Outcome). over o.writes old') w);
    }

pub one_message_c : (text : Bytes) (work i : ℕ) (old old' new new' : Bytes) (r r' : List ℕ) → length old ≡ length old'
    → (r ≡ answer_of 2 (message text work i (length old)).answer) × (new ≡ over (message text work i (length old)).writes old)
    → (r' ≡ answer_of 2 (message text work i (length old')).answer) × (new' ≡ over (message text work i (length old')).writes old')
    → SameMessageC new new' r r'
one_message_c text work i old old' new new' r r' e a b =
    let o = message text work i (length old) in
    let w : message text work i (length old') ≡ o = ap (message text work i) (sym e) in
    let p = message_by i (length old) (reading text work) in
    let l : length o.writes ≡ count r = message_counts p ∙ (message_count text work refl p ∙ sym (ap count a.0)) in
    record {
      kinds = subst (Numbered 101 18) (sym a.0) (message_numbered text work refl p);
      answer = a.0 ∙ sym (b.0 ∙ ap (λ (o : Outcome). answer_of 2 o.answer) w);
      writes = alike o old old' l a.1 (b.1 ∙ ap (λ (o : Outcome). over o.writes old') w);
    }
