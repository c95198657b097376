-- The demands, as theorems about the public calls: demand 1 for each call, demands 2 and 3.
use Rattle.std.proofs.Common.{ℕ, ◌*◌, ◌≤◌, arith, ◌≡◌, refl, sym, ap, ap₂, ◌∙◌, subst, ◌⊎◌, inl, inr, List, [], ◌∷◌, length, take, drop, lt-ltb, le-ltb, None, Result, Ok, Err}
use Rattle.std.proofs.Math.Seq.{take-append_seam, drop-append_seam}
use Rattle.spec_text.specs.Bytes.{Bytes}
use Rattle.spec_text.specs.Tree.{Tree}
use Rattle.spec_text.specs.Reading.{Reading, tree, refusal, reading}
use Rattle.spec_text.proofs.Theorems.{first_refusal, second_refusal}
use Rattle.spec_faults.specs.Faults.{faults, record_length, records, full_report, message_of}
use Rattle.spec_faults.specs.Rust.{analyze_with_globals}
use Rattle.spec_faults.proofs.FaultKinds.{kinds}
use Rattle.spec_faults.proofs.Theorems.{each_fault_once, in_order, rust_any_order}
use Rattle.spec_answers.specs.Answers.{written, faulty, refused, refused_at, first_record, check_of, Outcome, over, reported, report_of, report, wrote_if, message_or, message_in, message, name_of, name_in}
use Rattle.spec_answers.specs.RustAnswers.{SpanOf}
use Rattle.spec_answers.proofs.Theorems.{records_length, rust_check, rust_message}
use Rattle.serduzhap.specs.Calls.{check_says, Checks, Gives, report_says, Reports, message_says, Messages, part_says, Names}
use Rattle.std.specs.Prelude.{Option as Maybe}
use Rattle.spec_text.specs.declared.refusal.Refused.{Refused}
use Rattle.serduzhap.specs.declared.ReportError.{ReportError}
use Rattle.serduzhap.specs.declared.MessageError.{MessageError}
use Rattle.serduzhap.specs.declared.MessageError.TheVariants as M
use Rattle.report_records.specs.declared.Record.{Record}
use Rattle.read_bytes.specs.declared.name_part.NamePart.{NamePart}
use Rattle.proof_calls.specs.Demands.{Refusals, TooMany, AllFit, NoFault, TooLong, Fits, CheckRefuses, ReportRefuses, MessageRefuses, NameIsEmpty, SameReport, SameMessage, Demand2, Demand3}
use Rattle.proof_calls.proofs.Agreed.{count, check_says_lem, report_says_lem, message_says_lem, whole, Report, report_refused, too_short, report_written, report_by, Message, message_refused, no_fault, too_long, message_written, message_by, none_nth, all_nth, report_counts, message_counts, alike, refusal_range}
use Rattle.proof_calls.proofs.Passed.{passed, first_none}

-- ==== Demand 1
refusals : (text : Bytes) (work : ℕ) → Refusals text work
refusals text work = record { first = first_refusal text work; second = second_refusal text work; numbers = λ k n e. refusal_range text work e }

pub check_refuses : (text : Bytes) (work : ℕ) (c : Result (Maybe Record) Refused) → Checks text work c → CheckRefuses text work c
check_refuses text work c h = record { refusals = refusals text work; refused = (passed text work c h).refused }

-- ---- report: a refusal and its condition, by cases of the text and of the output's length
module _ (out : ℕ) where
  abbrev Short : Reading → ℕ → ℕ → Type 0
  Short x k n = (x ≡ refusal k n) ⊎ ((k ≡ 16) × TooMany x out n)

  short_from : {x : Reading} {o : Outcome} → Report out x o → {k n : ℕ} → refused_at k n ≡ o.answer → Short x k n
  short_from report_refused e = inl cc
  short_from (too_short {t} h) e = inr (cc, (t, refl, h, cc))
  short_from (report_written h) e = absurd cc

  from_short : (x : Reading) {k n : ℕ} → Short x k n → (report_of out x).answer ≡ refused_at k n
  from_short x (inl e) = ap (λ y. (report_of out y).answer) e
  from_short x (inr p) =
      let fs = faults p.1.0 in
      let r : (reported out fs).answer ≡ refused 16 (length fs ∷ []) = rw (lt-ltb out (record_length * length fs) p.1.2, reported) in
      ap (λ y. (report_of out y).answer) p.1.1 ∙ r ∙ ap₂ refused_at (sym p.0) (sym p.1.3)

  holds_from : {x : Reading} {o : Outcome} → Report out x o → {n : ℕ} → written n ≡ o.answer → AllFit x out n
  holds_from report_refused e = absurd cc
  holds_from (too_short h) e = absurd cc
  holds_from (report_written {t} h) e = (t, refl, h, cc)

  from_holds : (x : Reading) {n : ℕ} → AllFit x out n → (report_of out x).answer ≡ written n
  from_holds x p =
      let fs = faults p.0 in
      let r : (reported out fs).answer ≡ written (length fs) = rw (le-ltb out (record_length * length fs) p.2, reported) in
      ap (λ y. (report_of out y).answer) p.1 ∙ r ∙ ap written (sym p.3)

  -- a refusal writes nothing
  report_quiet : {x : Reading} {o : Outcome} → Report out x o → {k n : ℕ} → refused_at k n ≡ o.answer → o.writes ≡ []
  report_quiet report_refused e = refl
  report_quiet (too_short h) e = refl
  report_quiet (report_written h) e = absurd cc

pub report_refuses : (text : Bytes) (work : ℕ) (old new : List ℕ) (r : Result ℕ ReportError) → Reports text work old new r → ReportRefuses text work old new r
report_refuses text work old new r h =
    let out = length old in
    let x = reading text work in
    let by = report_by out x in
    record {
      refusals = refusals text work;
      refused = λ k n. (λ e. short_from out by (sym e ∙ h.0), λ p. h.0 ∙ from_short out x p);
      written = λ n. (λ e. holds_from out by (sym (ap report_says e) ∙ h.0), λ p. report_says_lem r (Ok n) (h.0 ∙ from_holds out x p));
      unchanged = λ k n e. h.1 ∙ ap (λ ns. over ns old) (report_quiet out by (sym e ∙ h.0));
    }

-- ---- message: the same
module _ (i out : ℕ) where
  refused_from : {x : Reading} {o : Outcome} → Message i out x o → {k n : ℕ} → refused_at k n ≡ o.answer → x ≡ refusal k n
  refused_from message_refused e = cc
  refused_from (no_fault h) e = absurd cc
  refused_from (too_long d h) e = absurd cc
  refused_from (message_written d h) e = absurd cc

  without_from : {x : Reading} {o : Outcome} → Message i out x o → refused 17 [] ≡ o.answer → NoFault x i
  without_from message_refused e = absurd cc
  without_from (no_fault {t} h) e = (t, refl, h)
  without_from (too_long d h) e = let z : ◌≡◌ {A = ℕ} 17 18 = cc in absurd (omega arith)
  without_from (message_written d h) e = absurd cc

  longer_from : {x : Reading} {o : Outcome} → Message i out x o → refused 18 [] ≡ o.answer → TooLong x i out
  longer_from message_refused e = absurd cc
  longer_from (no_fault h) e = let z : ◌≡◌ {A = ℕ} 18 17 = cc in absurd (omega arith)
  longer_from (too_long {t} {f} d h) e = (t, f, refl, d, h)
  longer_from (message_written d h) e = absurd cc

  fits_from : {x : Reading} {o : Outcome} → Message i out x o → {n : ℕ} → written n ≡ o.answer → Fits x i out n
  fits_from message_refused e = absurd cc
  fits_from (no_fault h) e = absurd cc
  fits_from (too_long d h) e = absurd cc
  fits_from (message_written {t} {f} d h) e = (t, f, refl, d, h, cc)

  -- a refusal writes nothing
  message_quiet : {x : Reading} {o : Outcome} → Message i out x o → ((n : ℕ) → written n ≡ o.answer → ⊥) → o.writes ≡ []
  message_quiet message_refused e = refl
  message_quiet (no_fault h) e = refl
  message_quiet (too_long d h) e = refl
  message_quiet (message_written {f = f} d h) e = absurd (e (length (message_of f)) refl)

  from_refused : (x : Reading) {k n : ℕ} → x ≡ refusal k n → (message_in i out x).answer ≡ refused_at k n
  from_refused x e = ap (λ y. (message_in i out y).answer) e

  from_without : (x : Reading) → NoFault x i → (message_in i out x).answer ≡ refused 17 []
  from_without x p = ap (λ y. (message_in i out y).answer) p.1 ∙ ap (λ o. (message_or out o).answer) (none_nth (faults p.0) i p.2)

  from_longer : (x : Reading) → TooLong x i out → (message_in i out x).answer ≡ refused 18 []
  from_longer x p =
      let m = message_of p.1 in
      let r : (wrote_if out m).answer ≡ refused 18 [] = rw (lt-ltb out (length m) p.4, wrote_if) in
      ap (λ y. (message_in i out y).answer) p.2 ∙ ap (λ o. (message_or out o).answer) p.3 ∙ r

  from_fits : (x : Reading) {n : ℕ} → Fits x i out n → (message_in i out x).answer ≡ written n
  from_fits x p =
      let m = message_of p.1 in
      let r : (wrote_if out m).answer ≡ written (length m) = rw (le-ltb out (length m) p.4, wrote_if) in
      ap (λ y. (message_in i out y).answer) p.2 ∙ ap (λ o. (message_or out o).answer) p.3 ∙ r ∙ ap written (sym p.5)

pub message_refuses : (text : Bytes) (work i : ℕ) (old new : Bytes) (r : Result ℕ MessageError) → Messages text work i old new r → MessageRefuses text work i old new r
message_refuses text work i old new r h =
    let out = length old in
    let x = reading text work in
    let by = message_by i out x in
    record {
      refusals = refusals text work;
      refused = λ k n. (λ e. refused_from i out by (sym e ∙ h.0), λ p. h.0 ∙ from_refused i out x p);
      no_fault = (λ e. without_from i out by (sym (ap message_says e) ∙ h.0), λ p. message_says_lem r (Err M.NoFault) (h.0 ∙ from_without i out x p));
      too_long = (λ e. longer_from i out by (sym (ap message_says e) ∙ h.0), λ p. message_says_lem r (Err M.TooLong) (h.0 ∙ from_longer i out x p));
      written = λ n. (λ e. fits_from i out by (sym (ap message_says e) ∙ h.0), λ p. message_says_lem r (Ok n) (h.0 ∙ from_fits i out x p));
      unchanged = λ u. h.1 ∙ ap (λ ns. over ns old) (message_quiet i out by (λ n e. u n (message_says_lem r (Ok n) (h.0 ∙ sym e))));
    }

-- ---- name
pub name_is_empty : (text : Bytes) (work i : ℕ) (r : NamePart) → Names text work i r → NameIsEmpty text work i r
name_is_empty text work i r h =
    record {
      kind_14 = λ t f e d k. h.0 ∙ ap (λ x. part_says (name_in i x)) e ∙ ap (λ o. part_says (name_of o)) d ∙ ap part_says ((all_nth (kinds t) i d).nameless k);
      refused = λ k n e. h.0 ∙ ap (λ x. part_says (name_in i x)) e;
      no_fault = λ p. h.0 ∙ ap (λ x. part_says (name_in i x)) p.1 ∙ ap (λ o. part_says (name_of o)) (none_nth (faults p.0) i p.2);
    }

-- ---- two calls on one text, with buffers of the same lengths
pub one_check : (text : Bytes) (work : ℕ) (c d : Result (Maybe Record) Refused) → Checks text work c → Checks text work d → c ≡ d
one_check text work c d a b = check_says_lem c d (a ∙ sym b)

pub one_report : (text : Bytes) (work : ℕ) (old old' new new' : List ℕ) (r r' : Result ℕ ReportError) → length old ≡ length old'
    → Reports text work old new r → Reports text work old' new' r' → SameReport new new' r r'
one_report text work old old' new new' r r' e a b =
    let o = report text work (length old) in
    let c : Gives o old' new' (report_says r') = subst (λ n. Gives (report text work n) old' new' (report_says r')) (sym e) b in
    record {
      answer = report_says_lem r r' (a.0 ∙ sym c.0);
      writes = λ n d.
          let l = report_counts (report_by (length old) (reading text work)) ∙ ap (λ x. record_length * count x) (sym a.0 ∙ ap report_says d) in
          alike o old old' l a.1 c.1;
    }

pub one_message : (text : Bytes) (work i : ℕ) (old old' new new' : Bytes) (r r' : Result ℕ MessageError) → length old ≡ length old'
    → Messages text work i old new r → Messages text work i old' new' r' → SameMessage new new' r r'
one_message text work i old old' new new' r r' e a b =
    let o = message text work i (length old) in
    let c : Gives o old' new' (message_says r') = subst (λ n. Gives (message text work i n) old' new' (message_says r')) (sym e) b in
    record {
      answer = message_says_lem r r' (a.0 ∙ sym c.0);
      writes = λ n d.
          let l = message_counts (message_by i (length old) (reading text work)) ∙ ap count (sym a.0 ∙ ap message_says d) in
          alike o old old' l a.1 c.1;
    }

pub one_name : (text : Bytes) (work i : ℕ) (r r' : NamePart) → Names text work i r → Names text work i r' → r ≡ r'
one_name text work i r r' a b = a.0 ∙ sym b.0

-- ==== Demand 2, by proof
pub demand_2 : (text : Bytes) (t : Tree) (work work' : ℕ) (old new : Bytes) (c : Result (Maybe Record) Refused) (m : Result ℕ MessageError) → reading text work ≡ tree t → reading text work' ≡ tree t
    → Checks text work c → Messages text work' 0 old new m → Demand2 t old new c m
demand_2 text t work work' old new c m e e' a b =
    record {
      kind_and_span = λ order h. subst (SpanOf (analyze_with_globals order t)) (sym a) (rust_check order h text work t e);
      listed = λ order h. rust_any_order order h t;
      words = subst (λ o. Gives o old new (message_says m)) (rust_message text work' (length old) t e') b;
    }

-- ==== Demand 3
-- whatever the two work buffers and the output held: only their lengths are named, and both calls take the text as this tree
pub demand_3 : (text : Bytes) (t : Tree) (work work' : ℕ) (old new : List ℕ) (r : Result ℕ ReportError) (c : Result (Maybe Record) Refused) → reading text work ≡ tree t → reading text work' ≡ tree t
    → Reports text work old new r → Checks text work' c → length (full_report t) ≤ length old → Demand3 t old new r c
demand_3 text t work work' old new r c e e' a b h =
    let room : record_length * length (faults t) ≤ length old = subst (λ n. n ≤ length old) (records_length (faults t)) h in
    let all : report text work (length old) ≡ whole (length (faults t)) (full_report t) =
    ap (report_of (length old)) e ∙ rw (le-ltb (length old) (record_length * length (faults t)) room, reported) in
    let out : new ≡ over (full_report t) old = a.1 ∙ ap (λ (o : Outcome). over o.writes old) all in
    let says : check_says c ≡ first_record (faults t) = b ∙ ap check_of e' in
    record {
      records = ap (take (length (full_report t))) out ∙ take-append_seam (full_report t) (drop (length (full_report t)) old);
      nothing_else = ap (drop (length (full_report t))) out ∙ drop-append_seam (full_report t) (drop (length (full_report t)) old);
      count = report_says_lem r (Ok (length (faults t))) (a.0 ∙ ap (λ (o : Outcome). o.answer) all);
      once = each_fault_once t;
      order = in_order t;
      accepts = (λ i. first_none (faults t) (sym (ap check_says i) ∙ says), λ i. check_says_lem c (Ok None) (says ∙ ap first_record i));
      first = λ f fs i. says ∙ ap first_record i ∙ ap (λ ns. faulty (take record_length ns)) (sym (out ∙ ap (λ gs. over (records gs) old) i));
    }
