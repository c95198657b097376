-- What is true of every script that check passes: the theorem, for every text and every length of the work buffer.
use Rattle.std.proofs.Common.{ℕ, ◌≤◌, arith, ◌≡◌, refl, sym, ap, ◌∙◌, ◌↔◌, List, [], ◌∷◌, None, Result, Ok}
use Rattle.spec_text.specs.Bytes.{Bytes}
use Rattle.spec_text.specs.Tree.{Tree}
use Rattle.spec_text.specs.Reading.{Reading, tree, refusal, reading}
use Rattle.spec_faults.specs.Faults.{Fault, faults}
use Rattle.spec_faults.proofs.Lists.{All, also}
use Rattle.spec_faults.proofs.FaultKinds.{FromEight, kinds}
use Rattle.spec_faults.proofs.Theorems.{rule_holds}
use Rattle.spec_answers.specs.Answers.{accepted, faulty, refused_at, first_record, check_of}
use Rattle.serduzhap.specs.Calls.{check_says, Checks}
use Rattle.std.specs.Prelude.{Option as Maybe}
use Rattle.spec_text.specs.declared.refusal.Refused.{Refused}
use Rattle.report_records.specs.declared.Record.{Record}
use Rattle.proof_calls.specs.Passed.{Passes, Passed}
use Rattle.proof_calls.proofs.Agreed.{check_says_lem, refusal_range, one_reading}

-- ---- the first record, and the faults that it is of
pub first_none : (fs : List Fault) → accepted ≡ first_record fs → fs ≡ []
first_none [] e = refl
first_none (f ∷ fs) e = absurd cc

pub first_refused : (fs : List Fault) {k n : ℕ} → refused_at k n ≡ first_record fs → ⊥
first_refused [] e = cc
first_refused (f ∷ fs) e = cc

first_kind : (fs : List Fault) → All FromEight fs → {k : ℕ} {ns : List ℕ} → faulty (k ∷ ns) ≡ first_record fs → (8 ≤ k) × (k ≤ 15)
first_kind [] h e = absurd cc
first_kind (f ∷ fs) (also h r) {k} e = let z : k ≡ f.kind = cc in (omega (arith, h.least), omega (arith, h.most))

-- ---- by cases of the text: an answer is a tree's or a refusal's
accepted_of : (x : Reading) → accepted ≡ check_of x → (t : Tree) × (x ≡ tree t) × (faults t ≡ [])
accepted_of (tree t) e = (t, refl, first_none (faults t) e)
accepted_of (refusal k n) e = absurd cc

refused_of : (x : Reading) {k n : ℕ} → refused_at k n ≡ check_of x → x ≡ refusal k n
refused_of (tree t) e = absurd (first_refused (faults t) e)
refused_of (refusal j m) {k} {n} e =
    let a : j ≡ k = cc in
    let b : m ≡ n = cc in
    rw (a, b)

kind_of : (x : Reading) {k : ℕ} {ns : List ℕ} → faulty (k ∷ ns) ≡ check_of x → (8 ≤ k) × (k ≤ 15)
kind_of (tree t) e = first_kind (faults t) (kinds t) e
kind_of (refusal j m) e = absurd cc

-- ---- the text is a tree of which the rule holds exactly when the answer is `accepted`
pub passes_if : (text : Bytes) (work : ℕ) → (accepted ≡ check_of (reading text work)) ↔ Passes text work
passes_if text work = (
  λ e. let a = accepted_of (reading text work) e in record { is = a.0; read = a.1; rule = (rule_holds a.0).0 a.2 },
  λ p. sym (ap check_of p.read ∙ ap first_record ((rule_holds p.is).1 p.rule)),
)

pub passed : (text : Bytes) (work : ℕ) (c : Result (Maybe Record) Refused) → Checks text work c → Passed text work c
passed text work c h =
    record {
      accepted = (λ e. (passes_if text work).0 (sym (ap check_says e) ∙ h), λ p. check_says_lem c (Ok None) (h ∙ sym ((passes_if text work).1 p)));
      refused = λ k n. (refused k n, λ e. h ∙ ap check_of e);
      not_passed = λ k n e p. one_reading e p.read;
      numbers = λ k n e. refusal_range text work (refused k n e);
      kinds = λ r e. kind_of (reading text work) (sym (ap check_says e) ∙ h);
    }
  where
    refused : (k n : ℕ) → check_says c ≡ refused_at k n → reading text work ≡ refusal k n
    refused k n e = refused_of (reading text work) (sym e ∙ h)
