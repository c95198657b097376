-- The answers of the calls by their cases: `find` answers by a count or a refusal, and what each call makes of it is what is defined.
use Rattle.std.proofs.Common.{ℕ, ◌*◌, ◌-◌, ◌<◌, ◌≤◌, arith, ◌≡◌, refl, sym, ap, subst, List, [], ◌∷◌, length, lt-ltb, le-ltb, le-leb, Result, Ok, Err}
use Rattle.std.specs.Result.{result_unwrap_or}
use Rattle.spec_text.specs.Bytes.{Bytes, Part, part_of}
use Rattle.spec_text.specs.declared.refusal.Refused.{Refused}
use Rattle.spec_text.specs.Tree.{Tree}
use Rattle.spec_text.specs.Reading.{Reading, tree, refusal}
use Rattle.spec_faults.specs.Faults.{Fault, faults, records}
use Rattle.spec_answers.specs.Answers.{written, faulty, refused, first_record, check_of, Outcome, over, refusing, reported, report_of, wrote_if, message_or, message_in, nth_fault, name_of, name_in}
use Rattle.read_bytes.specs.declared.name_part.NamePart.{NamePart}
use Rattle.report_records.specs.RecordsModel.{numbers_of, record_by, numbers, absent}
use Rattle.report_messages.specs.MessagesModel.{record_message}
use Rattle.find_faults.specs.Found.{Finds, Kept, Listed}
use Rattle.serduzhap.specs.Calls.{Gives, part_says}
use Rattle.write_records.specs.WriteModel.{records_of, record_at}
use Rattle.serduzhap.proofs.FaultWritten.{records_shown, name_shown, place_shown, message_shown, numbers_shown, at_none, at_some}

-- ---- where a name stands, and the part of the text that is there
abbrev pub Names : Bytes → NamePart → Part → Type 0
Names text p x = (p ≡ part_says x) × (part_of text p.offset p.len ≡ x.bytes)

no_part : (text : Bytes) → part_of text 0 0 ≡ []
no_part text = rw (le-leb 0 (length text) (omega arith), le-leb 0 (length text - 0) (omega arith))

-- ---- of a list of faults
module _ (text : Bytes) (w : List ℕ) (fs : List Fault) (s : Listed text fs w) where
  first_some : (length fs ≡ 0 → ⊥) → faulty (numbers (record_at text w 0)) ≡ first_record fs
  first_some = go fs s
    where
      go : (gs : List Fault) → Listed text gs w → (length gs ≡ 0 → ⊥) → faulty (numbers (record_at text w 0)) ≡ first_record gs
      go [] l d = absurd (d refl)
      go (f ∷ gs) l d = ap faulty (l 0 f refl).record'

  -- the output is shorter than the records, or they are written over it
  module _ (old : List ℕ) where
    reported_short : length old < 7 * length fs → Gives (reported (length old) fs) old old (refused 16 (length fs ∷ []))
    reported_short h =
        let e : reported (length old) fs ≡ refusing (refused 16 (length fs ∷ [])) = rw (lt-ltb (length old) (7 * length fs) h, reported) in
        subst (λ o. Gives o old old (refused 16 (length fs ∷ []))) (sym e) (refl, refl)

    reported_whole : 7 * length fs ≤ length old → Gives (reported (length old) fs) old (over (records_of text w 0 (length fs)) old) (written (length fs))
    reported_whole h =
        let whole : Outcome = record { answer = written (length fs); writes = records fs } in
        let e : reported (length old) fs ≡ whole = rw (le-ltb (length old) (7 * length fs) h, reported) in
        subst (λ o. Gives o old (over (records_of text w 0 (length fs)) old) (written (length fs))) (sym e)
        (refl, ap (λ ns. over ns old) (records_shown text w fs s))

  -- fault i
  module _ (i : ℕ) (l : i < length fs) where
    message_at : (m : ℕ) → wrote_if m (record_message text (record_at text w i)) ≡ message_or m (nth_fault fs i)
    message_at m =
        at_some (λ o. wrote_if m (record_message text (record_at text w i)) ≡ message_or m o) fs i l (λ f e. ap (wrote_if m) (message_shown text w (s i f e)))

    numbers_at : numbers_of (record_by (record_at text w i)) ≡ record_at text w i
    numbers_at =
        at_some (λ o. numbers_of (record_by (record_at text w i)) ≡ record_at text w i) fs i l (λ f e. numbers_shown text w (s i f e))

    name_at_lem : Names text (record_at text w i).name (name_of (nth_fault fs i))
    name_at_lem =
        at_some (λ o. Names text (record_at text w i).name (name_of o)) fs i l
        (λ f e. (place_shown text w (s i f e), name_shown text w (s i f e)))

-- ---- a count is a tree's
module _ {text : Bytes} {x : Reading} {w : List ℕ} {n : ℕ} (f : Finds text x w (Ok n)) where
  of_tree : (P : ℕ → Reading → Type 0) → ((t : Tree) → Kept text (tree t) w → P (length (faults t)) (tree t)) → P n x
  of_tree P go = by x f
    where
      by : (y : Reading) → Finds text y w (Ok n) → P n y
      by (tree t) g = let z : length (faults t) ≡ n = cc g.answer in subst (λ (k : ℕ). P k (tree t)) z (go t g.kept)
      by (refusal k l) g = absurd (cc g.answer)

  pub few : (length text < 65_537) × (n < 4_097)
  few = of_tree (λ n y. (length text < 65_537) × (n < 4_097)) (λ t k. k.1)

  pub check_faulty : (n ≡ 0 → ⊥) → faulty (numbers (record_at text w 0)) ≡ check_of x
  check_faulty = of_tree (λ n y. (n ≡ 0 → ⊥) → faulty (numbers (record_at text w 0)) ≡ check_of y) (λ t k. first_some text w (faults t) k.0)

  pub report_short : (old : List ℕ) → length old < 7 * n → Gives (report_of (length old) x) old old (refused 16 (n ∷ []))
  report_short old =
      of_tree (λ n y. length old < 7 * n → Gives (report_of (length old) y) old old (refused 16 (n ∷ [])))
      (λ t k. reported_short text w (faults t) k.0 old)

  pub report_written : (old : List ℕ) → 7 * n ≤ length old → Gives (report_of (length old) x) old (over (records_of text w 0 n) old) (written n)
  report_written old =
      of_tree (λ n y. 7 * n ≤ length old → Gives (report_of (length old) y) old (over (records_of text w 0 n) old) (written n))
      (λ t k. reported_whole text w (faults t) k.0 old)

  module _ (i : ℕ) where
    pub message_none : n ≤ i → (m : ℕ) → refusing (refused 17 []) ≡ message_in i m x
    message_none =
        of_tree (λ n y. n ≤ i → (m : ℕ) → refusing (refused 17 []) ≡ message_in i m y)
        (λ t k l m. at_none (λ o. refusing (refused 17 []) ≡ message_or m o) (faults t) i l refl)

    pub message_some : i < n → (m : ℕ) → wrote_if m (record_message text (record_at text w i)) ≡ message_in i m x
    message_some =
        of_tree (λ n y. i < n → (m : ℕ) → wrote_if m (record_message text (record_at text w i)) ≡ message_in i m y) (λ t k. message_at text w (faults t) k.0 i)

    -- the record of fault i has its numbers
    pub numbers_some : i < n → numbers_of (record_by (record_at text w i)) ≡ record_at text w i
    numbers_some = of_tree (λ n y. i < n → numbers_of (record_by (record_at text w i)) ≡ record_at text w i) (λ t k. numbers_at text w (faults t) k.0 i)

    name_none : n ≤ i → Names text absent (name_in i x)
    name_none = of_tree (λ n y. n ≤ i → Names text absent (name_in i y)) (λ t k l. at_none (λ o. Names text absent (name_of o)) (faults t) i l (refl, no_part text))

    name_some : i < n → Names text (record_at text w i).name (name_in i x)
    name_some =
        of_tree (λ n y. i < n → Names text (record_at text w i).name (name_in i y)) (λ t k. name_at_lem text w (faults t) k.0 i)

-- ---- of any answer: a text that is refused has no name
module _ {text : Bytes} {w : List ℕ} (i : ℕ) where
  refused_name : (x : Reading) (e : Refused) → Finds text x w (Err e) → Names text absent (name_in i x)
  refused_name (tree t) e f = absurd (cc f.answer)
  refused_name (refusal k l) e f = (refl, no_part text)

  pub name_if_none : (x : Reading) (r : Result ℕ Refused) → Finds text x w r → result_unwrap_or r 0 ≤ i → Names text absent (name_in i x)
  name_if_none x (Ok n) f l = name_none f i l
  name_if_none x (Err e) f l = refused_name x e f

  pub name_if_some : (x : Reading) (r : Result ℕ Refused) → Finds text x w r → i < result_unwrap_or r 0 → Names text (record_at text w i).name (name_in i x)
  name_if_some x (Ok n) f l = name_some f i l
  name_if_some x (Err e) f l = absurd (omega arith)
