-- What a fault's entry gives, where it shows the fault: the record as it is written, the message and the name. And the records of all entries are
-- the full report.
use Rattle.std.proofs.Common.{ℕ, zero, suc, ◌+◌, ◌%◌, ◌<◌, ◌≤◌, arith, ◌≡◌, refl, ap, ap₂, subst, ◌∙◌, List, [], ◌∷◌, ◌++◌, map, length}
use Rattle.std.proofs.Math.Option.{Option, none, some}
use Rattle.spec_text.specs.Bytes.{Bytes, part_of}
use Rattle.spec_faults.specs.Faults.{Fault, record7, records}
use Rattle.spec_faults.specs.Faults as F
use Rattle.spec_faults.proofs.KindNumbers.{number_again}
use Rattle.spec_answers.specs.Answers.{nth_fault}
use Rattle.read_bytes.specs.declared.name_part.NamePart.{NamePart}
use Rattle.report_records.specs.RecordsModel.{numbers_of, record_by, numbers, numbers32}
use Rattle.report_records.specs.declared.RecordNumbers.{RecordNumbers}
use Rattle.report_messages.specs.MessagesModel.{record_message}
use Rattle.find_faults.specs.Found.{Shown, Shows, Listed}
use Rattle.serduzhap.specs.Calls.{part_says}
use Rattle.write_records.specs.WriteModel.{record_at, records_of}

-- ---- fault i: there is none from the number of faults on
module _ (P : Option Fault → Type 0) where
  pub at_none : (fs : List Fault) (i : ℕ) → length fs ≤ i → P none → P (nth_fault fs i)
  at_none [] i l p = p
  at_none (f ∷ fs) zero l p = absurd (omega arith)
  at_none (f ∷ fs) (suc i) l p = at_none fs i (omega arith) p

  pub at_some : (fs : List Fault) (i : ℕ) → i < length fs → ((f : Fault) → nth_fault fs i ≡ some f → P (some f)) → P (nth_fault fs i)
  at_some [] i l p = absurd (omega arith)
  at_some (f ∷ fs) zero l p = p f refl
  at_some (f ∷ fs) (suc i) l p = at_some fs i (omega arith) p

-- ---- numbers of 32 bits are written as they are
small : (n : ℕ) → n < 4_294_967_296 → n % 4_294_967_296 ≡ n
small n h = omega arith

module _ (a b c d e f g : ℕ) (ha : a < 16) (hb : b < 4_294_967_296) (hc : c < 4_294_967_296) (hd : d < 4_294_967_296)
    (he : e < 4_294_967_296) (hf : f < 4_294_967_296) (hg : g < 4_294_967_296) where
  seven_small : map (λ (n : ℕ). n % 4_294_967_296) (a ∷ b ∷ c ∷ d ∷ e ∷ f ∷ g ∷ []) ≡ a ∷ b ∷ c ∷ d ∷ e ∷ f ∷ g ∷ []
  seven_small = rw (small a (omega arith), small b hb, small c hc, small d hd, small e he, small f hf, small g hg)

-- ---- a record that has a fault's numbers
module _ (text : Bytes) (r : RecordNumbers) (f : Fault) (e : numbers r ≡ record7 f) where
  name_of : Shown text f.name → part_of text r.name.offset r.name.len ≡ f.name.bytes
  name_of h =
      let a : r.name.offset ≡ f.name.offset = cc in
      let b : r.name.len ≡ length f.name.bytes = cc in
      ap (λ k. part_of text k r.name.len) a ∙ ap (part_of text f.name.offset) b ∙ h

  place_of : r.name ≡ part_says f.name
  place_of =
      let a : r.name.offset ≡ f.name.offset = cc in
      let b : r.name.len ≡ length f.name.bytes = cc in
      ap₂ {C = NamePart} (λ (k n : ℕ). record { offset = k; len = n }) a b

  class_of : Shown text f.in_class → part_of text r.class.offset r.class.len ≡ f.in_class.bytes
  class_of h =
      let a : r.class.offset ≡ f.in_class.offset = cc in
      let b : r.class.len ≡ length f.in_class.bytes = cc in
      ap (λ k. part_of text k r.class.len) a ∙ ap (part_of text f.in_class.offset) b ∙ h

  message_of_lem : Shown text f.name → Shown text f.in_class → record_message text r ≡ F.message_of f
  message_of_lem h i =
      let k : r.kind ≡ f.kind = cc in
      ap (λ k'. F.message k' (part_of text r.name.offset r.name.len) (part_of text r.class.offset r.class.len)) k
      ∙ ap (λ n. F.message f.kind n (part_of text r.class.offset r.class.len)) (name_of h)
      ∙ ap (F.message f.kind f.name.bytes) (class_of i)

  -- its record has the same numbers
  numbers_again : 8 ≤ f.kind → f.kind < 16 → numbers_of (record_by r) ≡ r
  numbers_again l m =
      let k : r.kind ≡ f.kind = cc in
      ap {B = RecordNumbers} (λ (k : ℕ). record { kind = k; start = r.start; end = r.end; name = r.name; class = r.class })
      (number_again r.kind (omega (arith, k)) (omega (arith, k)))

-- ---- an entry that shows a fault
module _ (text : Bytes) (w : List ℕ) where
  module _ {j : ℕ} {f : Fault} (s : Shows text w j f) where
    words_shown : numbers32 (record_at text w j) ≡ record7 f
    words_shown =
        ap (map (λ (n : ℕ). n % 4_294_967_296)) s.record'
        ∙ seven_small _ _ _ _ _ _ _ s.kind s.start s.end s.name_at s.name_len s.class_at s.class_len

    pub name_shown : part_of text (record_at text w j).name.offset (record_at text w j).name.len ≡ f.name.bytes
    name_shown = name_of text (record_at text w j) f s.record' s.name

    pub place_shown : (record_at text w j).name ≡ part_says f.name
    place_shown = place_of text (record_at text w j) f s.record'

    pub message_shown : record_message text (record_at text w j) ≡ F.message_of f
    message_shown = message_of_lem text (record_at text w j) f s.record' s.name s.class

    pub numbers_shown : numbers_of (record_by (record_at text w j)) ≡ record_at text w j
    numbers_shown = numbers_again text (record_at text w j) f s.record' s.kind_least s.kind

  -- ---- the records of all entries
  from : (fs : List Fault) (j : ℕ) → ((i : ℕ) (f : Fault) → nth_fault fs i ≡ some f → Shows text w (j + i) f) → records_of text w j (length fs) ≡ records fs
  from [] j s = refl
  from (f ∷ fs) j s =
      let h : Shows text w j f = subst (λ (k : ℕ). Shows text w k f) (omega arith) (s 0 f refl) in
      ap (λ ns. ns ++ records_of text w (j + 1) (length fs)) (words_shown h)
      ∙ ap (λ ns. record7 f ++ ns) (from fs (j + 1) (λ i g e. subst (λ (k : ℕ). Shows text w k g) (omega arith) (s (suc i) g e)))

  pub records_shown : (fs : List Fault) → Listed text fs w → records_of text w 0 (length fs) ≡ records fs
  records_shown fs s = from fs 0 (λ i f e. subst (λ (k : ℕ). Shows text w k f) (omega arith) (s i f e))
