-- Numbers that are put one after the other are the whole of an answer of that length; those of 32 bits stay as they are.
use Rattle.std.proofs.Common.{ℕ, zero, suc, ◌+◌, ◌%◌, ◌-◌, ◌<◌, arith, ◌≡◌, refl, ap, ap₂, ◌∙◌, List, [], ◌∷◌, ◌++◌, length, replicate, get_or, take, drop, Ok, Err, Some}
use Rattle.std.proofs.lemmas.List.{drop_all}
use Rattle.spec_text.specs.Bytes.{Part}
use Rattle.spec_text.proofs.Lists.{All, all_nil, all_cons}
use Rattle.spec_answers.specs.Answers.{Answer}
use Rattle.read_bytes.specs.declared.name_part.NamePart.{NamePart}
use Rattle.report_records.specs.declared.Record.{Record}
use Rattle.report_records.specs.RecordsModel.{numbers_of, cut32, numbers32}
use Rattle.serduzhap.specs.Calls.{check_says, report_number, report_detail, report_says, message_number, message_values, message_says, part_says}
use Rattle.serduzhap.specs.declared.ReportError.{ReportError}
use Rattle.serduzhap.specs.declared.MessageError.{MessageError}
use Rattle.serduzhap.specs.declared.MessageError.TheVariants as M
use Rattle.serduzhap_c.specs.Numbers.{numbers, answer_of, part_answer}

-- an answer that has so many numbers, and 0 after them
pub padded : (ns new : List ℕ) (z : ℕ) → length ns + z ≡ length new
    → ((k : ℕ) → k < length new → get_or new k 0 ≡ get_or ns k 0 % 4_294_967_296) → new ≡ cut32 (ns ++ replicate z 0)
padded [] [] zero h e = refl
padded [] [] (suc z) h e = absurd (omega arith)
padded [] (x ∷ new) zero h e = absurd (omega arith)
padded [] (x ∷ new) (suc z) h e = ap₂ ◌∷◌ (e 0 (omega arith)) (padded [] new z (omega arith) (λ k l. e (suc k) (omega arith)))
padded (n ∷ ns) [] z h e = absurd (omega arith)
padded (n ∷ ns) (x ∷ new) z h e = ap₂ ◌∷◌ (e 0 (omega arith)) (padded ns new z (omega arith) (λ k l. e (suc k) (omega arith)))

-- ---- 32 bits
abbrev pub Small : ℕ → Type 0
Small n = n < 4_294_967_296

cut_all : {ns : List ℕ} → All Small ns → cut32 ns ≡ ns
cut_all all_nil = refl
cut_all (all_cons {a = n} h r) = ap₂ ◌∷◌ (omega (arith, h)) (cut_all r)

zeros : (n : ℕ) → All Small (replicate n 0)
zeros zero = all_nil
zeros (suc n) = all_cons {a = 0} (omega arith) (zeros n)

and_zeros : {ns : List ℕ} (n : ℕ) → All Small ns → All Small (ns ++ replicate n 0)
and_zeros n all_nil = zeros n
and_zeros n (all_cons h r) = all_cons h (and_zeros n r)

-- an answer that was written with 32 bits of each number is the answer
pub uncut : (n : ℕ) (old : List ℕ) {a b : Answer} {new : List ℕ} → a ≡ b → length old ≡ n → new ≡ cut32 (numbers a ++ replicate (length old - length (numbers a)) 0) → All Small (numbers b)
    → new ≡ answer_of n b
uncut n old {a} {b} s l e h =
    e ∙ ap (λ k. cut32 (numbers a ++ replicate (k - length (numbers a)) 0)) l ∙ ap (λ x. cut32 (answer_of n x)) s ∙ cut_all (and_zeros (n - length (numbers b)) h)

-- a record is seven numbers of an answer
pub uncut_record : (r : Record) (old : List ℕ) {b : Answer} {new : List ℕ} → check_says (Ok (Some r)) ≡ b → length old ≡ 7 → new ≡ take (length old) (numbers32 (numbers_of r)) ++ drop 7 old
    → All Small (numbers b) → new ≡ answer_of 7 b
uncut_record r old {b} {new} s l e h =
    let seven : take (length old) (numbers32 (numbers_of r)) ++ drop 7 old ≡ numbers32 (numbers_of r) = rw (drop_all 7 old (omega arith), l) in
    let all : numbers32 (numbers_of r) ≡ cut32 (numbers (check_says (Ok (Some r))) ++ replicate (length old - 7) 0) = rw l in
    uncut 7 old s l (e ∙ (seven ∙ all)) h

-- an error is two numbers of an answer: its own, and what goes with it, or 0
module _ {b : Answer} {k n : ℕ} {new : List ℕ} where
  pub uncut_report : (e : ReportError) (old : List ℕ) → report_says (Err e) ≡ b → length old ≡ 2 → k ≡ report_number e → n ≡ report_detail e
      → new ≡ cut32 ((k ∷ n ∷ []) ++ replicate (length old - 2) 0) → All Small (numbers b) → new ≡ answer_of 2 b
  uncut_report e old s l i j w h = uncut 2 old s l (w ∙ ap₂ (λ (k n : ℕ). cut32 ((k ∷ n ∷ []) ++ replicate (length old - 2) 0)) i j) h

  pub uncut_message : (e : MessageError) (old : List ℕ) → message_says (Err e) ≡ b → length old ≡ 2 → k ≡ message_number e → n ≡ get_or (message_values e) 0 0
      → new ≡ cut32 ((k ∷ n ∷ []) ++ replicate (length old - 2) 0) → All Small (numbers b) → new ≡ answer_of 2 b
  uncut_message e old s l i j w h = uncut 2 old s l (w ∙ (ap₂ (λ (k n : ℕ). cut32 ((k ∷ n ∷ []) ++ replicate (length old - 2) 0)) i j ∙ two e)) h
    where
      -- 0 stands where nothing goes with it
      two : (e : MessageError) → cut32 ((message_number e ∷ get_or (message_values e) 0 0 ∷ []) ++ replicate (length old - 2) 0)
          ≡ cut32 (numbers (message_says (Err e)) ++ replicate (length old - length (numbers (message_says (Err e)))) 0)
      two (M.Refused r) = refl
      two M.NoFault = rw l
      two M.TooLong = rw l

pub uncut_part : (x : Part) (old : List ℕ) {r : NamePart} {new : List ℕ} → r ≡ part_says x → length old ≡ 3 → new ≡ cut32 ((102 ∷ r.offset ∷ r.len ∷ []) ++ replicate (length old - 3) 0)
    → All Small (part_answer x) → new ≡ part_answer x
uncut_part x old {r} s l e h =
    e ∙ ap (λ k. cut32 ((102 ∷ r.offset ∷ r.len ∷ []) ++ replicate (k - 3) 0)) l ∙ ap (λ (r : NamePart). cut32 (102 ∷ r.offset ∷ r.len ∷ [])) s ∙ cut_all h
