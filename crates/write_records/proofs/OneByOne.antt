-- What is written over an output buffer from its start: one record after the other.
use Rattle.std.proofs.Common.{ℕ, zero, suc, ◌+◌, ◌*◌, arith, add-one, add-zero, zero-add, ◌-◌, ◌≤◌, ◌≡◌, refl, sym, ap, ◌∙◌, List, [], ◌++◌, append_assoc, append-nil, length, take, drop, length-append, length-drop, drop-drop, take_all}
use Rattle.std.proofs.lemmas.List.{drop_all}
use Rattle.std.proofs.Math.Seq.{take-append_seam, drop-append-add}
use Rattle.spec_text.specs.Bytes.{Bytes}
use Rattle.spec_answers.specs.Answers.{over}
use Rattle.report_records.specs.RecordsModel.{numbers32}
use Rattle.report_records.specs.declared.RecordNumbers.{RecordNumbers}
use Rattle.write_records.specs.WriteModel.{records_of, record_at}

-- ---- more is written after what was written
module _ (l ws old : List ℕ) where
  over_more : take (length l) (over l old) ++ (ws ++ drop (length l + length ws) (over l old)) ≡ over (l ++ ws) old
  over_more =
      rw (
        take-append_seam l (drop (length l) old),
        drop-append-add l (drop (length l) old) (length ws),
        drop-drop (length ws) (length l) old,
        length-append l ws,
        append_assoc l ws (drop (length l + length ws) old),
      )

-- ---- the records of the entries
module _ (text : Bytes) (w : List ℕ) where
  records_length : (n j : ℕ) → length (records_of text w j n) ≡ 7 * n
  records_length zero j = refl
  records_length (suc n) j = omega (arith, records_length n (j + 1))

  records_more : (n j : ℕ) → records_of text w j (suc n) ≡ records_of text w j n ++ numbers32 (record_at text w (j + n))
  records_more zero j = rw add-zero
  records_more (suc n) j =
      let e : j + 1 + n ≡ j + suc n = omega arith in
      ap (λ ns. numbers32 (record_at text w j) ++ ns) (records_more n (j + 1) ∙ ap (λ k. records_of text w (j + 1) n ++ numbers32 (record_at text w k)) e)

  over_record : (old : List ℕ) (n : ℕ)
      → take (7 * n) (over (records_of text w 0 n) old) ++ (numbers32 (record_at text w n) ++ drop (7 * n + 7) (over (records_of text w 0 n) old))
      ≡ over (records_of text w 0 (n + 1)) old
  over_record old n =
      let e : records_of text w 0 n ++ numbers32 (record_at text w n) ≡ records_of text w 0 (n + 1) =
      sym (rw (add-one, records_more n 0, zero-add)) in
      rw (← records_length n 0) (over_more (records_of text w 0 n) (numbers32 (record_at text w n)) old) ∙ ap (λ ns. over ns old) e

  -- a turn: record j is put to what is left of the output, after those before it
  module _ (old out : List ℕ) (j : ℕ) (room : 7 * j + 7 ≤ length out) where
    abbrev rest : List ℕ
    rest = drop (7 * j) out

    abbrev left : ℕ
    left = length out - 7 * j

    rest_length : length rest ≡ left
    rest_length = length-drop (7 * j) out

    put_rest : (r : RecordNumbers) {part : List ℕ} → part ≡ take (length (take left rest)) (numbers32 r) ++ drop 7 (take left rest)
        → take (7 * j) out ++ (part ++ drop left rest) ≡ take (7 * j) out ++ (numbers32 r ++ drop (7 * j + 7) out)
    put_rest r e =
        let all : take left rest ≡ rest = take_all left rest (omega (arith, rest_length)) in
        let none : drop left rest ≡ [] = drop_all left rest (omega (arith, rest_length)) in
        let seven : take (length rest) (numbers32 r) ≡ numbers32 r = take_all (length rest) (numbers32 r) (omega (arith, rest_length)) in
        let past : drop 7 rest ≡ drop (7 * j + 7) out = drop-drop 7 (7 * j) out in
        rw (e, none, all, seven, past, append-nil (drop (7 * j + 7) out))

    pub turn : {r : RecordNumbers} {part : List ℕ} → out ≡ over (records_of text w 0 j) old → r ≡ record_at text w j
        → part ≡ take (length (take left rest)) (numbers32 r) ++ drop 7 (take left rest)
        → take (7 * j) out ++ (part ++ drop left rest) ≡ over (records_of text w 0 (j + 1)) old
    turn {r} e f g =
        put_rest r g
        ∙ ap (λ x. take (7 * j) out ++ (numbers32 x ++ drop (7 * j + 7) out)) f
        ∙ ap (λ l. take (7 * j) l ++ (numbers32 (record_at text w j) ++ drop (7 * j + 7) l)) e
        ∙ over_record old j
