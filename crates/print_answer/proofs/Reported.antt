-- The lines of a report's records are the lines of its faults: the numbers at seven times j are those of the j-th fault, and the parts of the
-- text that they show are the fault's names. So what `print` pushes is what is printed.
use Rattle.std.proofs.Common.{ℕ, suc, ◌+◌, ◌*◌, ◌<◌, arith, zero-add, ◌≡◌, refl, sym, ap, ◌∙◌, List, [], ◌∷◌, ◌++◌, append_assoc, length, drop, length-append, get_or-append-add}
use Rattle.std.proofs.Math.Nat.{sub-zero}
use Rattle.std.proofs.Math.Option.{some}
use Rattle.std.proofs.Math.Seq.{get_or-append_seam}
use Rattle.spec_text.specs.Bytes.{Bytes}
use Rattle.spec_text.specs.Reading.{shortest_work}
use Rattle.spec_faults.specs.Faults.{Fault, faults, record7, records}
use Rattle.spec_answers.specs.Answers.{Answer, written, refused_at, report, nth_fault, over}
use Rattle.spec_answers.specs.Printed.{fault_line, fault_lines, refused_line, report_buffer, printed, Prints}
use Rattle.spec_text.specs.Writing.{decimal_of, line_with}
use Rattle.write_bytes.specs.PushModel.{bytes_pushed, pushed_to, Pushes}
use Rattle.report_records.specs.declared.RecordNumbers.{RecordNumbers}
use Rattle.print_lines.specs.LinesModel.{record_in, record_line, record_lines}
use Rattle.find_faults.specs.Found.{Shown}
use Rattle.find_faults.proofs.Theorems.{faults_shown}
use Rattle.serduzhap.specs.Calls.{Gives, part_says}
use Rattle.print_answer.proofs.Cases.{by_answer}

both : {a b c d : Bytes} → a ≡ b → c ≡ d → a ++ c ≡ b ++ d
both x y = cc

-- ---- one record
abbrev record_of : Fault → RecordNumbers
record_of f =
    record {
      kind = f.kind;
      start = f.start;
      end = f.end;
      name = part_says f.name;
      class = part_says f.in_class;
    }

record_here : (before : List ℕ) (f : Fault) (after : List ℕ) → record_in (before ++ (record7 f ++ after)) (length before) ≡ record_of f
record_here p f q =
    let ns : List ℕ = record7 f ++ q in
    rw (
      get_or-append_seam p f.kind (f.start ∷ f.end ∷ f.name.offset ∷ length f.name.bytes ∷ f.in_class.offset ∷ length f.in_class.bytes ∷ q) 0,
      get_or-append-add p ns 1 0,
      get_or-append-add p ns 2 0,
      get_or-append-add p ns 3 0,
      get_or-append-add p ns 4 0,
      get_or-append-add p ns 5 0,
      get_or-append-add p ns 6 0,
    )

module _ (text : Bytes) where
  line_shown : (f : Fault) → Shown text f.name → Shown text f.in_class → record_line text (record_of f) ≡ fault_line f
  line_shown f x c = rw (x, c)

  lines_from : (fs : List Fault) (before after : List ℕ) (j : ℕ) → length before ≡ 7 * j
      → ((i : ℕ) (f : Fault) → nth_fault fs i ≡ some f → Shown text f.name × Shown text f.in_class)
      → record_lines text (before ++ (records fs ++ after)) j (length fs) ≡ fault_lines fs
  lines_from [] p q j e h = refl
  lines_from (f ∷ fs) p q j e h =
      let ns : List ℕ = p ++ (record7 f ++ (records fs ++ q)) in
      let r : record_in ns (7 * j) ≡ record_of f = ap (record_in ns) (sym e) ∙ record_here p f (records fs ++ q) in
      let s = h 0 f refl in
      both (ap (record_line text) r ∙ line_shown f s.0 s.1)
      (ap (λ (l : List ℕ). record_lines text l (j + 1) (length fs)) (sym (append_assoc p (record7 f) (records fs ++ q)))
      ∙ lines_from fs (p ++ record7 f) q (j + 1) (omega (arith, length-append p (record7 f))) (λ i g x. h (suc i) g x))

  -- those of all faults, in a report that is written over what was there
  pub lines_reported : (fs : List Fault) (old : List ℕ) → ((j : ℕ) (f : Fault) → nth_fault fs j ≡ some f → Shown text f.name × Shown text f.in_class)
      → record_lines text (over (records fs) old) 0 (length fs) ≡ fault_lines fs
  lines_reported fs old = lines_from fs [] (drop (length (records fs)) old) 0 refl

-- ---- what `report` says, where it left the numbers ns in the report buffer
module _ (text : Bytes) (work old : List ℕ) (long : length work ≡ shortest_work) (room : length old ≡ report_buffer) (ns : List ℕ) where
  abbrev Says : Answer → Type 0
  Says a = Gives (report text (length work) (length old)) old ns a

  here : {a : Answer} → Says a → Gives (report text shortest_work report_buffer) old ns a
  here e = rw (long, room) at e

  pub print_written : (k : ℕ) → Says (written k) → (record_lines text ns 0 k ++ line_with "faults" (decimal_of k ∷ []) ≡ printed text) × (k < 16_777_216)
  print_written k e =
      by_answer text (λ a b. Gives a old ns (written k) → (record_lines text ns 0 k ++ line_with "faults" (decimal_of k ∷ []) ≡ b) × (k < 16_777_216))
      (λ i n d. absurd cc)
      (λ t g few d.
      let i : k ≡ length (faults t) = cc in
      (rw (i, d.1) (both (lines_reported text (faults t) old (faults_shown text shortest_work t g)) refl), omega arith)) (here e)

  pub print_refused : (k n : ℕ) → Says (refused_at k n) → refused_line k n ≡ printed text
  print_refused k n e =
      by_answer text (λ a b. Gives a old ns (refused_at k n) → refused_line k n ≡ b)
      (λ i m d.
      let p : k ≡ i = cc in
      let q : n ≡ m = cc in
      rw (p, q))
      (λ t g few d. absurd cc) (here e)

-- ---- what is pushed to the start of a buffer
pub prints : (text : Bytes) (old : List ℕ) {new : List ℕ} {n : ℕ} → Pushes old 0 (printed text) new n → Prints text old new n
unfolding bytes_pushed pushed_to
prints text old p = (p.1 ∙ rw (sub-zero, zero-add), p.0 ∙ rw (sub-zero, zero-add), p.2)
