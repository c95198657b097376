-- Entries that show faults, one for one, written into a buffer that holds the rows of a text: each is read as a record of the seven numbers of
-- its fault. For the lines of its two rows are read again as they are, and the record takes from them what the fault shows.
use Rattle.std.proofs.Common.{ℕ, zero, suc, ◌≤◌, ◌<◌, arith, ◌≡◌, refl, sym, ap, ◌∙◌, subst, Bool, true, false, cond, List, eqb, length, get_or, eqb-true}
use Rattle.std.proofs.Math.Option.{some}
use Rattle.std.proofs.lemmas.Bool.{eqb-false}
use Rattle.spec_text.specs.Bytes.{Bytes, Part, no_part}
use Rattle.spec_text.specs.Tree.{Line}
use Rattle.spec_faults.specs.Faults.{Fault, record7}
use Rattle.spec_answers.specs.Answers.{nth_fault}
use Rattle.read_bytes.specs.declared.name_part.NamePart.{NamePart}
use Rattle.read_line.specs.declared.Line.{Line as Numbers}
use Rattle.read_row.specs.RowModel.{line_of_row}
use Rattle.report_order.specs.OrderModel.{stored, entry_at}
use Rattle.report_records.specs.RecordsModel.{absent, of_lines, record_of, numbers}
use Rattle.proof_order.specs.Shown.{Shows, Pairs, line_in, of_entry, row_entry}
use Rattle.work_rows.specs.Rows.{Row}
use Rattle.find_faults.proofs.EntriesRead.{entry_stored, line_stored}

-- where a part of the text stands
abbrev pub place : Part → NamePart
place x = record { offset = x.offset; len = length x.bytes }

-- ---- one for one
module _ {A B : Type 0} {R : A → B → Type 0} where
  pub pairs_length : {l : List A} {m : List B} → Pairs R l m → length l ≡ length m
  pairs_length Pairs.none = refl
  pairs_length (Pairs.pair h p) = ap suc (pairs_length p)

pub pair_at : {R : ℕ → Fault → Type 0} {es : List ℕ} {fs : List Fault} → Pairs R es fs → (j : ℕ) (f : Fault) → nth_fault fs j ≡ some f → (j < length es) × R (get_or es j 0) f
pair_at Pairs.none j f e = absurd cc
pair_at {R} (Pairs.pair {a = n} {b = g} h p) zero f e = let q : g ≡ f = cc in (omega arith, subst (R n) q h)
pair_at (Pairs.pair h p) (suc j) f e = let k = pair_at p j f e in (omega (arith, k.0), k.1)

-- ---- a record, from the lines of its two rows
-- where a name stands that is shown in place of none, or none in place of it
module _ (k c : ℕ) (m : NamePart) (x : Part) where
  picked : (k ≡ c → m ≡ place x) → ((k ≡ c → ⊥) → x ≡ no_part) → cond (eqb k c) m absent ≡ place x
  picked is not = go (eqb k c) refl
    where
      go : (b : Bool) → eqb k c ≡ b → cond b m absent ≡ place x
      go true e = is (eqb-true k c e)
      go false e = sym (ap place (not (eqb-false k c e)))

  left : ((k ≡ c → ⊥) → m ≡ place x) → (k ≡ c → x ≡ no_part) → cond (eqb k c) absent m ≡ place x
  left not is = go (eqb k c) refl
    where
      go : (b : Bool) → eqb k c ≡ b → cond b absent m ≡ place x
      go true e = sym (ap place (is (eqb-true k c e)))
      go false e = not (eqb-false k c e)

-- a line as it is read again
pub record Reads (l : Line) (n : Numbers) : Type 0 where
  pub start : n.start ≡ l.start
  pub end : n.end ≡ l.end
  pub name : n.name ≡ place l.name

lines_show : (rows : List Row) (e : ℕ) (f : Fault) (of row : Numbers) → Shows rows e f → Reads (line_in rows (of_entry e)) of → Reads (line_in rows (row_entry e)) row
    → numbers (of_lines f.kind of row) ≡ record7 f
lines_show rows e f of row s a b =
    let start : of.start ≡ f.start = a.start ∙ s.start in
    let end : of.end ≡ f.end = a.end ∙ s.end in
    let name : cond (eqb f.kind 14) absent row.name ≡ place f.name = left f.kind 14 _ _ (λ d. b.name ∙ ap place (s.name d)) s.no_name in
    let class : cond (eqb f.kind 15) of.name absent ≡ place f.in_class = picked f.kind 15 _ _ (λ d. a.name ∙ ap place (s.class d)) s.no_class in
    rw (start, end, name, class)

-- ---- the entry j
module _ (text : Bytes) (rows : List Row) (w : List ℕ) (few : length rows ≤ 4_096) (room : 16_384 ≤ length w)
    (line : (i : ℕ) → i < length rows → Reads (line_in rows i) (line_of_row text w i)) where
  pub record_shown : (es : List ℕ) → length es ≤ 4_096 → (j : ℕ) (f : Fault) → j < length es → Shows rows (get_or es j 0) f
      → numbers (record_of text (stored es 0 w) (entry_at (stored es 0 w) j)) ≡ record7 f
  unfolding record_of
  record_shown es short j f l s =
      let n : ℕ = get_or es j 0 in
      let v : List ℕ = stored es 0 w in
      let there : (i : ℕ) → i < length rows → Reads (line_in rows i) (line_of_row text v i) =
      λ i m. subst (Reads (line_in rows i)) (sym (line_stored es w text i (omega arith))) (line i m) in
      rw (entry_stored es w j l short room s.small, s.kind)
      (lines_show rows n f (line_of_row text v (of_entry n)) (line_of_row text v (row_entry n)) s (there (of_entry n) s.of) (there (row_entry n) s.row))
