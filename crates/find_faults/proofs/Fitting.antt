-- Each fault of a tree fits its text: its name and its class name are parts of the text of at most 63 bytes, or absent; its kind and its span
-- are within their limits. For what a fault shows stands in rows (`Right`), and each row's line is read again where it starts.
use Rattle.std.proofs.Common.{ℕ, zero, suc, ◌-◌, ◌≤◌, ◌<◌, arith, ◌≡◌, refl, sym, subst, Bool, true, false, not, ◌||◌, List, [], ◌∷◌, eqb, length, eqb-true, le-leb, leb-true}
use Rattle.std.proofs.Math.Decide.{ℕ_discrete}
use Rattle.std.proofs.Math.Option.{some}
use Rattle.spec_text.specs.Bytes.{Bytes, Part, no_part, all, is_name, is_name_byte, is_digit}
use Rattle.spec_text.specs.Tree.{Tree, len_ss, first_line}
use Rattle.spec_text.specs.Reading.{tree, reading}
use Rattle.spec_text.proofs.Lists.{and_split}
use Rattle.spec_text.proofs.LineParts.{IsPart, NameFits, LineIn}
use Rattle.spec_text.proofs.Theorems.{tree_lines}
use Rattle.spec_faults.specs.Faults.{Fault, by_place, faults}
use Rattle.spec_faults.proofs.Lists.{All, none, also, all_append, all_map, all_keep}
use Rattle.spec_faults.proofs.Deduped.{faults_deduped, dedupe_all}
use Rattle.spec_answers.specs.Answers.{nth_fault}
use Rattle.work_rows.specs.Rows.{Row, rows_t}
use Rattle.work_rows.proofs.Lengths.{rows_length}
use Rattle.read_row.proofs.Theorems.{row_at, tree_worded, rows_again}
use Rattle.proof_order.specs.Shown.{Shows}
use Rattle.proof_order.proofs.Right.{Way, at_row, at_call, at_lambda, in_class, Right}
use Rattle.proof_order.proofs.Theorems.{raw_right}
use Rattle.find_faults.specs.Found.{Shown}

-- ---- parts
pub record Named (text : Bytes) (x : Part) : Type 0 where
  pub shown : Shown text x
  pub short : length x.bytes ≤ 63
  pub inside : x.offset ≤ length text

short_name : (x : Bytes) → is_name x ≡ true → length x ≤ 63
short_name [] e = omega arith
short_name (b ∷ bs) e = leb-true (length (b ∷ bs)) 63 (and_split (all is_name_byte (b ∷ bs)) _ (and_split (not (is_digit b)) _ e).1).1

named_part : (text : Bytes) (x : Part) → IsPart text x → length x.bytes ≤ 63 → Named text x
named_part text x h l = record {
  shown = rw (le-leb x.offset (length text) (omega (arith, h.within)), le-leb (length x.bytes) (length text - x.offset) (omega (arith, h.within))) h.here;
  short = l;
  inside = omega (arith, h.within);
}

no_name_lem : (text : Bytes) → Named text no_part
no_name_lem text = named_part text no_part (record { here = refl; within = omega arith }) (omega arith)

-- the name of a line
named : (text : Bytes) (b : Bool) (x : Part) → NameFits text b x → Named text x
named text true x h = named_part text x h.0 (short_name x.bytes h.1)
named text false x e = subst (Named text) (sym e) (no_name_lem text)

-- ---- kinds
one_of : (k a : ℕ) (b : Bool) → a < 16 → (b ≡ true → k < 16) → (eqb k a || b) ≡ true → k < 16
one_of k a b l more t = go (eqb k a) refl t
  where
    go : (c : Bool) → eqb k a ≡ c → (c || b) ≡ true → k < 16
    go true e t = omega (arith, eqb-true k a e)
    go false e t = more t

last_of : (k a : ℕ) → a < 16 → eqb k a ≡ true → k < 16
last_of k a l t = omega (arith, eqb-true k a t)

kind_small : {rows : List Row} {k o i p : ℕ} → Way rows k o i p → k < 16
kind_small {k} (at_row h a b) =
    one_of k 8 _ (omega arith) (λ t. one_of k 11 _ (omega arith) (last_of k 14 (omega arith)) t) h.own
kind_small {k} (at_call h a b c) = one_of k 9 _ (omega arith) (last_of k 12 (omega arith)) h.callee
kind_small {k} (at_lambda h a b) = one_of k 10 _ (omega arith) (last_of k 13 (omega arith)) h.capture
kind_small {k} (in_class h a b c) = last_of k 15 (omega arith) h.selfless

-- ---- faults
pub record Fits (text : Bytes) (f : Fault) : Type 0 where
  pub kind : f.kind < 16
  pub start : f.start < 4_294_967_296
  pub end : f.end < 4_294_967_296
  pub name : Named text f.name
  pub class : Named text f.in_class
  pub no_class : (f.kind ≡ 15 → ⊥) → f.in_class ≡ no_part

all_by_place : {P : Fault → Type 0} (n m : ℕ) {fs : List Fault} → All P fs → All P (by_place n m fs)
all_by_place n zero a = none
all_by_place n (suc m) a = all_append (all_keep _ a) (all_by_place (suc n) m a)

pub fault_of_lem : {P : Fault → Type 0} {fs : List Fault} → All P fs → (j : ℕ) (f : Fault) → nth_fault fs j ≡ some f → P f
fault_of_lem none j f e = absurd cc
fault_of_lem {P} (also {a = g} h r) zero f e = let q : g ≡ f = cc in subst P q h
fault_of_lem (also h r) (suc j) f e = fault_of_lem r j f e

-- ---- those of a tree
module _ (text : Bytes) (work : ℕ) (t : Tree) (e : reading text work ≡ tree t) where
  row_fits : (i : ℕ) → i < length (rows_t t) → LineIn text (row_at t i).line
  row_fits i l = let a = rows_again text work t e i l in subst (LineIn text) a.line (a.fits.word, a.fits.fits)

  row_named : (i : ℕ) → i < length (rows_t t) → Named text (row_at t i).line.name
  row_named i l = let a = row_fits i l in named text a.0.named (row_at t i).line.name a.1.name

  shows_name : {n : ℕ} {f : Fault} → Shows (rows_t t) n f → Dec (f.kind ≡ 14) → Named text f.name
  shows_name s (yes k) = subst (Named text) (sym (s.no_name k)) (no_name_lem text)
  shows_name s (no k) = subst (Named text) (s.name k) (row_named _ s.row)

  shows_class : {n : ℕ} {f : Fault} → Shows (rows_t t) n f → Dec (f.kind ≡ 15) → Named text f.in_class
  shows_class s (yes k) = subst (Named text) (s.class k) (row_named _ s.of)
  shows_class s (no k) = subst (Named text) (sym (s.no_class k)) (no_name_lem text)

  right_fits : (f : Fault) → Right (rows_t t) f → Fits text f
  right_fits f r =
      let s = r.shows in
      let a = row_fits _ s.of in
      record {
        kind = kind_small r.way;
        start = omega (arith, a.1.start, s.start);
        end = omega (arith, a.1.end, s.end);
        name = shows_name s (ℕ_discrete f.kind 14);
        class = shows_class s (ℕ_discrete f.kind 15);
        no_class = s.no_class;
      }

  pub faults_fit : All (Fits text) (faults t)
  faults_fit =
      let right = raw_right t (tree_worded text work t e) (omega (arith, rows_length t, tree_lines text work t e)) in
      subst (All (Fits text)) (sym (faults_deduped t)) (all_by_place (first_line t) (len_ss t.body) (dedupe_all [] (all_map right_fits right)))
