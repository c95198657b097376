-- What a fault is, by the rows: the row that it is on, the row of its place, the row whose span it shows, and why these go together.
-- The fault of a read, of a refused target and of a method are such.
use Rattle.std.proofs.Common.{ℕ, suc, ◌+◌, ◌≤◌, ◌<◌, arith, ◌≡◌, refl, ap, ◌∙◌, Bool, true, false, ◌||◌, List, [], ◌∷◌, eqb, length}
use Rattle.spec_text.specs.Bytes.{no_part}
use Rattle.spec_text.specs.Tree.{Line}
use Rattle.spec_faults.specs.Position.{Placed, Home, in_module, in_def, in_method, Use, value, callee}
use Rattle.spec_faults.specs.Faults.{Fault, fault_at, outermost, unless, unbound_here, undefined_here, unbound, undefined, judge_read, refused_at, selfless, capture}
use Rattle.spec_faults.proofs.Lists.{All, none, also}
use Rattle.work_rows.specs.Rows.{Row}
use Rattle.report_order.specs.OrderModel.{entry}
use Rattle.proof_order.specs.Shown.{Shows, line_in, of_entry, row_entry}
use Rattle.proof_order.proofs.Reach.{word_in, end_in, Free}

-- ---- kinds, by the tests of the listing: of a row itself, of a callee, of a capture, of a method
pub record Tested (k : ℕ) (itself called captured method : Bool) : Type 0 where
  pub own : (eqb k 8 || (eqb k 11 || eqb k 14)) ≡ itself
  pub callee : (eqb k 9 || eqb k 12) ≡ called
  pub capture : capture k ≡ captured
  pub selfless : eqb k 15 ≡ method

tests : (k : ℕ) → Tested k (eqb k 8 || (eqb k 11 || eqb k 14)) (eqb k 9 || eqb k 12) (capture k) (eqb k 15)
tests k = record { own = refl; callee = refl; capture = refl; selfless = refl }

-- ---- what a fault is
-- row c has the word k and reaches over row i; of those that do it is the outermost
pub record Outer (rows : List Row) (k c i : ℕ) : Type 0 where
  pub word : word_in rows c ≡ k
  pub free : Free rows k c
  pub before : c < i
  pub over : i < end_in rows c

-- a fault of kind k on row i shows the span of row o and has row p as its place
pub data Way (rows : List Row) (k o i p : ℕ) : Type 0 where
  at_row : Tested k true false false false → o ≡ p → i ≡ p → Way rows k o i p
  at_call : Tested k false true false false → o ≡ p → i ≡ suc p → word_in rows p ≡ 21 → Way rows k o i p
  at_lambda : Tested k false false true false → o ≡ p → Outer rows 28 p i → Way rows k o i p
  in_class : Tested k false false false true → i ≡ p → word_in rows p ≡ 14 → Outer rows 13 o i → Way rows k o i p

pub record Right (rows : List Row) (f : Fault) : Type 0 where
  pub of : ℕ
  pub row : ℕ
  pub at : ℕ
  pub kind : (8 ≤ f.kind) × (f.kind ≤ 15)
  pub line : f.line ≡ suc (suc row)
  pub place : f.place ≡ suc (suc at)
  pub way : Way rows f.kind of row at
  pub shows : Shows rows (entry f.kind of row) f

pub right_unless : {rows : List Row} (b : Bool) {f : Fault} → Right rows f → All (Right rows) (unless b f)
right_unless true h = none
right_unless false h = also h none

-- a line with its number stands at row i
pub record Stands (rows : List Row) (p : Placed) (i : ℕ) : Type 0 where
  pub room : i < length rows
  pub number : p.number ≡ suc (suc i)
  pub line : line_in rows i ≡ p.line

-- a callee's call is the row before it
abbrev pub Used : List Row → Use → ℕ → Type 0
Used rows value i = Unit {0}
Used rows (callee c) i = (j : ℕ) × Stands rows c j × (i ≡ suc j) × (word_in rows j ≡ 21)

-- the lambdas around m rows from row i on: none, or their outermost
pub data Under (rows : List Row) (i m : ℕ) : List Placed → Type 0 where
  clear : Free rows 28 i → Under rows i m []
  under : {p : Placed} {ps : List Placed} (c : ℕ) → Stands rows (outermost p ps) c → Free rows 28 c → word_in rows c ≡ 28 → c < i → i + m ≤ end_in rows c
      → Under rows i m (p ∷ ps)

module _ (rows : List Row) (few : length rows ≤ 4_096) where
  -- ---- the entry of a fault shows it
  shown : (f : Fault) {o i : ℕ} {p r : Placed} → f.kind < 16 → Stands rows p o → Stands rows r i → p.line.start ≡ f.start → p.line.end ≡ f.end
      → ((f.kind ≡ 14 → ⊥) → r.line.name ≡ f.name) → (f.kind ≡ 14 → f.name ≡ no_part) → (f.kind ≡ 15 → p.line.name ≡ f.in_class)
      → ((f.kind ≡ 15 → ⊥) → f.in_class ≡ no_part) → Shows rows (entry f.kind o i) f
  shown f {o} {i} {p} {r} small at to start end name no_name classed no_class =
      let room : o < length rows = at.room in
      let here : i < length rows = to.room in
      let a : of_entry (entry f.kind o i) ≡ o = omega arith in
      let b : row_entry (entry f.kind o i) ≡ i = omega arith in
      let of : line_in rows (of_entry (entry f.kind o i)) ≡ p.line = ap (line_in rows) a ∙ at.line in
      let row : line_in rows (row_entry (entry f.kind o i)) ≡ r.line = ap (line_in rows) b ∙ to.line in
      record {
        small = omega arith;
        kind = omega arith;
        of = omega arith;
        row = omega arith;
        start = ap (λ (l : Line). l.start) of ∙ start;
        end = ap (λ (l : Line). l.end) of ∙ end;
        name = λ d. ap (λ (l : Line). l.name) row ∙ name d;
        no_name = no_name;
        class = λ e. ap (λ (l : Line). l.name) of ∙ classed e;
        no_class = no_class;
      }

  right_read : (k : ℕ) {p r : Placed} {o i : ℕ} → 8 ≤ k → k < 14 → Stands rows p o → Stands rows r i → Way rows k o i o → Right rows (fault_at k p r)
  right_read k {p} {r} {o} {i} least small at to way = record {
    of = o;
    row = i;
    at = o;
    kind = (omega arith, omega arith);
    line = to.number;
    place = at.number;
    way = way;
    shows = shown (fault_at k p r) (omega arith) at to refl refl (λ d. refl) (λ e. absurd (omega arith)) (λ e. absurd (omega arith)) (λ d. refl);
  }

  pub right_refused : (r : Placed) (i : ℕ) → Stands rows r i → Right rows (refused_at r.number r.line)
  right_refused r i to = record {
    of = i;
    row = i;
    at = i;
    kind = (omega arith, omega arith);
    line = to.number;
    place = to.number;
    way = at_row (tests 14) refl refl;
    shows = shown (refused_at r.number r.line) (omega arith) to to refl refl (λ d. absurd (d refl)) (λ e. refl) (λ e. absurd (omega arith)) (λ d. refl);
  }

  pub right_selfless : (r c : Placed) {o i : ℕ} → Stands rows r i → Stands rows c o → word_in rows i ≡ 14 → Outer rows 13 o i → Right rows (selfless r.number r.line c.line)
  right_selfless r c {o} {i} to at word out = record {
    of = o;
    row = i;
    at = i;
    kind = (omega arith, omega arith);
    line = to.number;
    place = to.number;
    way = in_class (tests 15) refl word out;
    shows = shown (selfless r.number r.line c.line) (omega arith) at to refl refl (λ d. refl) (λ e. absurd (omega arith)) (λ e. refl) (λ d. absurd (d refl));
  }

  -- ---- reads
  module _ (r : Placed) (i : ℕ) (to : Stands rows r i) where
    right_unbound_here : (u : Use) → Used rows u i → Right rows (unbound_here u r)
    right_unbound_here value d = right_read 11 (omega arith) (omega arith) to to (at_row (tests 11) refl refl)
    right_unbound_here (callee c) d = right_read 12 (omega arith) (omega arith) d.1 to (at_call (tests 12) refl d.2 d.3)

    right_undefined_here : (u : Use) → Used rows u i → Right rows (undefined_here u r)
    right_undefined_here value d = right_read 8 (omega arith) (omega arith) to to (at_row (tests 8) refl refl)
    right_undefined_here (callee c) d = right_read 9 (omega arith) (omega arith) d.1 to (at_call (tests 9) refl d.2 d.3)

    right_captured : (k : ℕ) → 8 ≤ k → k < 14 → Tested k false false true false → (p : Placed) (ps : List Placed) → Under rows i 1 (p ∷ ps) → Right rows (fault_at k (outermost p ps) r)
    right_captured k least small t p ps (under c at free word before over) =
        right_read k least small at to (at_lambda t refl (record { word = word; free = free; before = before; over = omega arith }))

    right_unbound : (ls : List Placed) (u : Use) → Used rows u i → Under rows i 1 ls → Right rows (unbound ls u r)
    right_unbound [] u d n = right_unbound_here u d
    right_unbound (p ∷ ps) u d n = right_captured 13 (omega arith) (omega arith) (tests 13) p ps n

    right_undefined : (h : Home) (ls : List Placed) (u : Use) → Used rows u i → Under rows i 1 ls → Right rows (undefined h ls u r)
    right_undefined h [] u d n = right_undefined_here u d
    right_undefined in_module (p ∷ ps) u d n = right_captured 10 (omega arith) (omega arith) (tests 10) p ps n
    right_undefined in_def (p ∷ ps) u d n = right_undefined_here u d
    right_undefined in_method (p ∷ ps) u d n = right_undefined_here u d

    pub right_judged : (h : Home) (ls : List Placed) (u : Use) → Used rows u i → Under rows i 1 ls → (p o a v : Bool) → All (Right rows) (judge_read h ls u r p o a v)
    right_judged h ls u d n true o a v = none
    right_judged h ls u d n false true a v = right_unless a (right_unbound ls u d n)
    right_judged h ls u d n false false a v = right_unless v (right_undefined h ls u d n)
