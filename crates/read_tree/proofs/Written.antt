-- A row is written after the others, and a row is closed: the work buffer holds the rows so changed, and the agenda as it was.
use Rattle.std.proofs.Common.{ℕ, zero, suc, ◌+◌, ◌-◌, ◌*◌, ◌%◌, ◌≤◌, ◌<◌, arith, mod-eq_of_lt, ◌≡◌, refl, sym, ap, ◌∙◌, subst, Bool, true, false, List, [], ◌∷◌, ◌++◌, map, inl, inr, length, get_or, set, take, length-append, length-set, length-take, get_or-set_other, get_or-take, take-suc, ext_get_or, ltb, eq-eqb, ne_eqb, ltb-true, ltb-false}
use Rattle.std.proofs.Math.ListN.{length-map, get_or-append}
use Rattle.std.proofs.Math.Seq.{take-set-lt, get_or-append_seam}
use Rattle.spec_text.specs.Bytes.{Bytes, part_of}
use Rattle.spec_text.specs.Tree.{Line}
use Rattle.spec_text.specs.Lines.{Parsed}
use Rattle.spec_text.proofs.Lists.{All, all_nil, all_cons}
use Rattle.read_line.specs.LineModel.{numbers_of}
use Rattle.work_rows.specs.Layout.{put, rows_most, name_base, offset_at, kind_at}
use Rattle.read_agenda.specs.StackModel.{agenda_base, stack}
use Rattle.read_fields.specs.FieldsModel.{field_at, hash_of}
use Rattle.read_names.specs.ChainsModel.{Names, placed, added}
use Rattle.read_names.proofs.Theorems.{Outside, other_names, placed_names, placed_length, placed_offset, placed_rows, placed_outside, added_names, added_length, added_offset, added_rows, added_outside}
use Rattle.work_rows.specs.Rows.{Row, row}
use Rattle.read_tree.specs.Laid.{Holds, number_of, name_in, start_of, offset_of}
use Rattle.read_agenda.specs.AgendaModel.{Entry, close_at}
use Rattle.read_tree.specs.MachineModel.{row_written, row_closed}
use Rattle.read_tree.proofs.Same.{Known}
use Rattle.read_tree.proofs.Buffer.{Kind, Held, stacked_kept, rows_few, put_stores}

-- ---- lists
map_more : {A B : Type 0} (f : A → B) (l : List A) (a : A) → map f (l ++ (a ∷ [])) ≡ map f l ++ (f a ∷ [])
map_more f [] a = refl
map_more f (b ∷ l) a = ap (λ t. f b ∷ t) (map_more f l a)

all_more : {A : Type 0} {P : A → Type 0} {l : List A} {a : A} → All P l → P a → All P (l ++ (a ∷ []))
all_more all_nil p = all_cons p all_nil
all_more (all_cons q s) p = all_cons q (all_more s p)

pub length_more : {A : Type 0} (l : List A) (a : A) → length (l ++ (a ∷ [])) ≡ suc (length l)
length_more l a = length-append l (a ∷ []) ∙ omega arith

-- the same numbers at the start
take_same : (n : ℕ) (v w : List ℕ) → length v ≡ length w → ((k : ℕ) → k < n → get_or v k 0 ≡ get_or w k 0) → take n v ≡ take n w
take_same n v w e h =
    ext_get_or 0 (take n v) (take n w) (simp (length-take, e))
    (λ k l. let m : k < n = omega (arith, length-take n v) in get_or-take n v k 0 m ∙ (h k m ∙ sym (get_or-take n w k 0 m)))

-- ---- what a row's writing leaves: its numbers, its name, and all else as it was
record Wrote (text : Bytes) (rows : List Row) (x : Row) (w z : List ℕ) : Type 0 where
  sized : length z ≡ length w
  number : get_or z (length rows) 0 ≡ number_of x
  kept : (k : ℕ) → (k ≡ length rows → ⊥) → Outside k → get_or z k 0 ≡ get_or w k 0
  others : (k : ℕ) → k < length rows → offset_at z k ≡ offset_at w k
  offset : offset_at z (length rows) ≡ offset_of text (length rows) x
  names : Names text (map name_in rows ++ (name_in x ∷ [])) z

module _ {text : Bytes} {rows : List Row} {x : Row} {w z : List ℕ} (few : length rows < 4_096) (h : Holds text rows w) (r : Wrote text rows x w z) where
  wrote_numbers : take (length (rows ++ (x ∷ []))) z ≡ map number_of (rows ++ (x ∷ []))
  wrote_numbers =
      let n = length rows in
      let same : take n z ≡ map number_of rows = take_same n z w r.sized (λ k l. r.kept k (λ e. omega arith) (inl (omega arith))) ∙ h.numbers in
      ap (λ k. take k z) (length_more rows x)
      ∙ (take-suc z n 0 (omega (arith, r.sized, h.names.room)) ∙ (rw (same, r.number) (sym (map_more number_of rows x))))

  wrote_offsets : (d : Row) (i : ℕ) → i < suc (length rows) → ((k : ℕ) → k < length rows → offset_at w k ≡ offset_of text k (get_or rows k d))
      → offset_at z i ≡ offset_of text i (get_or (rows ++ (x ∷ [])) i d)
  wrote_offsets d i l old = go (ltb i (length rows)) refl
    where
      go : (t : Bool) → ltb i (length rows) ≡ t → offset_at z i ≡ offset_of text i (get_or (rows ++ (x ∷ [])) i d)
      go true e =
          let m : i < length rows = ltb-true i (length rows) e in
          r.others i m ∙ (old i m ∙ sym (ap (λ y. offset_of text i y) (get_or-append rows (x ∷ []) d i m)))
      go false e =
          let m : i ≡ length rows = omega (arith, ltb-false i (length rows) e) in
          subst (λ k. offset_at z k ≡ offset_of text k (get_or (rows ++ (x ∷ [])) k d)) (sym m)
          (r.offset ∙ sym (ap (λ y. offset_of text (length rows) y) (get_or-append_seam rows x [] d)))

  wrote_holds : Holds text (rows ++ (x ∷ [])) z
  wrote_holds =
      record {
        numbers = wrote_numbers;
        offsets = λ i l. wrote_offsets _ i (omega (arith, length_more rows x)) h.offsets;
        names = subst (λ l. Names text l z) (sym (map_more name_in rows x)) r.names;
      }

wrote_held : {text : Bytes} {rows : List Row} {agenda : List Entry} {x : Row} {w z : List ℕ} {top : ℕ} → length rows < 4_096 → Kind x
    → Held text rows agenda (stack w top) → Wrote text rows x w z → Held text (rows ++ (x ∷ [])) agenda (stack z top)
wrote_held {rows} {x} few kind h r =
    record {
      top = h.top;
      entries =
          stacked_kept (λ k l. r.kept (agenda_base + k) (λ e. omega arith) (inr (omega arith))) (omega (arith, length_more rows x))
          h.entries;
      kinds = all_more h.kinds kind;
      holds = wrote_holds few h.holds r;
    }

-- where a row's name starts, or its line
offset_none : (text : Bytes) (i : ℕ) (x : Row) → name_in x ≡ [] → offset_of text i x ≡ start_of text i
offset_none text i x e = subst (λ (bs : Bytes). elim bs [ [] ↦ start_of text i | b ∷ bs ↦ x.line.name.offset ] ≡ start_of text i) (sym e) refl

offset_some : (text : Bytes) (i : ℕ) (x : Row) (b : ℕ) (bs : Bytes) → name_in x ≡ b ∷ bs → offset_of text i x ≡ x.line.name.offset
offset_some text i x b bs e =
    subst (λ (bs : Bytes). elim bs [ [] ↦ start_of text i | b ∷ bs ↦ x.line.name.offset ] ≡ x.line.name.offset) (sym e) refl

-- ---- the machine's own writing of a row: its first number, then its name's
module _ {text : Bytes} {rows : List Row} {w : List ℕ} (few : length rows < 4_096) (h : Holds text rows w) (l : Line) (small : l.word < 32) where
  abbrev first : List ℕ
  first = put w (length rows) l.word

  first_number : get_or first (length rows) 0 ≡ number_of (row l 0)
  first_number = put_stores w (length rows) l.word (omega (arith, h.names.room)) (omega arith) ∙ omega arith

  first_kept : (k : ℕ) → (k ≡ length rows → ⊥) → get_or first k 0 ≡ get_or w k 0
  first_kept k d = get_or-set_other w (length rows) k (l.word % 4_294_967_296) 0 d

  first_length : length first ≡ length w
  first_length = length-set w (length rows) (l.word % 4_294_967_296)

  first_names : Names text (map name_in rows) first
  first_names = other_names h.names (length rows) (l.word % 4_294_967_296) (inl few)

  named_few : length (map name_in rows) < rows_most
  named_few = omega (arith, length-map rows name_in)

  placed_wrote : (at : ℕ) → at < 65_536 → at ≡ start_of text (length rows) → l.name.bytes ≡ [] → Wrote text rows (row l 0) w (placed first (length rows) at)
  placed_wrote at low e none =
      let n = length rows in
      record {
        sized = placed_length first n at ∙ first_length;
        number = placed_outside first n at n few (inl few) ∙ first_number;
        kept = λ k a b. placed_outside first n at k few b ∙ first_kept k a;
        others = λ k a. ap (λ z. z % 65_536) (placed_rows first n at k (λ q. omega arith) ∙ first_kept (name_base + k) (λ q. omega arith));
        offset = placed_offset first n at low few (omega (arith, first_length, h.names.room)) ∙ (e ∙ sym (offset_none text n (row l 0) none));
        names =
            subst (λ (x : Bytes). Names text (map name_in rows ++ (x ∷ [])) (placed first n at)) (sym none)
            (subst (λ k. Names text (map name_in rows ++ ([] ∷ [])) (placed first k at)) (length-map rows name_in) (placed_names first_names at named_few low));
      }

  added_wrote : (b : ℕ) (bs : Bytes) → l.name.bytes ≡ b ∷ bs → l.name.offset < 65_536 → field_at text l.name.offset ≡ l.name.bytes
      → part_of text l.name.offset (length l.name.bytes) ≡ l.name.bytes
      → Wrote text rows (row l 0) w (added text first (length rows) l.name.offset (length l.name.bytes) (hash_of l.name.bytes))
  added_wrote b bs some low field part =
      let n = length rows in
      let at = l.name.offset in
      let x = l.name.bytes in
      record {
        sized = added_length text first n at (length x) (hash_of x) ∙ first_length;
        number = added_outside text first n at (length x) (hash_of x) n few (inl few) ∙ first_number;
        kept = λ k a b. added_outside text first n at (length x) (hash_of x) k few b ∙ first_kept k a;
        others =
            λ k a.
            ap (λ z. z % 65_536)
            (added_rows text first n at (length x) (hash_of x) k (omega arith) (λ q. omega arith) ∙ first_kept (name_base + k) (λ q. omega arith));
        offset =
            added_offset text first n at (length x) (hash_of x) low few (omega (arith, first_length, h.names.room))
            ∙ sym (offset_some text n (row l 0) b bs some);
        names =
            subst (λ k. Names text (map name_in rows ++ (x ∷ [])) (added text first k at (length x) (hash_of x))) (length-map rows name_in)
            (added_names first_names at (length x) x named_few (λ q. let z : ◌≡◌ {A = ℕ} 0 1 = cc in omega arith) part field low);
      }

module _ {text : Bytes} {rows : List Row} {w : List ℕ} (short : length text ≤ 65_536) (few : length rows < 4_096) (h : Holds text rows w) where
  row_wrote : (at : ℕ) (p : Parsed) (next : ℕ) → at ≡ start_of text (length rows) → Known text at p next
      → Wrote text rows (row p.line 0) w (row_written text (length rows) at (numbers_of p next) w)
  unfolding row_written
  row_wrote at p next start known = go p.line.name.bytes refl
    where
      go : (x : Bytes) → p.line.name.bytes ≡ x → Wrote text rows (row p.line 0) w (row_written text (length rows) at (numbers_of p next) w)
      go [] e =
          rw (eq-eqb (length p.line.name.bytes) 0 (ap length e))
          (placed_wrote few h p.line (omega (arith, known.kind)) at (omega (arith, known.onward, known.inside)) start e)
      go (b ∷ bs) e =
          let some : p.line.name.bytes ≡ [] → ⊥ = λ q. let z : ◌≡◌ {A = ℕ} 0 1 = cc in omega arith in
          rw (ne_eqb (length p.line.name.bytes) 0 (λ q. omega (arith, ap length e)))
          (added_wrote few h p.line (omega (arith, known.kind)) b bs e (omega (arith, known.offset some)) (known.field some) (known.part some))

-- ---- a row more
pub row_held : {text : Bytes} {rows : List Row} {agenda : List Entry} {w : List ℕ} {top : ℕ} → length text ≤ 65_536 → length rows < 4_096
    → (at : ℕ) (p : Parsed) (next : ℕ) → at ≡ start_of text (length rows) → Known text at p next → Held text rows agenda (stack w top)
    → Held text (rows ++ (row p.line 0 ∷ [])) agenda (stack (row_written text (length rows) at (numbers_of p next) w) top)
row_held short few at p next start known h =
    wrote_held few (omega (arith, known.kind)) h (row_wrote short few h.holds at p next start known)

-- ---- a row is closed: it gets the number of rows after it
pub close_length : (i : ℕ) (rows : List Row) → length (close_at i rows) ≡ length rows
close_length i [] = refl
close_length zero (x ∷ rows) = refl
close_length (suc i) (x ∷ rows) = ap suc (close_length i rows)

close_names : (i : ℕ) (rows : List Row) → map name_in (close_at i rows) ≡ map name_in rows
close_names i [] = refl
close_names zero (x ∷ rows) = refl
close_names (suc i) (x ∷ rows) = ap (λ t. name_in x ∷ t) (close_names i rows)

close_line : (i : ℕ) (rows : List Row) (k : ℕ) (d : Row) → (get_or (close_at i rows) k d).line ≡ (get_or rows k d).line
close_line i [] k d = refl
close_line zero (x ∷ rows) zero d = refl
close_line zero (x ∷ rows) (suc k) d = refl
close_line (suc i) (x ∷ rows) zero d = refl
close_line (suc i) (x ∷ rows) (suc k) d = close_line i rows k d

close_kinds : (i : ℕ) {rows : List Row} → All Kind rows → All Kind (close_at i rows)
close_kinds i all_nil = all_nil
close_kinds zero (all_cons p a) = all_cons p a
close_kinds (suc i) (all_cons p a) = all_cons p (close_kinds i a)

-- the number of row i: its kind, and how many rows are after it
close_numbers : (i : ℕ) {rows : List Row} → All Kind rows → i < length rows
    → set (map number_of rows) i (get_or (map number_of rows) i 0 % 32 + 32 * (length rows - (i + 1))) ≡ map number_of (close_at i rows)
close_numbers i all_nil l = absurd (omega arith)
close_numbers zero (all_cons {a} {l} p s) h = ap (λ z. z ∷ map number_of l) (omega arith)
close_numbers (suc i) (all_cons {a} {l} p s) h =
    ap (λ t. number_of a ∷ t) (ap (λ z. set (map number_of l) i (get_or (map number_of l) i 0 % 32 + 32 * z)) (omega arith) ∙ close_numbers i s (omega arith))

module _ {text : Bytes} {rows : List Row} {w : List ℕ} (i : ℕ) (l : i < length rows) (kinds : All Kind rows) (h : Holds text rows w) where
  closed_numbers : take (length (close_at i rows)) (row_closed i (length rows) w) ≡ map number_of (close_at i rows)
  unfolding row_closed
  closed_numbers =
      let n = length rows in
      let v = kind_at w i + 32 * (n - (i + 1)) in
      let old : get_or w i 0 ≡ get_or (map number_of rows) i 0 = sym (get_or-take n w i 0 l) ∙ ap (λ t. get_or t i 0) h.numbers in
      let low : v < 4_294_967_296 = omega (arith, rows_few h) in
      ap (λ k. take k (row_closed i n w)) (close_length i rows)
      ∙ (take-set-lt n w i (v % 4_294_967_296) l
      ∙ (rw (h.numbers, mod-eq_of_lt low, old) (close_numbers i kinds l)))

  closed_offsets : (d : Row) (k : ℕ) → k < length rows → offset_at w k ≡ offset_of text k (get_or rows k d)
      → offset_at (row_closed i (length rows) w) k ≡ offset_of text k (get_or (close_at i rows) k d)
  unfolding row_closed
  closed_offsets d k m old =
      let v = kind_at w i + 32 * (length rows - (i + 1)) in
      ap (λ z. z % 65_536) (get_or-set_other w i (name_base + k) (v % 4_294_967_296) 0 (λ e. omega (arith, rows_few h)))
      ∙ (old ∙ sym (ap (λ (y : Line). offset_of text k (row y 0)) (close_line i rows k d)))

  closed_holds : Holds text (close_at i rows) (row_closed i (length rows) w)
  unfolding row_closed
  closed_holds =
      record {
        numbers = closed_numbers;
        offsets = λ k m. let q : k < length rows = omega (arith, close_length i rows) in closed_offsets _ k q (h.offsets k q);
        names =
            subst (λ t. Names text t (row_closed i (length rows) w)) (sym (close_names i rows))
            (other_names h.names i _ (inl (omega (arith, rows_few h))));
      }

pub closed_held : {text : Bytes} {rows : List Row} {agenda : List Entry} {w : List ℕ} {top : ℕ} (i : ℕ) → i < length rows
    → Held text rows agenda (stack w top) → Held text (close_at i rows) agenda (stack (row_closed i (length rows) w) top)
unfolding row_closed
closed_held {rows} {w} i l h =
    record {
      top = h.top;
      entries =
          stacked_kept (λ k m. get_or-set_other w i (agenda_base + k) _ 0 (λ e. omega (arith, rows_few h.holds))) (omega (arith, close_length i rows))
          h.entries;
      kinds = close_kinds i h.kinds;
      holds = closed_holds i l h.kinds h.holds;
    }
