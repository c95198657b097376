-- What the rows of a part give the walk: the row that it stands at, the rows of its parts, and the row after it. Nothing that the walk
-- writes changes this: it keeps the rows, the second numbers and the heads, and from these alone names are found.
use Rattle.std.proofs.Common.{ℕ, zero, suc, ◌+◌, ◌-◌, ◌/◌, ◌%◌, ◌≤◌, ◌<◌, arith, ◌≡◌, refl, sym, ap, ap₂, ◌∙◌, subst, Bool, true, false, cond, List, ◌∷◌, ◌++◌, append_assoc, leb, ltb, length, get_or, drop, length-append, length-drop, drop-cons, drop-drop, ltb-true}
use Rattle.std.proofs.Math.Seq.{drop-append_seam}
use Rattle.std.specs.Prelude.{Option, Some as is_row}
use Rattle.spec_text.specs.Bytes.{Bytes, same}
use Rattle.spec_text.specs.Tree.{Line, Expr, Stmt, var, node, access, tuple, call, lambda, simple, assign, block, choice, for, def, class, len_e, len_s}
use Rattle.read_fields.specs.FieldsModel.{field_at, hash_of}
use Rattle.work_rows.specs.Layout.{rows_most, kind_at, number_at, offset_at, same_at, lines_below, after_row}
use Rattle.read_names.proofs.Turns.{link_falls}
use Rattle.read_names.specs.ChainsModel.{head_at, link_at, follow, row_number as number_or_none, lookup}
use Rattle.work_rows.specs.Rows.{Row, row, rows_e, rows_s}
use Rattle.read_tree.specs.Laid.{no_row}
use Rattle.work_rows.proofs.Lengths.{Sized}
use Rattle.work_marks.proofs.Writes.{Kept, kept_kind, kept_number}
use Rattle.read_row.specs.RowModel.{params_of, params_at}
use Rattle.read_row.specs.Worded.{Some}
use Rattle.proof_walk.specs.Table.{ParamWord, Table, Here}

-- ---- the rows of a part
module _ {rows : List Row} {i : ℕ} where
  here_length : {part : List Row} (h : Here rows i part) → length rows - i ≡ length part + length h.post
  here_length {part} h = sym (length-drop i rows) ∙ ap length h.same ∙ length-append part h.post

  pub head_row : {x : Row} {part : List Row} → Here rows i (x ∷ part) → (i < length rows) × (get_or rows i no_row ≡ x)
  head_row h =
      let room : i < length rows = omega (arith, here_length h) in
      let cut = sym (drop-cons rows i no_row room) ∙ h.same in
      (room, cc)

  pub here_tail : {x : Row} {part : List Row} → Here rows i (x ∷ part) → Here rows (suc i) part
  here_tail {x} {part} h =
      let cut = sym (drop-cons rows i no_row (head_row h).0) ∙ h.same in
      record { post = h.post; same = cc }

  pub here_left : (a b : List Row) → Here rows i (a ++ b) → Here rows i a
  here_left a b h = record { post = b ++ h.post; same = h.same ∙ append_assoc a b h.post }

  here_right : (a b : List Row) → Here rows i (a ++ b) → Here rows (i + length a) b
  here_right a b h = record {
    post = h.post;
    same = sym (drop-drop (length a) i rows) ∙ ap (drop (length a)) (h.same ∙ append_assoc a b h.post) ∙ drop-append_seam a (b ++ h.post);
  }

  -- the same, past a part of so many lines
  pub here_past : {a : List Row} {n : ℕ} → Sized a n → (b : List Row) → Here rows i (a ++ b) → Here rows (i + n) b
  here_past {a} {n} z b h = subst (λ k. Here rows (i + k) b) z.count (here_right a b h)

-- ---- the row of a line
module _ {text : Bytes} {rows : List Row} {num : Bytes → ℕ} {w : List ℕ} (t : Table text rows num w) {i : ℕ} {l : Line} {n : ℕ} {part : List Row} (h : Here rows i (row l n ∷ part)) where
  pub row_few : i < 4_096
  row_few = omega (arith, t.few, (head_row h).0)

  pub row_kind : kind_at w i ≡ l.word
  row_kind = t.kind i (head_row h).0 ∙ ap (λ (x : Row). x.line.word) (head_row h).1

  pub row_after : after_row w i ≡ i + suc n
  row_after = let e : lines_below w i ≡ n = t.below i (head_row h).0 ∙ ap (λ (x : Row). x.below) (head_row h).1 in omega (arith, e)

  pub row_number : Some l.name → number_at w i ≡ num l.name.bytes
  row_number s =
      let e = (head_row h).1 in
      t.number i (head_row h).0 (subst (λ (x : Row). Some x.line.name) (sym e) s) ∙ ap (λ (x : Row). num x.line.name.bytes) e

  pub row_params : ParamWord l.word → params_of text w i ≡ l.params
  row_params p =
      let e = (head_row h).1 in
      t.params i (head_row h).0 (subst (λ (x : Row). ParamWord x.line.word) (sym e) p) ∙ ap (λ (x : Row). x.line.params) e

  -- a row's name has a number
  pub row_small : Some l.name → num l.name.bytes < 4_096
  row_small s = subst (λ a. a < 4_096) (row_number s) (go (ltb (same_at w i) rows_most) refl)
    where
      go : (b : Bool) → ltb (same_at w i) rows_most ≡ b → cond b (same_at w i) i < 4_096
      go true e = ltb-true (same_at w i) rows_most e
      go false e = row_few

-- the row after a part
module _ {text : Bytes} {rows : List Row} {num : Bytes → ℕ} {w : List ℕ} (t : Table text rows num w) {i : ℕ} where
  pub row_after_e : (e : Expr) → Here rows i (rows_e e) → after_row w i ≡ i + len_e e
  row_after_e (var l) h = row_after t h
  row_after_e (node l es) h = row_after t h
  row_after_e (access l es) h = row_after t h
  row_after_e (tuple l es) h = row_after t h
  row_after_e (call l f es) h = row_after t h
  row_after_e (lambda l e) h = row_after t h

  pub row_after_s : (s : Stmt) → Here rows i (rows_s s) → after_row w i ≡ i + len_s s
  row_after_s (simple l es) h = row_after t h
  row_after_s (assign l e t') h = row_after t h
  row_after_s (block l c b) h = row_after t h
  row_after_s (choice l c b k e) h = row_after t h
  row_after_s (for l e b) h = row_after t h
  row_after_s (def l b) h = row_after t h
  row_after_s (class l ms ats) h = row_after t h

-- ---- what the walk keeps
module _ {w v : List ℕ} (k : Kept w v) where
  kept_head : (h : ℕ) → head_at v h ≡ head_at w h
  kept_head h = k.heads (h % 4_096) (omega arith)

  kept_offset : (j : ℕ) → j < 4_096 → offset_at v j ≡ offset_at w j
  kept_offset j l = ap (λ x. x % 65_536) (k.seconds j l)

  kept_link : (j : ℕ) → j < 4_096 → link_at v j ≡ link_at w j
  kept_link j l = ap (λ x. cond (leb (x / 65_536 - rows_most) j) (x / 65_536 - rows_most) 0) (k.seconds j l)

  kept_walk : (text x : Bytes) (n c : ℕ) → c ≤ 4_096 → follow n text v c x ≡ follow n text w c x
  unfolding follow
  kept_walk text x zero c l = refl
  kept_walk text x (suc n) zero l = refl
  kept_walk text x (suc n) (suc j) l =
      ap₂ {C = Option ℕ} (λ o r. cond (same (field_at text o) x) (is_row j) r) (kept_offset j (omega arith))
      (ap (λ c. follow n text v c x) (kept_link j (omega arith)) ∙ kept_walk text x n (link_at w j) (omega (arith, link_falls w j)))

  kept_lookup : (text x : Bytes) → head_at w (hash_of x) ≤ 4_096 → lookup text v x ≡ lookup text w x
  kept_lookup text x l =
      let e = kept_head (hash_of x) in
      ap number_or_none (ap (λ c. follow c text v c x) e ∙ kept_walk text x (head_at w (hash_of x)) (head_at w (hash_of x)) l)

  kept_params : (text : Bytes) (i : ℕ) → i < 4_096 → params_of text v i ≡ params_of text w i
  unfolding params_of
  kept_params text i l = ap₂ (params_at text) (kept_kind k i l) (kept_offset i l)

  pub table_kept : {text : Bytes} {rows : List Row} {num : Bytes → ℕ} → Table text rows num w → Table text rows num v
  table_kept {text} {rows} {num} t =
      let few = t.few in
      record {
        room = omega (arith, t.room, k.long);
        few = t.few;
        kind = λ i l. kept_kind k i (omega arith) ∙ t.kind i l;
        below = λ i l. omega (arith, k.rows i (omega arith), t.below i l);
        number = λ i l s. kept_number k i (omega arith) ∙ t.number i l s;
        params = λ i l p. kept_params text i (omega arith) ∙ t.params i l p;
        heads = λ h. omega (arith, kept_head h, t.heads h);
        found = λ x s. kept_lookup text x (t.heads (hash_of x)) ∙ t.found x s;
        apart = t.apart;
      }
