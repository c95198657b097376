-- The way into a def or a method: its parameters are bound up to its end; then a def's notes are noted, those of its parameters first, its
-- rows are flagged, and the notes of its body are forgotten. The code binds and notes one parameter after the other: a mark of a block
-- and a stamp lie apart, so the order does not matter.
use Rattle.std.proofs.Common.{ℕ, suc, ◌+◌, ◌*◌, ◌/◌, ◌%◌, ◌≤◌, ◌<◌, max, add-one, arith, ◌≡◌, refl, sym, ap, ap₂, ◌∙◌, subst, Bool, true, false, cond, ◌&&◌, ◌||◌, List, [], ◌∷◌, ◌++◌, map, eqb, leb, ltb, length, get_or, eqb-true, ne_eqb, ltb-true}
use Rattle.std.proofs.lemmas.List.{set_comm}
use Rattle.std.proofs.lemmas.Bool.{eqb-false}
use Rattle.spec_text.specs.Bytes.{Bytes, Part, same, mem}
use Rattle.spec_text.specs.Tree.{Line, Stmts, def, len_s, len_ss}
use Rattle.spec_text.proofs.Lists.{same_eq, same_false}
use Rattle.spec_faults.proofs.Lists.{All}
use Rattle.work_rows.specs.Layout.{put, rows_most, head_base}
use Rattle.work_marks.specs.MarksModel.{stamp_base, lambda_end, block_end, slot_at, stamp_at, flag_at, put_stamp, raised_block}
use Rattle.read_names.specs.ChainsModel.{lookup}
use Rattle.work_rows.specs.Rows.{Row, row, rows_s}
use Rattle.work_marks.proofs.Writes.{Words, Kept, kept_refl, kept_trans, raised_block_same, raised_block_other, raised_block_lambda, raised_block_slot, raised_block_fourth, kept_raised_block, words_raised_block, fourth_apart}
use Rattle.walk_scopes.specs.ScopesModel.{Scope, owns, defined}
use Rattle.walk_scopes.proofs.Defined.{defined_block}
use Rattle.walk_own_names.specs.OwnNamesModel.{noted, forgot, all_bindings, all_flagged, flagged}
use Rattle.read_row.specs.RowModel.{params_of}
use Rattle.read_row.specs.Worded.{Somes, WordedS}
use Rattle.walk_blocks.specs.BlocksModel.{entered_one, entered, opened}
use Rattle.proof_walk.specs.Table.{ParamWord, def, method, Table, Here}
use Rattle.proof_walk.specs.Notes.{Note, note, notes_ss, notes_d, ToldSs}
use Rattle.proof_walk.proofs.State.{Raised}
use Rattle.proof_walk.proofs.PartRows.{here_tail, row_params, table_kept}
use Rattle.proof_walk.proofs.Noted.{Restamped, Later, restamped_noted, restamped_forgot, restamped_all, do_all, do_all-two, noted_all, low_again}
use Rattle.proof_walk.proofs.Gathered.{gathered}
use Rattle.proof_walk.proofs.Assigned.{later_d}
use Rattle.proof_walk.proofs.Flagged.{Flagged, flagged_all}

-- ---- a mark of a block and a stamp
module _ (w : List ℕ) (c e : ℕ) where
  -- in the buffer u, with the number k where the mark is
  abbrev marked_in : List ℕ → ℕ → Bool → List ℕ
  marked_in u k s = cond s (cond (ltb (k / 8_192 % 8_192) e) (put u (head_base + c) (k % 8_192 + 8_192 * (e % 8_192) + 67_108_864 * (k / 67_108_864))) u) u

  raise_put : (a v : ℕ) → put (raised_block w c e) (stamp_base + a) v ≡ raised_block (put w (stamp_base + a) v) c e
  unfolding raised_block
  raise_put a v = go (ltb c rows_most) refl
    where
      u : List ℕ
      u = put w (stamp_base + a) v

      swap : (k : ℕ) → c < 4_096 → (t : Bool) → put (cond t (put w (head_base + c) k) w) (stamp_base + a) v ≡ cond t (put u (head_base + c) k) u
      swap k l true = set_comm w (head_base + c) (stamp_base + a) (k % 4_294_967_296) (v % 4_294_967_296) (λ q. omega arith)
      swap k l false = refl

      go : (s : Bool) → ltb c rows_most ≡ s → put (marked_in w (get_or w (head_base + c) 0) s) (stamp_base + a) v ≡ marked_in u (get_or u (head_base + c) 0) s
      go false p = refl
      go true p =
          let l : c < 4_096 = ltb-true c rows_most p in
          swap _ l (ltb (get_or w (head_base + c) 0 / 8_192 % 8_192) e) ∙ ap (λ k. marked_in u k true) (sym (fourth_apart w a v (head_base + c) (omega arith)))

  raise_stamp : (a from : ℕ) → put_stamp (raised_block w c e) a from ≡ raised_block (put_stamp w a from) c e
  raise_stamp a from = ap (λ x. put (raised_block w c e) (stamp_base + a) (from % 8_192 + 8_192 * (x / 8_192))) (raised_block_fourth w c e a) ∙ raise_put a _

  raise_noted : (b a from : ℕ) → noted b a from (raised_block w c e) ≡ raised_block (noted b a from w) c e
  unfolding noted
  raise_noted b a from =
      ap (λ k. cond (ltb a rows_most) (cond (ltb b (k % 8_192) && leb (k % 8_192) from) (raised_block w c e) (put_stamp (raised_block w c e) a from)) (raised_block w c e)) (raised_block_fourth w c e a)
      ∙ go (ltb a rows_most) (ltb b (stamp_at w a) && leb (stamp_at w a) from)
    where
      go : (s t : Bool) → cond s (cond t (raised_block w c e) (put_stamp (raised_block w c e) a from)) (raised_block w c e) ≡ raised_block (cond s (cond t w (put_stamp w a from)) w) c e
      go true true = refl
      go true false = raise_stamp a from
      go false t = refl

-- ---- parameters are bound
-- the names ps up to the row end: nothing but the marks of blocks changes
pub record Bound (num : Bytes → ℕ) (end : ℕ) (ps : List Part) (w v : List ℕ) : Type 0 where
  pub kept : Kept w v
  pub words : Words w → Words v
  pub lambda : (a : ℕ) → a < 4_096 → lambda_end v a ≡ lambda_end w a
  pub slot : Words w → (i : ℕ) → slot_at v i ≡ slot_at w i
  pub fourth : (a : ℕ) → get_or v (stamp_base + a) 0 ≡ get_or w (stamp_base + a) 0
  pub raised : (a : ℕ) → a < 4_096 → Raised end (block_end w a) (block_end v a)
  pub block : (x : Bytes) → num x < 4_096 → block_end v (num x) ≡ cond (mem x ps) (max (block_end w (num x)) end) (block_end w (num x))

module _ (num : Bytes → ℕ) (end : ℕ) where
  abbrev raise_all : List Part → List ℕ → List ℕ
  raise_all [] w = w
  raise_all (p ∷ ps) w = raise_all ps (raised_block w (num p.bytes) end)

  raise_noted_all : (b a from : ℕ) (ps : List Part) (w : List ℕ) → noted b a from (raise_all ps w) ≡ raise_all ps (noted b a from w)
  raise_noted_all b a from [] w = refl
  raise_noted_all b a from (p ∷ ps) w =
      raise_noted_all b a from ps (raised_block w (num p.bytes) end) ∙ ap (raise_all ps) (raise_noted w (num p.bytes) end b a from)

  module _ (low : end < 8_192) (apart : (x y : Bytes) → num x < 4_096 → num x ≡ num y → x ≡ y) where
    raised_one : (w : List ℕ) (c : ℕ) → 16_384 ≤ length w → (a : ℕ) → a < 4_096 → Raised end (block_end w a) (block_end (raised_block w c end) a)
    raised_one w c room a l = go (eqb a c) refl
      where
        go : (t : Bool) → eqb a c ≡ t → Raised end (block_end w a) (block_end (raised_block w c end) a)
        go true e =
            subst (λ k. Raised end (block_end w a) (block_end (raised_block w k end) a)) (eqb-true a c e)
            (record { up = omega (arith, raised_block_same w a end room l low); most = omega (arith, raised_block_same w a end room l low) })
        go false e = record { up = omega (arith, raised_block_other w c end a (eqb-false a c e)); most = omega (arith, raised_block_other w c end a (eqb-false a c e)) }

    block_one : (w : List ℕ) (y : Bytes) → 16_384 ≤ length w → (x : Bytes) → num x < 4_096
        → block_end (raised_block w (num y) end) (num x) ≡ cond (same x y) (max (block_end w (num x)) end) (block_end w (num x))
    block_one w y room x l = go (same x y) refl
      where
        go : (t : Bool) → same x y ≡ t → block_end (raised_block w (num y) end) (num x) ≡ cond t (max (block_end w (num x)) end) (block_end w (num x))
        go true e = subst (λ z. block_end (raised_block w (num z) end) (num x) ≡ max (block_end w (num x)) end) (same_eq x y e) (raised_block_same w (num x) end room l low)
        go false e = raised_block_other w (num y) end (num x) (λ q. same_false x y e (apart x y l q))

    bound_all : (ps : List Part) (w : List ℕ) → 16_384 ≤ length w → Bound num end ps w (raise_all ps w)
    bound_all [] w room = record {
      kept = kept_refl w;
      words = λ h. h;
      lambda = λ _ _. refl;
      slot = λ _ _. refl;
      fourth = λ _. refl;
      block = λ _ _. refl;
      raised = λ _ _. record { up = omega arith; most = omega arith };
    }
    bound_all (p ∷ ps) w room =
        let c : ℕ = num p.bytes in
        let u : List ℕ = raised_block w c end in
        let k : Kept w u = kept_raised_block w c end in
        let i : Bound num end ps u (raise_all ps u) = bound_all ps u (omega (arith, k.long)) in
        record {
          kept = kept_trans k i.kept;
          words = λ h. i.words (words_raised_block w c end h);
          lambda = λ a l. i.lambda a l ∙ raised_block_lambda w c end a l;
          slot = λ h j. i.slot (words_raised_block w c end h) j ∙ raised_block_slot w c end h j;
          fourth = λ a. i.fourth a ∙ raised_block_fourth w c end a;
          raised = λ a l. let q = raised_one w c room a l in let r = i.raised a l in record { up = omega arith; most = omega arith };
          block = λ x l. i.block x l ∙ two (block_end w (num x)) (block_end u (num x)) (same x p.bytes) (mem x ps) (block_one w p.bytes room x l);
        }
      where
        two : (k m : ℕ) (s t : Bool) → m ≡ cond s (max k end) k → cond t (max m end) m ≡ cond (s || t) (max k end) k
        two k m true true e = omega arith
        two k m true false e = e
        two k m false true e = ap (λ n. max n end) e
        two k m false false e = e

-- ---- the parameters are entered
module _ {text : Bytes} {rows : List Row} {num : Bytes → ℕ} (s : Scope) (i : ℕ) (flat : s.inner ≡ 0) where
  bind_one : (w : List ℕ) (x : Bytes) → (x ≡ [] → ⊥) → Table text rows num w → defined s w (lookup text w x) ≡ raised_block w (num x) s.end
  bind_one w x q t = defined_block s w (lookup text w x) flat ∙ ap (λ a. raised_block w a s.end) (t.found x q)

  entered_plain : owns s ≡ false → (ps : List Part) (w : List ℕ) → Somes ps → Table text rows num w → entered text s i ps w ≡ raise_all num s.end ps w
  unfolding entered entered_one
  entered_plain o [] w q t = refl
  entered_plain o (p ∷ ps) w q t =
      ap (entered text s i ps) (rw o (bind_one w p.bytes q.0 t))
      ∙ entered_plain o ps (raised_block w (num p.bytes) s.end) q.1 (table_kept (kept_raised_block w (num p.bytes) s.end) t)

  entered_own : owns s ≡ true → (ps : List Part) (w : List ℕ) → Somes ps → Table text rows num w
      → entered text s i ps w ≡ do_all num (noted i) (map (note (suc i)) ps) (raise_all num s.end ps w)
  unfolding entered entered_one
  entered_own o [] w q t = refl
  entered_own o (p ∷ ps) w q t =
      let a : ℕ = num p.bytes in
      let u : List ℕ = raised_block w a s.end in
      let k : Table text rows num u = table_kept (kept_raised_block w a s.end) t in
      let v : List ℕ = noted i a (suc i) u in
      ap (entered text s i ps) (rw o (ap₂ (λ c z. noted i c (i + 1) z) (t.found p.bytes q.0) (bind_one w p.bytes q.0 t)
      ∙ ap (λ f. noted i a f u) (add-one i)))
      ∙ entered_own o ps v q.1 (table_kept (restamped_noted i a (suc i) u).others.kept k)
      ∙ ap (do_all num (noted i) (map (note (suc i)) ps)) (sym (raise_noted_all num s.end i a (suc i) ps u))

-- ---- the block of a method: its parameters are bound
pub opened_method : {text : Bytes} {rows : List Row} {num : Bytes → ℕ} {w : List ℕ} (s : Scope) → s.inner ≡ 0 → (s.home ≡ 1 → ⊥)
    → {i n : ℕ} {l : Line} {part : List Row} → Table text rows num w → Here rows i (row l n ∷ part) → l.word ≡ 14 → Somes l.params → s.end < 8_192 → (stop : ℕ)
    → Bound num s.end l.params w (opened text s i stop w)
unfolding opened
opened_method {text} {rows} {num} {w} s flat home {i} {l = l} t h k q low stop =
    let o : owns s ≡ false = ap (λ b. b && eqb s.inner 0) (ne_eqb s.home 1 home) in
    let e : params_of text w i ≡ l.params = row_params t h (subst ParamWord (sym k) method) in
    subst (Bound num s.end l.params w)
    (sym (ap (λ b. cond b (flagged i (i + 1) stop (entered text s i (params_of text w i) w)) (entered text s i (params_of text w i) w)) o
    ∙ ap (λ ps. entered text s i ps w) e ∙ entered_plain s i flat o l.params w q t))
    (bound_all num s.end low t.apart l.params w t.room)

-- ---- the block of a def at row b: its parameters ps are bound up to the row end, and its body's rows are flagged by its notes ns
pub record OpenedDef (rows : List Row) (num : Bytes → ℕ) (end b : ℕ) (ps : List Part) (ns : List Note) (body : Stmts) (w v : List ℕ) : Type 0 where
  pub kept : Kept w v
  pub words : Words w → Words v
  pub lambda : (a : ℕ) → a < 4_096 → lambda_end v a ≡ lambda_end w a
  pub slot : Words w → (i : ℕ) → i < 4_096 → slot_at v i ≡ slot_at w i
  pub raised : (a : ℕ) → a < 4_096 → Raised end (block_end w a) (block_end v a)
  pub block : (x : Bytes) → num x < 4_096 → block_end v (num x) ≡ cond (mem x ps) (max (block_end w (num x)) end) (block_end w (num x))
  pub low : (x : Bytes) → num x < 4_096 → stamp_at v (num x) ≤ suc b
  pub flags : Words w → (i : ℕ) → end ≤ i → flag_at v i ≡ flag_at w i
  pub early : Words w → (i : ℕ) → i ≤ b → flag_at v i ≡ flag_at w i
  pub told : Words w → ToldSs rows (record { notes = ns; flags = flag_at v }) body (suc b)

-- no stamp comes after the def's row before
module _ {text : Bytes} {rows : List Row} {num : Bytes → ℕ} {w : List ℕ} (s : Scope) (i : ℕ) (home : s.home ≡ 1) (flat : s.inner ≡ 0) (l : Line) (b : Stmts)
    (t : Table text rows num w) (h : Here rows i (rows_s (def l b))) (d : WordedS (def l b)) (end : s.end ≡ i + len_s (def l b)) (few : s.end < 8_191)
    (old : (x : Bytes) → num x < 4_096 → stamp_at w (num x) ≤ i) where
  -- the notes of the parameters, and of the body
  abbrev ms : List Note
  ms = map (note (suc i)) l.params

  abbrev ns : List Note
  ns = notes_ss b (suc i)

  -- the buffer with the parameters bound; with all notes noted; with the flags; with the notes of the body forgotten
  abbrev bound : List ℕ
  bound = raise_all num s.end l.params w

  abbrev stamped : List ℕ
  stamped = do_all num (noted i) (ms ++ ns) bound

  abbrev told : List ℕ
  told = all_flagged i (suc i) (suc i + len_ss b) stamped

  abbrev done : List ℕ
  done = do_all num forgot ns told

  is_bound : Bound num s.end l.params w bound
  is_bound = bound_all num s.end (omega arith) t.apart l.params w t.room

  is_stamped : Restamped bound stamped
  is_stamped = restamped_all num (noted i) (restamped_noted i) (ms ++ ns) bound

  table_bound : Table text rows num bound
  table_bound = table_kept is_bound.kept t

  table_stamped : Table text rows num stamped
  table_stamped = table_kept is_stamped.others.kept table_bound

  later : All (Later i) (ms ++ ns)
  later = later_d l b i (omega arith)

  old_bound : (x : Bytes) → num x < 4_096 → stamp_at bound (num x) ≤ i
  old_bound x k = omega (arith, is_bound.fourth (num x), old x k)

  is_told : Flagged rows (ms ++ ns) b (suc i) stamped told
  is_told =
      flagged_all i (ms ++ ns) b (suc i) table_stamped (λ x k r. noted_all num t.apart x k i (ms ++ ns) later bound table_bound.room (old_bound x k) r) d.1.1.1 (here_tail h)

  table_told : Table text rows num told
  table_told = table_kept is_told.does.others.kept table_stamped

  is_done : Restamped told done
  is_done = restamped_all num forgot restamped_forgot ns told

  opened_steps : opened text s i s.end w ≡ done
  unfolding opened
  opened_steps =
      let o : owns s ≡ true = ap₂ (λ a c. eqb a 1 && eqb c 0) home flat in
      let e : params_of text w i ≡ l.params = row_params t h (subst ParamWord (sym d.0) def) in
      let z : s.end ≡ suc i + len_ss b = omega arith in
      let g : Table text rows num (do_all num (noted i) ms bound) = table_kept (restamped_all num (noted i) (restamped_noted i) ms bound).others.kept table_bound in
      ap (λ c. cond c (flagged i (i + 1) s.end (entered text s i (params_of text w i) w)) (entered text s i (params_of text w i) w)) o
      ∙ ap (λ ps. flagged i (i + 1) s.end (entered text s i ps w)) e ∙ ap (flagged i (i + 1) s.end) (entered_own s i flat o l.params w d.1.1.0 t)
      ∙ ap₂ (λ at stop. flagged i at stop (do_all num (noted i) ms bound)) (add-one i) z
      ∙ ap (λ v. all_bindings forgot (suc i) (suc i + len_ss b) (all_flagged i (suc i) (suc i + len_ss b) v))
      (gathered (noted i) (restamped_noted i) b (suc i) g d.1.1.1 (here_tail h) ∙ sym (do_all-two num (noted i) ms ns bound))
      ∙ gathered forgot restamped_forgot b (suc i) table_told d.1.1.1 (here_tail h)

  pub opened_def : OpenedDef rows num s.end i l.params (notes_d l b i) b w (opened text s i s.end w)
  opened_def = subst (OpenedDef rows num s.end i l.params (ms ++ ns) b w) (sym opened_steps) (record {
    kept = kept_trans is_bound.kept (kept_trans is_stamped.others.kept (kept_trans is_told.does.others.kept is_done.others.kept));
    words = λ c. is_done.others.words (words c);
    lambda = λ a c. is_done.others.lambda a c ∙ is_told.does.others.lambda a c ∙ is_stamped.others.lambda a c ∙ is_bound.lambda a c;
    slot = λ c j m. is_done.others.slot j m ∙ is_told.does.others.slot j m ∙ is_stamped.others.slot j m ∙ is_bound.slot c j;
    raised = λ a c. subst (Raised s.end (block_end w a)) (sym (same a c)) (is_bound.raised a c);
    block = λ x c. same (num x) c ∙ is_bound.block x c;
    low = λ x c. low_again num t.apart x c i l.params ns later bound told table_bound.room table_told.room (old_bound x c) (is_told.does.stamp (num x));
    flags = λ c j m. is_done.flag (words c) j ∙ is_told.does.beyond j (omega arith) ∙ is_stamped.flag (is_bound.words c) j ∙ ap (λ x. x / 8_192) (is_bound.fourth j);
    early = λ c j m. is_done.flag (words c) j ∙ is_told.does.before j (omega arith) ∙ is_stamped.flag (is_bound.words c) j ∙ ap (λ x. x / 8_192) (is_bound.fourth j);
    told = λ c. is_told.told (flag_at done) (λ k. is_done.flag (words c) k);
  })
    where
      words : Words w → Words told
      words c = is_told.does.others.words (is_stamped.others.words (is_bound.words c))

      same : (a : ℕ) → a < 4_096 → block_end done a ≡ block_end bound a
      same a c = is_done.others.block a c ∙ is_told.does.others.block a c ∙ is_stamped.others.block a c
