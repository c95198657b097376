-- The loop that flags a def's rows: each `var` of the block gets the flag that the notes give it, and nothing else changes. By recursion over
-- statements: the loop comes past each part with its flags set; rows that are no def and no class it takes one by one, and those it steps
-- over. What is said of the flags is said of any function g that has them in the rows of the part: so later rows do not matter.
use Rattle.std.proofs.Common.{ℕ, suc, ◌+◌, ◌≤◌, ◌<◌, add-one, arith, ◌≡◌, refl, sym, ap, ap₂, ◌∙◌, subst, Bool, true, false, cond, not, ◌&&◌, List, [], ◌∷◌, ◌++◌, ◌⊎◌, inl, inr, eqb, leb, ltb, length, get_or, eqb-true}
use Rattle.std.proofs.lemmas.Bool.{eqb-false, not-true}
use Rattle.spec_text.specs.Bytes.{Bytes}
use Rattle.spec_text.specs.Tree.{Line, Expr, Exprs, Stmt, Stmts, var, node, access, tuple, call, lambda, enil, econs, simple, assign, block, choice, for, def, class, snil, scons, len_e, len_s, len_ss}
use Rattle.spec_text.proofs.Lists.{and_split}
use Rattle.spec_faults.proofs.Lists.{All, none, also, all_append}
use Rattle.work_rows.specs.Layout.{kind_at, number_at}
use Rattle.work_rows.specs.Rows.{Row, row, rows_e, rows_es, rows_s, rows_ss}
use Rattle.work_rows.proofs.Lengths.{Sized, under, both, sized_e, sized_es, sized_s, sized_ss}
use Rattle.work_rows.proofs.Loops.{rows_end}
use Rattle.work_marks.specs.MarksModel.{stamp_at, flag_at, put_flag}
use Rattle.work_marks.proofs.Writes.{flag_same, flag_other, flag_stamp}
use Rattle.walk_own_names.specs.OwnNamesModel.{flag_for, row_flagged, next_in_block, all_flagged}
use Rattle.walk_own_names.proofs.Ways.{block_past, block_next, flagged_var, flagged_none, flags_more}
use Rattle.read_tree.specs.Laid.{no_row}
use Rattle.read_row.specs.Worded.{Some, WordedE, WordedEs, WordedS, WordedSs}
use Rattle.proof_walk.specs.Table.{Table, Here}
use Rattle.proof_walk.specs.Notes.{Note, OwnNames, flag_of, Told, ToldS, ToldSs}
use Rattle.proof_walk.proofs.Fourths.{Fourths, fourths_refl, fourths_trans, fourths_put}
use Rattle.proof_walk.proofs.PartRows.{head_row, here_tail, here_left, here_past, row_few, row_kind, row_after, row_number, row_small, table_kept}
use Rattle.proof_walk.proofs.WordTests.{node_test, access_test, simple_test, block_test}

-- ---- rows that are taken one by one: no def, no class, and a `var` has a name
pub record Plain (x : Row) : Type 0 where
  pub def : x.line.word ≡ 5 → ⊥
  pub class : x.line.word ≡ 13 → ⊥
  pub name : x.line.word ≡ 17 → Some x.line.name

-- a word that is none of the three
abbrev other : ℕ → Bool
other k = not (eqb k 5) && (not (eqb k 13) && not (eqb k 17))

plain_by : (x : Row) → other x.line.word ≡ true → Plain x
plain_by x e =
    let k : ℕ = x.line.word in
    let a = and_split (not (eqb k 5)) _ e in
    let b = and_split (not (eqb k 13)) _ a.1 in
    record {
      def = eqb-false k 5 (not-true _ a.0);
      class = eqb-false k 13 (not-true _ b.0);
      name = λ q. absurd (eqb-false k 17 (not-true _ b.1) q);
    }

mutual
  plain_e : (e : Expr) → WordedE e → All Plain (rows_e e)
  plain_e (var l) d = also {a = row l 0} (record { def = λ q. omega (arith, d.0); class = λ q. omega (arith, d.0); name = λ _. d.1 }) none
  plain_e (node l es) d = also (plain_by (row l _) (node_test other refl d.0)) (plain_es es d.1)
  plain_e (access l es) d = also (plain_by (row l _) (access_test other refl d.0)) (plain_es es d.1)
  plain_e (tuple l es) d = also (plain_by (row l _) (ap other d.0)) (plain_es es d.1)
  plain_e (call l f es) d = also (plain_by (row l _) (ap other d.0)) (all_append (plain_e f d.1.0) (plain_es es d.1.1))
  plain_e (lambda l e) d = also (plain_by (row l _) (ap other d.0)) (plain_e e d.1.1)

  plain_es : (es : Exprs) → WordedEs es → All Plain (rows_es es)
  plain_es enil d = none
  plain_es (econs e es) d = all_append (plain_e e d.0) (plain_es es d.1)

-- ---- what a flag at row i leaves: from row i up to row j flags were written, and nothing else
pub record Flagging (i j : ℕ) (w z : List ℕ) : Type 0 where
  pub others : Fourths w z
  pub stamp : (a : ℕ) → stamp_at z a ≡ stamp_at w a
  pub before : (k : ℕ) → k < i → flag_at z k ≡ flag_at w k
  pub beyond : (k : ℕ) → j ≤ k → flag_at z k ≡ flag_at w k

flagging_none : (i j : ℕ) (w : List ℕ) → Flagging i j w w
flagging_none i j w = record { others = fourths_refl w; stamp = λ _. refl; before = λ _ _. refl; beyond = λ _ _. refl }

flagging_one : (i f : ℕ) (w : List ℕ) → Flagging i (suc i) w (put_flag w i f)
flagging_one i f w = record {
  others = fourths_put w i _;
  stamp = flag_stamp w i f;
  before = λ k l. flag_other w i f k (λ q. omega arith);
  beyond = λ k l. flag_other w i f k (λ q. omega arith);
}

flagging_two : {i j m : ℕ} {w y z : List ℕ} → i ≤ j → j ≤ m → Flagging i j w y → Flagging j m y z → Flagging i m w z
flagging_two a b p q = record {
  others = fourths_trans p.others q.others;
  stamp = λ k. q.stamp k ∙ p.stamp k;
  before = λ k l. q.before k (omega arith) ∙ p.before k l;
  beyond = λ k l. q.beyond k l ∙ p.beyond k (omega arith);
}

-- ---- the loop over the rows of the def at row b, with these notes
module _ (text : Bytes) (rows : List Row) (num : Bytes → ℕ) (b : ℕ) (ns : List Note) (stop : ℕ) where
  -- with these flags
  abbrev with : (ℕ → ℕ) → OwnNames
  with g = record { notes = ns; flags = g }

  -- the stamps give the flags
  abbrev pub Right : List ℕ → Type 0
  Right w = (x : Bytes) → num x < 4_096 → (r : ℕ) → flag_for b r (stamp_at w (num x)) ≡ flag_of ns x r

  right_on : {i j : ℕ} {w z : List ℕ} → Flagging i j w z → Right w → Right z
  right_on f h x l r = ap (flag_for b r) (f.stamp (num x)) ∙ h x l r

  -- from row i it comes to row j, where P holds of the flags of these rows
  record Comes (w : List ℕ) (i j : ℕ) (P : (ℕ → ℕ) → Type 0) : Type 0 where
    pub there : List ℕ
    pub far : i ≤ j
    pub goes : all_flagged b i stop w ≡ all_flagged b j stop there
    pub does : Flagging i j w there
    pub told : (g : ℕ → ℕ) → ((k : ℕ) → i ≤ k → k < j → g k ≡ flag_at there k) → P g

  comes_two : {w : List ℕ} {i j m n : ℕ} {P Q : (ℕ → ℕ) → Type 0} (p : Comes w i j P) → Comes p.there j m Q → m ≡ n → Comes w i n (λ g. P g × Q g)
  comes_two {w} {i} {j} {m} {n} {P} {Q} p q e = subst (λ n. Comes w i n (λ g. P g × Q g)) e (record {
    there = q.there;
    far = omega (arith, p.far, q.far);
    goes = p.goes ∙ q.goes;
    does = flagging_two p.far q.far p.does q.does;
    told = λ g h. (p.told g (λ k l m. h k l (omega (arith, q.far)) ∙ q.does.before k m), q.told g (λ k l m. h k (omega (arith, p.far)) m));
  })

  comes_none : {w : List ℕ} (i : ℕ) → Comes w i (i + 0) (λ _. Unit)
  comes_none {w} i = record {
    there = w;
    far = omega arith;
    goes = let e : i ≡ i + 0 = omega arith in ap (λ k. all_flagged b k stop w) e;
    does = flagging_none i (i + 0) w;
    told = λ _ _. tt;
  }

  comes_as : {w : List ℕ} {i j m : ℕ} {P Q : (ℕ → ℕ) → Type 0} → j ≡ m → ((g : ℕ → ℕ) → P g → Q g) → Comes w i j P → Comes w i m Q
  comes_as {w} {i} {Q = Q} e f p = subst (λ m. Comes w i m Q) e (record { there = p.there; far = p.far; goes = p.goes; does = p.does; told = λ g h. f g (p.told g h) })

  -- a row that is stepped over, with those below it
  comes_past : {w : List ℕ} {i n : ℕ} {l : Line} {part : List Row} → Table text rows num w → Here rows i (row l n ∷ part) → (l.word ≡ 5) ⊎ (l.word ≡ 13) → i + suc n ≤ stop
      → Comes w i (i + suc n) (λ _. Unit)
  comes_past {w} {i} {n} {l} t h k m = record {
    there = w;
    far = omega arith;
    goes = sym (flags_more b i stop (i + suc n) w w (omega arith) (sym (block_past w i (kind k) ∙ row_after t h)) (sym (flagged_none b i w (var k))));
    does = flagging_none i (i + suc n) w;
    told = λ _ _. tt;
  }
    where
      kind : (l.word ≡ 5) ⊎ (l.word ≡ 13) → (kind_at w i ≡ 5) ⊎ (kind_at w i ≡ 13)
      kind (inl e) = inl (row_kind t h ∙ e)
      kind (inr e) = inr (row_kind t h ∙ e)

      var : (l.word ≡ 5) ⊎ (l.word ≡ 13) → kind_at w i ≡ 17 → ⊥
      var (inl e) q = omega (arith, row_kind t h, e)
      var (inr e) q = omega (arith, row_kind t h, e)

  -- one row
  comes_row : {w : List ℕ} {i : ℕ} (x : Row) {part : List Row} → Plain x → Table text rows num w → Right w → Here rows i (x ∷ part) → i < stop → Comes w i (suc i) (λ g. Told rows (with g) i (suc i))
  comes_row {w} {i} x p t right h m = go (eqb x.line.word 17) refl
    where
      line : (get_or rows i no_row).line ≡ x.line
      line = ap (λ (y : Row). y.line) (head_row h).1

      next : next_in_block w i ≡ suc i
      next = block_next w i (λ q. p.def (sym (row_kind t h) ∙ q)) (λ q. p.class (sym (row_kind t h) ∙ q)) ∙ add-one i

      go : (s : Bool) → eqb x.line.word 17 ≡ s → Comes w i (suc i) (λ g. Told rows (with g) i (suc i))
      go true e =
          let k : x.line.word ≡ 17 = eqb-true x.line.word 17 e in
          let f : ℕ = flag_for b i (stamp_at w (number_at w i)) in
          let s : f ≡ flag_of ns x.line.name.bytes i = ap (λ a. flag_for b i (stamp_at w a)) (row_number t h (p.name k)) ∙ right x.line.name.bytes (row_small t h (p.name k)) i in
          record {
            there = put_flag w i f;
            far = omega arith;
            goes = sym (flags_more b i stop (suc i) w (put_flag w i f) m (sym next) (sym (flagged_var b i w (row_kind t h ∙ k))));
            does = flagging_one i f w;
            told = λ g same k a c q.
                let d : k ≡ i = omega arith in
                same k a c ∙ ap (flag_at (put_flag w i f)) d ∙ flag_same w i f t.room (row_few t h) (small (leb (stamp_at w (number_at w i)) b) (ltb i (stamp_at w (number_at w i))))
                ∙ s ∙ ap₂ (λ (y : Line) r. flag_of ns y.name.bytes r) (sym line ∙ ap (λ r. (get_or rows r no_row).line) (sym d)) (sym d);
          }
        where
          small : (s t : Bool) → cond s 0 (cond t 2 1) < 524_288
          small true t = omega arith
          small false true = omega arith
          small false false = omega arith
      go false e = record {
        there = w;
        far = omega arith;
        goes = sym (flags_more b i stop (suc i) w w m (sym next) (sym (flagged_none b i w (λ q. eqb-false x.line.word 17 e (sym (row_kind t h) ∙ q)))));
        does = flagging_none i (suc i) w;
        told = λ g same k a c q.
            let d : k ≡ i = omega arith in
            absurd (eqb-false x.line.word 17 e (ap (λ (y : Line). y.word) (sym line ∙ ap (λ r. (get_or rows r no_row).line) (sym d)) ∙ q));
      }

  -- rows that are taken one by one
  comes_rows : (part : List Row) {w : List ℕ} (i : ℕ) → All Plain part → Table text rows num w → Right w → Here rows i part → i + length part ≤ stop
      → Comes w i (i + length part) (λ g. Told rows (with g) i (i + length part))
  comes_rows [] i none t right h m = comes_as refl (λ g _ k a c. absurd (omega arith)) (comes_none i)
  comes_rows (x ∷ part) {w} i (also p ps) t right h m =
      let one = comes_row x p t right h (omega arith) in
      let e : suc i + length part ≡ i + suc (length part) = omega arith in
      comes_as refl (λ g q k a c. both g q k a c (eqb k i) refl)
      (comes_two one (comes_rows part (suc i) ps (table_kept one.does.others.kept t) (right_on one.does right) (here_tail h) (omega arith)) e)
    where
      both : (g : ℕ → ℕ) → Told rows (with g) i (suc i) × Told rows (with g) (suc i) (suc i + length part) → (k : ℕ) → i ≤ k → k < i + suc (length part) → (s : Bool) → eqb k i ≡ s
          → (get_or rows k no_row).line.word ≡ 17 → g k ≡ flag_of ns (get_or rows k no_row).line.name.bytes k
      both g q k a c true e = let d : k ≡ i = eqb-true k i e in q.0 k a (omega arith)
      both g q k a c false e = let d : k ≡ i → ⊥ = eqb-false k i e in q.1 k (omega arith) (omega arith)

  -- the same, of so many rows
  comes_part : {part : List Row} {n : ℕ} → Sized part n → {w : List ℕ} (i : ℕ) → All Plain part → Table text rows num w → Right w → Here rows i part → i + n ≤ stop
      → Comes w i (i + n) (λ g. Told rows (with g) i (i + n))
  comes_part {part} {n} z {w} i p t right h m =
      subst (λ n. Comes w i (i + n) (λ g. Told rows (with g) i (i + n))) z.count (comes_rows part i p t right h (omega (arith, z.count)))

  -- the row of a statement and its expression
  flags_head : (l : Line) (c : Expr) (n : ℕ) (part : List Row) {w : List ℕ} (i : ℕ) → Table text rows num w → Right w → other l.word ≡ true → WordedE c → Here rows i (row l n ∷ (rows_e c ++ part))
      → suc i + len_e c ≤ stop → Comes w i (suc i + len_e c) (λ g. Told rows (with g) i (suc i + len_e c))
  flags_head l c n part {w} i t r o d h m =
      let e : i + suc (len_e c) ≡ suc i + len_e c = omega arith in
      subst (λ k. Comes w i k (λ g. Told rows (with g) i k)) e
      (comes_part (under {x = row l n} (sized_e c)) i (also (plain_by (row l n) o) (plain_e c d)) t r (here_left (row l n ∷ rows_e c) part h) (omega arith))

  -- ---- statements
  mutual
    flags_s : (s : Stmt) {w : List ℕ} (i : ℕ) → Table text rows num w → Right w → WordedS s → Here rows i (rows_s s) → i + len_s s ≤ stop → Comes w i (i + len_s s) (λ g. ToldS rows (with g) s i)
    flags_s (simple l es) i t r d h m = comes_part (under (sized_es es)) i (also (plain_by (row l _) (simple_test other refl d.0)) (plain_es es d.1)) t r h m
    flags_s (assign l e g) i t r d h m =
        comes_part (under (both (sized_e e) (sized_e g))) i (also (plain_by (row l _) (ap other d.0)) (all_append (plain_e e d.1.0) (plain_e g d.1.1))) t r h m
    flags_s (block l c s) i t r d h m =
        let a = flags_head l c (len_e c + len_ss s) (rows_ss s) i t r (block_test other refl d.0) d.1.0 h (omega arith) in
        comes_two a (flags_ss s (suc i + len_e c) (table_kept a.does.others.kept t) (right_on a.does r) d.1.1 (here_past (sized_e c) (rows_ss s) (here_tail h)) (omega arith)) (omega arith)
    flags_s (choice l c s k e) i t r d h m =
        let rest : Here rows (suc i + len_e c) (rows_ss s ++ (rows_ss k ++ rows_ss e)) = here_past (sized_e c) (rows_ss s ++ (rows_ss k ++ rows_ss e)) (here_tail h) in
        let last : Here rows (suc i + len_e c + len_ss s) (rows_ss k ++ rows_ss e) = here_past (sized_ss s) (rows_ss k ++ rows_ss e) rest in
        let a = flags_head l c (len_e c + (len_ss s + (len_ss k + len_ss e))) (rows_ss s ++ (rows_ss k ++ rows_ss e)) i t r (ap other d.0) d.1.0 h (omega arith) in
        let t₁ = table_kept a.does.others.kept t in
        let r₁ = right_on a.does r in
        let f = flags_ss s (suc i + len_e c) t₁ r₁ d.1.1.0 (here_left (rows_ss s) (rows_ss k ++ rows_ss e) rest) (omega arith) in
        let t₂ = table_kept f.does.others.kept t₁ in
        let r₂ = right_on f.does r₁ in
        let v = flags_ss k (suc i + len_e c + len_ss s) t₂ r₂ d.1.1.1.0 (here_left (rows_ss k) (rows_ss e) last) (omega arith) in
        comes_two a (comes_two f (comes_two v
        (flags_ss e (suc i + len_e c + len_ss s + len_ss k) (table_kept v.does.others.kept t₂) (right_on v.does r₂) d.1.1.1.1 (here_past (sized_ss k) (rows_ss e) last) (omega arith))
        refl) refl) (omega arith)
    flags_s (for l e s) i t r d h m =
        let a = flags_head l e (len_e e + len_ss s) (rows_ss s) i t r (ap other d.0) d.1.1.0 h (omega arith) in
        comes_two a (flags_ss s (suc i + len_e e) (table_kept a.does.others.kept t) (right_on a.does r) d.1.1.1 (here_past (sized_e e) (rows_ss s) (here_tail h)) (omega arith)) (omega arith)
    flags_s (def l s) i t r d h m = comes_past t h (inl d.0) m
    flags_s (class l ms ats) i t r d h m = comes_past t h (inr d.0) m

    flags_ss : (ss : Stmts) {w : List ℕ} (i : ℕ) → Table text rows num w → Right w → WordedSs ss → Here rows i (rows_ss ss) → i + len_ss ss ≤ stop → Comes w i (i + len_ss ss) (λ g. ToldSs rows (with g) ss i)
    flags_ss snil i t r d h m = comes_none i
    flags_ss (scons s ss) i t r d h m =
        let a = flags_s s i t r d.0 (here_left (rows_s s) (rows_ss ss) h) (omega arith) in
        comes_two a (flags_ss ss (i + len_s s) (table_kept a.does.others.kept t) (right_on a.does r) d.1 (here_past (sized_s s) (rows_ss ss) h) (omega arith)) (omega arith)

-- ---- a whole body: z is the buffer after the loop
pub record Flagged (rows : List Row) (ns : List Note) (ss : Stmts) (i : ℕ) (w z : List ℕ) : Type 0 where
  pub does : Flagging i (i + len_ss ss) w z
  pub told : (g : ℕ → ℕ) → ((k : ℕ) → g k ≡ flag_at z k) → ToldSs rows (record { notes = ns; flags = g }) ss i

pub flagged_all : {text : Bytes} {rows : List Row} {num : Bytes → ℕ} {w : List ℕ} (b : ℕ) (ns : List Note) (ss : Stmts) (i : ℕ) → Table text rows num w
    → ((x : Bytes) → num x < 4_096 → (r : ℕ) → flag_for b r (stamp_at w (num x)) ≡ flag_of ns x r) → WordedSs ss → Here rows i (rows_ss ss)
    → Flagged rows ns ss i w (all_flagged b i (i + len_ss ss) w)
flagged_all {text} {rows} {num} {w} b ns ss i t right d h =
    let c = flags_ss text rows num b ns (i + len_ss ss) ss i t right d h (omega arith) in
    let e = c.goes ∙ rows_end next_in_block (row_flagged b) (i + len_ss ss) (i + len_ss ss) c.there (omega arith) in
    subst (Flagged rows ns ss i w) (sym e) (record { does = c.does; told = λ g q. c.told g (λ k _ _. q k) })
