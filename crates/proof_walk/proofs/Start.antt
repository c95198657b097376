-- The start of the walk, and the whole of it: no mark, no slot and no stamp are left of what the buffer held; then the given names are bound
-- in the module, and the statements are walked.
use Rattle.std.proofs.Common.{ℕ, zero, suc, ◌+◌, ◌/◌, ◌%◌, ◌≤◌, ◌<◌, add-one, arith, ◌≡◌, refl, sym, ap, ◌∙◌, subst, ◌≢◌, Bool, true, false, ◌||◌, List, [], ◌∷◌, ◌++◌, append-nil, map, eqb, ltb, length, get_or, get_or-set_same, get_or-set_other, eqb-true, ltb-true, ltb-false, le-ltb}
use Rattle.std.proofs.Math.Bool.{or_assoc, or_comm}
use Rattle.std.proofs.lemmas.Bool.{false≢true, eqb-false}
use Rattle.std.proofs.lemmas.List.{length-map}
use Rattle.spec_text.specs.Bytes.{Bytes, Part, mem, same, all}
use Rattle.spec_text.specs.Tree.{Tree, len_ss, first_line}
use Rattle.spec_text.proofs.Lists.{and_split, same_eq}
use Rattle.spec_faults.specs.Position.{in_module, in_def}
use Rattle.spec_faults.specs.Builtins.{builtin_names}
use Rattle.spec_faults.proofs.ListingWalk.{after_ss, module_env, start_state}
use Rattle.spec_faults.proofs.Lists.{mem_append}
use Rattle.spec_faults.proofs.TextWalk.{raw_ss}
use Rattle.work_rows.specs.Layout.{put, rows_most, number_at}
use Rattle.read_names.specs.ChainsModel.{lookup}
use Rattle.work_rows.specs.Rows.{Row, global_row, rows_ss, rows_t}
use Rattle.work_rows.proofs.Lengths.{rows_length}
use Rattle.work_marks.specs.MarksModel.{lambda_end, block_end, stamp_at, bare, blank, unmarked, unstamped, raised_block}
use Rattle.work_marks.proofs.Writes.{Words, Kept, kept_refl, kept_trans, words_put, bare_kept, kept_fourth}
use Rattle.work_rows.specs.LoopsModel.{rows_to, next_row}
use Rattle.work_rows.proofs.Loops.{rows_end, rows_more, row_on}
use Rattle.walk_scopes.specs.ScopesModel.{Scope, at_module, top_of, defined}
use Rattle.walk_scopes.proofs.Tops.{scope_module}
use Rattle.walk_scopes.proofs.Defined.{defined_block}
use Rattle.read_row.specs.Worded.{Somes, WordedSs}
use Rattle.walk_given.specs.GivenModel.{given, globals_from, begun}
use Rattle.walk_tree.specs.WalkModel.{Walk, walked}
use Rattle.proof_walk.specs.Table.{Table, Here}
use Rattle.proof_walk.specs.Notes.{no_own_names}
use Rattle.proof_walk.proofs.State.{home_number, Open, At}
use Rattle.proof_walk.proofs.PartRows.{here_tail, here_past, row_number, table_kept}
use Rattle.proof_walk.proofs.Done.{Done, done_then, done_skip, done_bind}
use Rattle.proof_walk.proofs.Nested.{Block}
use Rattle.proof_walk.proofs.ByKind.{kids_end}
use Rattle.proof_walk.proofs.Stmts.{stmts}

-- ---- rows are cleared
-- one number after the other from row i on, of n rows, where `f` writes the number at its base and the row: those before stay
record Cleared (base i n : ℕ) (P : ℕ → Type 0) (w v : List ℕ) : Type 0 where
  kept : Kept w v
  words : Words v
  apart : (j : ℕ) → j < base + i → get_or v j 0 ≡ get_or w j 0
  beyond : (j : ℕ) → base + 4_096 ≤ j → get_or v j 0 ≡ get_or w j 0
  there : (a : ℕ) → i ≤ a → a < i + n → P (get_or v (base + a) 0)

module _ (base : ℕ) (new : ℕ → ℕ) (P : ℕ → Type 0) (good : (x : ℕ) → P (new x % 4_294_967_296))
    (keeps : (i : ℕ) (w : List ℕ) → i < 4_096 → Kept w (put w (base + i) (new (get_or w (base + i) 0)))) (low : base ≤ 12_288) where
  abbrev one : ℕ → List ℕ → List ℕ
  one i w = put w (base + i) (new (get_or w (base + i) 0))

  clear_rows : (n i : ℕ) (w : List ℕ) → i + n ≤ 4_096 → 16_384 ≤ length w → Words w → Cleared base i n P w (rows_to next_row one i (i + n) w)
  clear_rows zero i w l room g = subst (Cleared base i 0 P w) (sym (rows_end next_row one i (i + 0) w (omega arith))) (record {
    kept = kept_refl w;
    words = g;
    apart = λ _ _. refl;
    beyond = λ _ _. refl;
    there = λ a m k. absurd (omega arith);
  })
  clear_rows (suc n) i w l room g =
      let v : List ℕ = one i w in
      let k : Kept w v = keeps i w (omega arith) in
      let e : i + 1 + n ≡ i + suc n = omega arith in
      let z : Cleared base (i + 1) n P v (rows_to next_row one (i + 1) (i + suc n) v) =
      subst (λ stop. Cleared base (i + 1) n P v (rows_to next_row one (i + 1) stop v)) e
      (clear_rows n (i + 1) v (omega arith) (omega (arith, k.long)) (words_put w (base + i) _ g)) in
      subst (Cleared base i (suc n) P w) (sym (rows_more next_row one row_on i (i + suc n) w (omega arith))) (record {
        kept = kept_trans k z.kept;
        words = z.words;
        apart = λ j m. z.apart j (omega arith) ∙ get_or-set_other w (base + i) j _ 0 (λ q. omega arith);
        beyond = λ j m. z.beyond j m ∙ get_or-set_other w (base + i) j _ 0 (λ q. omega arith);
        there = λ a m p. at z a (eqb a i) refl m p;
      })
    where
      at : Cleared base (i + 1) n P (one i w) (rows_to next_row one (i + 1) (i + suc n) (one i w)) → (a : ℕ) (t : Bool) → eqb a i ≡ t → i ≤ a → a < i + suc n
          → P (get_or (rows_to next_row one (i + 1) (i + suc n) (one i w)) (base + a) 0)
      at z a true e m p =
          let d : a ≡ i = eqb-true a i e in
          subst P (sym (z.apart (base + a) (omega arith) ∙ ap (λ j. get_or (one i w) (base + j) 0) d ∙ get_or-set_same w (base + i) _ 0 (omega arith))) (good _)
      at z a false e m p = z.there a (let d : a ≢ i = eqb-false a i e in omega arith) (omega arith)

-- of the first n rows: of a third number the head stays, of a fourth nothing
record Clear (n : ℕ) (w v : List ℕ) : Type 0 where
  kept : Kept w v
  words : Words v
  lambdas : (a : ℕ) → a < 4_096 → lambda_end v a ≡ lambda_end w a
  heads : (a : ℕ) → a < n → get_or v (8_192 + a) 0 < 8_192
  stamps : (a : ℕ) → a < n → stamp_at v a ≡ 0

all_clear : (n : ℕ) (w : List ℕ) → n ≤ 4_096 → 16_384 ≤ length w → Words w → Clear n w (unstamped n (unmarked n w))
all_clear n w l room g =
    let e : 0 + n ≡ n = omega arith in
    let p : Cleared 8_192 0 n (λ x. x < 8_192) w (unmarked n w) =
    subst (λ stop. Cleared 8_192 0 n (λ x. x < 8_192) w (rows_to next_row bare 0 stop w)) e
    (clear_rows 8_192 (λ x. x % 8_192) (λ x. x < 8_192) (λ x. omega arith) (λ i v m. bare_kept i v) (omega arith) n 0 w (omega arith) room g) in
    let q : Cleared 12_288 0 n (λ x. x ≡ 0) (unmarked n w) (unstamped n (unmarked n w)) =
    subst (λ stop. Cleared 12_288 0 n (λ x. x ≡ 0) (unmarked n w) (rows_to next_row blank 0 stop (unmarked n w))) e
    (clear_rows 12_288 (λ _. 0) (λ x. x ≡ 0) (λ _. refl) (λ i v m. kept_fourth v i 0) (omega arith) n 0 (unmarked n w) (omega arith) (omega (arith, p.kept.long)) p.words) in
    record {
      kept = kept_trans p.kept q.kept;
      words = q.words;
      lambdas = λ a m. ap (λ x. x / 131_072) (q.apart a (omega arith) ∙ p.apart a (omega arith));
      heads = λ a m. subst (λ x. x < 8_192) (sym (q.apart (8_192 + a) (omega arith))) (p.there a (omega arith) (omega arith));
      stamps = λ a m. ap (λ x. x % 8_192) (q.there a (omega arith) (omega arith));
    }

-- 4,096 is the number of no name
defined_none : (s : Scope) (w : List ℕ) (a : ℕ) → s.inner ≡ 0 → 4_096 ≤ a → defined s w a ≡ w
unfolding raised_block
defined_none s w a e l = defined_block s w a e ∙ rw (le-ltb a rows_most l) refl

-- ---- the given names
-- names with bytes
abbrev some : Part → Bool
some p = elim p.bytes [ [] ↦ false | b ∷ bs ↦ true ]

somes : (ps : List Part) → all some ps ≡ true → Somes ps
somes [] e = tt
somes (p ∷ ps) e = let h = and_split (some p) (all some ps) e in (one p.bytes h.0, somes ps h.1)
  where
    one : (x : Bytes) → elim x as (λ _. Bool) [ [] ↦ false | b ∷ bs ↦ true ] ≡ true → x ≡ [] → ⊥
    one x e q = false≢true (sym (ap (λ y. elim y as (λ _. Bool) [ [] ↦ false | b ∷ bs ↦ true ]) q) ∙ e)

-- a name is put in front of others, or after some
mem_past : (x : Bytes) (p : Part) (ps qs : List Part) → mem x (ps ++ (p ∷ qs)) ≡ mem x (p ∷ (ps ++ qs))
mem_past x p [] qs = refl
mem_past x p (q ∷ ps) qs =
    ap (λ t. same x q.bytes || t) (mem_past x p ps qs) ∙ sym (or_assoc (same x q.bytes) (same x p.bytes) (mem x (ps ++ qs)))
    ∙ ap (λ t. t || mem x (ps ++ qs)) (or_comm (same x q.bytes) (same x p.bytes)) ∙ or_assoc (same x p.bytes) (same x q.bytes) (mem x (ps ++ qs))

-- rows of the module before the first statement, with these names in view
module _ (text : Bytes) (rows : List Row) (num : Bytes → ℕ) where
  abbrev G : List Part → List ℕ → List ℕ → Type 0
  G vs w v = Done text rows num no_own_names (top_of (at_module (length rows))) module_env vs [] [] w v 0 0

  abbrev A : List Part → List ℕ → Type 0
  A vs w = At text rows num no_own_names (top_of (at_module (length rows))) [] module_env vs [] w 0

  none : {B : Type 0} → in_module ≡ in_def → B
  none i = absurd (omega (arith, ap home_number i))

  -- of the names in view, only those count that have a number, and in any order
  view_same : {qs rs : List Part} {w v : List ℕ} → ((x : Bytes) → num x < 4_096 → mem x qs ≡ mem x rs) → G qs w v → G rs w v
  view_same {v = v} e d = record {
    far = d.far;
    after = record {
      table = d.after.table;
      words = d.after.words;
      home = d.after.home;
      view = λ x l. subst (Open (length rows) 0 (block_end v (num x))) (e x l) (d.after.view x l);
      params = d.after.params;
      flags = d.after.flags;
      locals = d.after.locals;
      others = d.after.others;
      low = d.after.low;
      clean = d.after.clean;
      places = d.after.places;
    };
    slots = d.slots;
    change = d.change;
    beyond = d.beyond;
    early = d.early;
  }

  stays : {ps : List Part} {w : List ℕ} → A ps w → G ps w w
  stays h = done_skip h (omega arith) (omega arith)

  bind_one : (p : Part) {ps : List Part} {w : List ℕ} → A ps w → G (p ∷ ps) w (defined (top_of (at_module (length rows))) w (num p.bytes))
  bind_one p {ps} {w} h = go (ltb (num p.bytes) 4_096) refl
    where
      go : (t : Bool) → ltb (num p.bytes) 4_096 ≡ t → G (p ∷ ps) w (defined (top_of (at_module (length rows))) w (num p.bytes))
      go true e = done_bind h p refl (omega (arith, h.table.few)) (ltb-true (num p.bytes) 4_096 e) (omega arith) (omega arith)
      go false e =
          let l : 4_096 ≤ num p.bytes = ltb-false (num p.bytes) 4_096 e in
          subst (G (p ∷ ps) w) (sym (defined_none (top_of (at_module (length rows))) w (num p.bytes) refl l))
          (view_same (λ x m. ap (λ t. t || mem x ps) (sym (other x m l (same x p.bytes) refl))) (stays h))
        where
          other : (x : Bytes) → num x < 4_096 → 4_096 ≤ num p.bytes → (t : Bool) → same x p.bytes ≡ t → t ≡ false
          other x m l true q = absurd (let d : num x ≡ num p.bytes = ap num (same_eq x p.bytes q) in omega arith)
          other x m l false q = refl

  -- a name before others
  bind_then : (p : Part) (ps : List Part) {qs : List Part} {w v z : List ℕ} → G (p ∷ qs) w v → G (ps ++ (p ∷ qs)) v z → G ((p ∷ ps) ++ qs) w z
  bind_then p ps {qs} d e = view_same (λ x _. mem_past x p ps qs) (done_then d e)

  -- the built-in names
  given_done : (ps : List Part) → Somes ps → {qs : List Part} {w : List ℕ} → A qs w → G (ps ++ qs) w (given text (top_of (at_module (length rows))) (map (λ (p : Part). p.bytes) ps) w)
  unfolding given
  given_done [] c h = stays h
  given_done (p ∷ ps) c {qs} {w} h =
      let d : G (p ∷ qs) w (defined (top_of (at_module (length rows))) w (lookup text w p.bytes)) =
      subst (λ a. G (p ∷ qs) w (defined (top_of (at_module (length rows))) w a)) (sym (h.table.found p.bytes c.0)) (bind_one p h) in
      bind_then p ps d (given_done ps c.1 d.after)

  -- and those of `global` lines
  globals_done : (ps : List Part) (i : ℕ) (part : List Row) → Somes ps → Here rows i (map global_row ps ++ part) → {qs : List Part} {w : List ℕ} → A qs w
      → G (ps ++ qs) w (globals_from (length ps) i (top_of (at_module (length rows))) w)
  unfolding globals_from
  globals_done [] i part c here h = stays h
  globals_done (p ∷ ps) i part c here {qs} {w} h =
      let d : G (p ∷ qs) w (defined (top_of (at_module (length rows))) w (number_at w i)) =
      subst (λ a. G (p ∷ qs) w (defined (top_of (at_module (length rows))) w a)) (sym (row_number h.table here c.0)) (bind_one p h) in
      bind_then p ps d (globals_done ps (i + 1) part c.1 (subst (λ j. Here rows j (map global_row ps ++ part)) (sym (add-one i)) (here_tail here)) d.after)

-- ---- the whole walk: its rows hold the tree; numbers of names are rows; no mark of a lambda is open
module _ (text : Bytes) (t : Tree) (num : Bytes → ℕ) (w : List ℕ) (table : Table text (rows_t t) num w) (words : Words w) (worded : WordedSs t.body) (named : Somes t.globals)
    (small : (x : Bytes) → num x < 4_096 → num x < length (rows_t t)) (closed : (a : ℕ) → a < length (rows_t t) → lambda_end w a ≡ 0) where
  abbrev R : ℕ
  R = length (rows_t t)

  abbrev first : ℕ
  first = length t.globals

  -- the buffer before the first statement
  abbrev pub started : List ℕ
  started = begun text (top_of (at_module R)) first R w

  -- and before the given names are bound
  abbrev cleared : List ℕ
  cleared = unstamped R (unmarked R w)

  clears : Clear R w cleared
  clears = all_clear R w table.few table.room words

  -- nothing is bound yet
  empty : A text (rows_t t) num [] cleared
  empty =
      let few = table.few in
      let z = clears in
      record {
        table = table_kept z.kept table;
        words = z.words;
        home = refl;
        view = λ x l. record { far = λ e. absurd (false≢true e); closed = λ _. omega (arith, z.heads (num x) (small x l)) };
        params = λ x l. record { far = λ e. absurd (false≢true e); closed = λ _. omega (arith, z.lambdas (num x) l, closed (num x) (small x l)) };
        flags = λ i. none text (rows_t t) num i;
        locals = λ i. none text (rows_t t) num i;
        others = λ _ x. refl;
        low = λ x l. omega (arith, z.stamps (num x) (small x l));
        clean = λ i _ l. omega (arith, z.heads i l);
        places = tt;
      }

  everything : Here (rows_t t) 0 (rows_t t)
  everything = record { post = []; same = sym (append-nil (rows_t t)) }

  -- the given names are in view
  bound : G text (rows_t t) num (builtin_names ++ t.globals) cleared started
  unfolding begun
  bound =
      let b = given_done text (rows_t t) num builtin_names (somes builtin_names refl) empty in
      let g = globals_done text (rows_t t) num t.globals 0 (rows_ss t.body) named everything b.after in
      view_same text (rows_t t) num (λ x _. swap x) (done_then b g)
    where
      swap : (x : Bytes) → mem x (t.globals ++ (builtin_names ++ [])) ≡ mem x (builtin_names ++ t.globals)
      swap x =
          ap (λ l. mem x (t.globals ++ l)) (append-nil builtin_names) ∙ mem_append x t.globals builtin_names ∙ or_comm (mem x t.globals) (mem x builtin_names)
          ∙ sym (mem_append x builtin_names t.globals)

  -- the statements
  body : Here (rows_t t) first (rows_ss t.body)
  body =
      let z : 0 + first ≡ first = omega arith in
      subst (λ i. Here (rows_t t) i (rows_ss t.body)) z (here_past {a = map global_row t.globals} (record { count = length-map t.globals global_row }) (rows_ss t.body) everything)

  pub statements : Done text (rows_t t) num no_own_names (top_of (at_module R)) module_env (after_ss t.body (start_state t)).view [] (raw_ss t.body (first_line t) [] module_env (start_state t))
      started (walked text first R w) first (first + len_ss t.body)
  unfolding walked
  statements =
      let size : R ≡ first + len_ss t.body = rows_length t in
      let few = table.few in
      let top : Done text (rows_t t) num no_own_names (top_of (at_module R)) module_env (start_state t).view [] [] started started 0 first =
      done_skip bound.after (omega arith) (omega arith) in
      let b : Block text (rows_t t) num no_own_names (at_module R) module_env = record {
        flat = record { outer = refl; inner = refl; params = refl };
        room = omega arith;
        few = omega arith;
        known = λ {z} _. scope_module z (4_096 + R) (omega arith) ∙ ap at_module (omega arith);
      } in
      let g = stmts text (rows_t t) num t.body R first (first_line t) R b (omega arith) (omega arith)
      body worded top.after (none text (rows_t t) num) (none text (rows_t t) num) in
      subst (λ z. Done text (rows_t t) num no_own_names (top_of (at_module R)) module_env (after_ss t.body (start_state t)).view [] (raw_ss t.body (first_line t) [] module_env (start_state t)) started z first (first + len_ss t.body))
      (sym (ap (λ (x : Walk). x.work) (g.goes ∙ kids_end text R (at_module R) R (first + len_ss t.body) g.there (omega arith)))) g.done

  pub started_kept : Kept w started
  started_kept = kept_trans clears.kept bound.change.kept
