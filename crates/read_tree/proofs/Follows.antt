-- A turn of the machine is a turn of the agenda: where the buffer holds the rows and the agenda of a state, it holds those of the next.
use Rattle.std.proofs.Common.{ℕ, zero, suc, pred, ◌+◌, ◌-◌, ◌*◌, ◌/◌, ◌%◌, ◌≤◌, ◌<◌, add-one, arith, ◌≡◌, refl, sym, ap, ◌∙◌, subst, Bool, true, false, List, [], ◌∷◌, ◌++◌, length, get_or, Ok, Err, eq-eqb, ne_eqb, eqb-true}
use Rattle.spec_text.specs.Bytes.{Bytes}
use Rattle.spec_text.specs.Tree.{Line}
use Rattle.spec_text.specs.Lines.{Form, Parsed, count_at}
use Rattle.spec_text.specs.Reading.{Rest, Read, got, refused, Due, too_deep, line}
use Rattle.spec_text.specs.Numbers.{refusal_number}
use Rattle.spec_text.specs.declared.refusal.Refused.{Refused}
use Rattle.read_line.specs.LineModel.{numbers_of}
use Rattle.work_rows.specs.Rows.{Row, row}
use Rattle.read_tree.specs.Laid.{start_of}
use Rattle.read_agenda.specs.AgendaModel.{Entry, run, close, due, due_below, State, Phase, on, stopped, close_at, of_sort, line_due, line_opened, turned, turn}
use Rattle.read_words.specs.ChildrenModel.{children_in, children_by, Few}
use Rattle.read_tree.specs.MachineModel.{Machine, machine, entry_of, turn_by, turn_of, taken, taken_if, due_at, rest_at, row_closed, row_written}
use Rattle.read_agenda.specs.StackModel.{Stack, stack, run_word, close_word, lessened, is_leaf, pushed_due}
use Rattle.read_words.specs.declared.Children.{Children}
use Rattle.read_agenda.proofs.Via.{at as state}
use Rattle.read_tree.proofs.Same.{Known, Same, read, refuse, same}
use Rattle.read_tree.proofs.Starts.{skip_next}
use Rattle.read_words.proofs.Few.{few_by}
use Rattle.read_tree.proofs.Buffer.{Held, word_of, word_on, fits_on, fits_due, fits_row, due_low, pop_held, lessened_held, below_held}
use Rattle.read_tree.proofs.Written.{length_more, row_held, close_length, closed_held}

-- ---- the machine stands where a state of the agenda stands
pub record Sim (text : Bytes) (m : Machine) (a : State) : Type 0 where
  pub rows : m.rows ≡ length a.rows
  pub rest : a.rest ≡ rest_at text m.at (m.rows + 2)
  pub start : m.at ≡ start_of text m.rows
  pub held : Held text a.rows a.agenda (stack m.work m.top)

-- ---- what follows: nothing is due; or the machine's turn leads to the next state, or to the one after that, where a row is closed that
-- has nothing below it; or it ends, with the refusal
pub data Follows (text : Bytes) (m : Machine) : Phase → Type 0 where
  idle : {a : State} → m.top ≡ 0 → Sim text m a → Follows text m (on a)
  goes : {a : State} {n : Machine} → 0 < m.top → turn_of text m ≡ Ok n → Sim text n a → Follows text m (on a)
  skips : {a b : State} {n : Machine} → 0 < m.top → (a.agenda ≡ [] → ⊥) → turn a ≡ on b → turn_of text m ≡ Ok n → Sim text n b → Follows text m (on a)
  ends : {e : Refused} → 0 < m.top → turn_of text m ≡ Err e → Follows text m (stopped (refusal_number e.why) e.line)

-- ---- a line with nothing due below it
due_none : (s n d : ℕ) (more : List Entry) → n ≡ 0 → due s n d more ≡ more
due_none s n d more e = ap (λ (n : ℕ). due s n d more) e

leaf_none : (c : Children) (d : ℕ) (more : List Entry) → is_leaf c ≡ true → due_below c d more ≡ more
unfolding is_leaf
leaf_none c d more b =
    let z : c.exprs + (c.stmts + (c.elifs + (c.others + (c.methods + c.attrs)))) ≡ 0 = eqb-true _ 0 b in
    due_none 6 c.exprs d _ (omega arith)
    ∙ (due_none 5 c.stmts d _ (omega arith)
    ∙ (due_none 2 c.elifs d _ (omega arith)
    ∙ (due_none 5 c.others d _ (omega arith) ∙ (due_none 3 c.methods d _ (omega arith) ∙ due_none 4 c.attrs d more (omega arith)))))

close_last : (rows : List Row) (l : Line) → close_at (length rows) (rows ++ (row l 0 ∷ [])) ≡ rows ++ (row l 0 ∷ [])
close_last [] l = refl
close_last (x ∷ rows) l = ap (λ (z : List Row). x ∷ z) (close_last rows l)

-- a line that is read has a level left
levels_left : (s d : ℕ) (r : Rest) {x : Due Form} {q : Rest} → line_due s d r ≡ got x q → (0 < d) × (pred d ≡ d - 1)
levels_left s zero r {x} {q} e = absurd (never (line (of_sort s) r) e)
  where
    never : (y : Read (Due Form)) → too_deep {B = Due Form} r.number y ≡ got x q → ⊥
    never (got a t) e = let z : ◌≡◌ {A = ℕ} 0 1 = cc in omega arith
    never (refused k n) e = let z : ◌≡◌ {A = ℕ} 0 1 = cc in omega arith
levels_left s (suc d) r e = (omega arith, omega arith)

module _ (text : Bytes) (short : length text ≤ 65_536) (w : List ℕ) (at top : ℕ) (rows : List Row) (start : at ≡ start_of text (length rows)) where
  abbrev now : Machine
  now = machine w at (length rows) top

  abbrev Turns-to : List Entry → Type 0
  Turns-to agenda = Follows text now (turned agenda (rest_at text at (length rows + 2)) rows)

  entry : {e : Entry} {under : List Entry} → Held text rows (e ∷ under) (stack w top) → entry_of now ≡ word_of e
  entry {e} {under} h = ap (λ i. get_or w i 0) (omega (arith, h.top)) ∙ word_on h.entries

  -- nothing is due
  turn_none : Held text rows [] (stack w top) → Turns-to []
  turn_none h = idle h.top (record { rows = refl; rest = refl; start = start; held = h })

  -- a row is closed
  close_turns : (i : ℕ) → entry_of now ≡ close_word i → turn_of text now ≡ Ok (machine (row_closed i (length rows) w) at (length rows) (top - 1))
  unfolding turn_of
  close_turns i e =
      ap (λ z. turn_by text z now) e
      ∙ (rw (eq-eqb (close_word i % 8) 7 (omega arith))
      (ap (λ j. Ok (machine (row_closed j (length rows) w) at (length rows) (top - 1))) (omega arith)))

  turn_close : (i : ℕ) (under : List Entry) → Held text rows (close i ∷ under) (stack w top) → Turns-to (close i ∷ under)
  turn_close i under h =
      let l : i < length rows = fits_row (fits_on h.entries) in
      goes (omega (arith, h.top)) (close_turns i (entry h))
      (record { rows = sym (close_length i rows); rest = refl; start = start; held = closed_held i l (pop_held h) })

  -- ---- a line is taken
  module _ (s n d : ℕ) (under : List Entry) (h : Held text rows (run s (suc n) d ∷ under) (stack w top)) where
    abbrev e : ℕ
    e = run_word s (suc n) d

    run_turns : turn_of text now ≡ taken_if text e d (due_at text at s (length rows + 2) d) now
    unfolding turn_of taken
    run_turns =
        let q = fits_due (fits_on h.entries) in
        let i : e % 8 ≡ s = omega (arith, q.sort) in
        let k : e / 8 ≡ d + 128 * suc n = omega (arith, q.sort) in
        let j : e / 8 % 128 ≡ d = ap (λ z. z % 128) k ∙ omega (arith, q.short) in
        ap (λ z. turn_by text z now) (entry h)
        ∙ (rw (ne_eqb (e % 8) 7 (λ k. omega (arith, q.sort)), i, j))

    -- it is refused
    turn_refused : (r : Refused) → due_at text at s (length rows + 2) d ≡ Err r
        → line_due s d (rest_at text at (length rows + 2)) ≡ refused (refusal_number r.why) r.line → Turns-to (run s (suc n) d ∷ under)
    turn_refused r q l =
        subst (λ y. Follows text now (line_opened y (pred d) (due s n d under) rows)) (sym l)
        (ends (omega (arith, h.top)) (run_turns ∙ ap (λ z. taken_if text e d z now) q))

    -- it is read
    module _ (f : Form) (p : Parsed) (next : ℕ) (r : due_at text at s (length rows + 2) d ≡ Ok (numbers_of p next))
        (few : length rows + 2 ≤ 4_097) (known : Known text at p next) where
      abbrev kids : Children
      kids = children_by p.line.word (count_at 0 p) (count_at 1 p) (count_at 2 p)

      abbrev written : Stack
      written = stack (row_written text (length rows) at (numbers_of p next) w) top

      abbrev after : Stack
      after = pushed_due (length rows) kids (d - 1) (lessened e written)

      read_turns : turn_of text now ≡ Ok (machine after.work next (length rows + 1) after.top)
      read_turns = run_turns ∙ ap (λ z. taken_if text e d z now) r

      abbrev more : List Row
      more = rows ++ (row p.line 0 ∷ [])

      kids_few : Few kids
      kids_few = few_by (count_at 0 p) (count_at 1 p) (count_at 2 p) (known.counts 0) (known.counts 1) (known.counts 2) p.line.word known.kind

      -- the row is written, and the line is off the agenda
      less_held : Held text more (due s n d under) (lessened e written)
      less_held = lessened_held s n d (row_held short (omega arith) at p next start known h)

      abbrev then : ℕ → State
      then k = state (due_below (children_in p) k (close (length rows) ∷ due s n d under)) (rest_at text next (suc (length rows + 2))) more

      read_sim : (agenda : List Entry) → Held text more agenda after
          → Sim text (machine after.work next (length rows + 1) after.top) (state agenda (rest_at text next (suc (length rows + 2))) more)
      read_sim agenda held =
          record {
            rows = omega (arith, length_more rows (row p.line 0));
            rest = ap (λ k. rest_at text next k) (omega arith);
            start = sym known.start ∙ (sym (skip_next (suc (length rows)) text at start) ∙ ap (λ k. start_of text k) (sym (add-one (length rows))));
            held = held;
          }

      -- lines are due below it
      read_on : 0 < d → is_leaf kids ≡ false → Follows text now (on (then (d - 1)))
      unfolding pushed_due
      read_on some b =
          let q = fits_due (fits_on h.entries) in
          goes (omega (arith, h.top)) read_turns (read_sim _
          (subst (λ c. Held text more (due_below c (d - 1) (close (length rows) ∷ due s n d under)) after) known.children
          (rw b (below_held (length rows) kids (d - 1) kids_few (omega (arith, length_more rows (row p.line 0)))
          (omega (arith, due_low s n d (length under) under (omega arith), q.short)) less_held))))

      -- nothing is due below it
      read_leaf : is_leaf kids ≡ true → Follows text now (on (then (d - 1)))
      unfolding pushed_due
      read_leaf b =
          let none : due_below (children_in p) (d - 1) (close (length rows) ∷ due s n d under) ≡ close (length rows) ∷ due s n d under =
          subst (λ c. due_below c (d - 1) (close (length rows) ∷ due s n d under) ≡ close (length rows) ∷ due s n d under) known.children
          (leaf_none kids (d - 1) (close (length rows) ∷ due s n d under) b) in
          let closed : turn (then (d - 1)) ≡ on (state (due s n d under) (rest_at text next (suc (length rows + 2))) more) =
          ap (λ z. turned z (rest_at text next (suc (length rows + 2))) more) none
          ∙ ap (λ z. on (state (due s n d under) (rest_at text next (suc (length rows + 2))) z)) (close_last rows p.line) in
          skips (omega (arith, h.top)) (λ z. omega (arith, ap length (sym none ∙ z))) closed read_turns (read_sim _ (rw b less_held))

      read_follows : 0 < d → Follows text now (on (then (d - 1)))
      read_follows some = go (is_leaf kids) refl
        where
          go : (b : Bool) → is_leaf kids ≡ b → Follows text now (on (then (d - 1)))
          go true b = read_leaf b
          go false b = read_on some b

      turn_read : line_due s d (rest_at text at (length rows + 2)) ≡ got (record { is = f; parsed = p }) (rest_at text next (suc (length rows + 2)))
          → Turns-to (run s (suc n) d ∷ under)
      turn_read l =
          let left = levels_left s d (rest_at text at (length rows + 2)) l in
          subst (λ y. Follows text now (line_opened y (pred d) (due s n d under) rows)) (sym l)
          (subst (λ k. Follows text now (on (then k))) (sym left.1) (read_follows left.0))

    turn_run : Turns-to (run s (suc n) d ∷ under)
    turn_run = go (same text at s (length rows + 2) d)
      where
        go : Same text at s (length rows + 2) d → Turns-to (run s (suc n) d ∷ under)
        go (read f p next r few l known) = turn_read f p next r few known l
        go (refuse r due l) = turn_refused r due l

  turn_any : (agenda : List Entry) → Held text rows agenda (stack w top) → Turns-to agenda
  turn_any [] h = turn_none h
  turn_any (close i ∷ under) h = turn_close i under h
  turn_any (run s zero d ∷ under) h = absurd (omega (arith, (fits_due (fits_on h.entries)).some))
  turn_any (run s (suc n) d ∷ under) h = turn_run s n d under h

-- ---- a turn from any state
pub turn_follows : (text : Bytes) → length text ≤ 65_536 → (m : Machine) (a : State) → Sim text m a → Follows text m (turn a)
turn_follows text short m a h =
    let at = m.at in
    let top = m.top in
    let agenda = a.agenda in
    let rows = a.rows in
    subst (λ r. Follows text m (turned agenda r rows)) (sym h.rest)
    (subst (λ k. Follows text (machine m.work at k top) (turned agenda (rest_at text at (k + 2)) rows)) (sym h.rows)
    (turn_any text short m.work at top rows (h.start ∙ ap (λ k. start_of text k) h.rows) agenda h.held))
