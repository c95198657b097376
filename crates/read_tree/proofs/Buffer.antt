-- What the work buffer holds while the text is read: the rows written so far, and the agenda, an entry a number. A push and a pop keep
-- both: the rows and the names stand below the agenda, and an entry stands above those under it.
-- The agenda is short: over k entries there are lines due only with d levels left where k + 8 * d is at most 514.
use Rattle.std.proofs.Common.{ℕ, zero, suc, ◌+◌, ◌-◌, ◌*◌, ◌/◌, ◌%◌, ◌≤◌, ◌<◌, arith, mod-eq_of_lt, ◌≡◌, refl, sym, ap, ◌∙◌, subst, List, [], ◌∷◌, inr, length, get_or, set, get_or-set_same, get_or-set_other, ne_eqb, le-leb}
use Rattle.std.proofs.lemmas.Bool.{lt-leb}
use Rattle.std.proofs.lemmas.List.{length-map, take-set-le}
use Rattle.spec_text.specs.Bytes.{Bytes}
use Rattle.spec_text.proofs.Lists.{All}
use Rattle.work_rows.specs.Layout.{put, name_base}
use Rattle.read_agenda.specs.StackModel.{agenda_base, Stack, stack, run_word, close_word, pushed, pushed_close, pushed_below, lessened}
use Rattle.read_names.proofs.Theorems.{other_names}
use Rattle.work_rows.specs.Rows.{Row}
use Rattle.read_tree.specs.Laid.{Holds, name_in}
use Rattle.read_agenda.specs.AgendaModel.{Entry, run, close, due, due_below}
use Rattle.read_words.specs.ChildrenModel.{Few}
use Rattle.read_words.specs.declared.Children.{Children}

-- ---- entries
abbrev pub word_of : Entry → ℕ
word_of (run s n d) = run_word s n d
word_of (close i) = close_word i

-- an entry over k others, when so many rows are written
pub data Fits (rows k : ℕ) : Entry → Type 0 where
  fits_run : {s n d : ℕ} → s < 7 → 0 < n → n ≤ 16_384 → k + 8 * d ≤ 514 → Fits rows k (run s n d)
  fits_close : {i : ℕ} → i < rows → k ≤ 514 → Fits rows k (close i)

-- what is known of lines that are due
pub record Due (s n d k : ℕ) : Type 0 where
  pub sort : s < 7
  pub some : 0 < n
  pub few : n ≤ 16_384
  pub short : k + 8 * d ≤ 514

pub fits_due : {rows k s n d : ℕ} → Fits rows k (run s n d) → Due s n d k
fits_due (fits_run s n m l) = record { sort = s; some = n; few = m; short = l }

pub fits_row : {rows k i : ℕ} → Fits rows k (close i) → i < rows
fits_row (fits_close i l) = i

fits_low : {rows k : ℕ} {e : Entry} → Fits rows k e → k ≤ 514
fits_low (fits_run s n m l) = omega arith
fits_low (fits_close i l) = l

fits_more : {rows more k : ℕ} {e : Entry} → rows ≤ more → Fits rows k e → Fits more k e
fits_more h (fits_run s n m l) = fits_run s n m l
fits_more h (fits_close {i} m l) = fits_close {i = i} (omega arith) l

word_small : {rows k : ℕ} {e : Entry} → rows ≤ 4_096 → Fits rows k e → word_of e < 4_294_967_296
word_small h (fits_run s n m l) = omega arith
word_small h (fits_close i l) = omega arith

-- ---- the stack: each entry's number stands over those under it
pub data Stacked (w : List ℕ) (rows : ℕ) : List Entry → Type 0 where
  bare : Stacked w rows []
  over : {e : Entry} {under : List Entry} → get_or w (agenda_base + length under) 0 ≡ word_of e → Fits rows (length under) e → Stacked w rows under
      → Stacked w rows (e ∷ under)

pub stacked_kept : {w v : List ℕ} {rows more : ℕ} {agenda : List Entry} → ((k : ℕ) → k < length agenda → get_or v (agenda_base + k) 0 ≡ get_or w (agenda_base + k) 0)
    → rows ≤ more → Stacked w rows agenda → Stacked v more agenda
stacked_kept h l bare = bare
stacked_kept h l (over {e} {under} is f s) = over (h (length under) (omega arith) ∙ is) (fits_more l f) (stacked_kept (λ k m. h k (omega arith)) l s)

pub word_on : {w : List ℕ} {n : ℕ} {e : Entry} {under : List Entry} → Stacked w n (e ∷ under) → get_or w (agenda_base + length under) 0 ≡ word_of e
word_on (over is f s) = is

pub fits_on : {w : List ℕ} {n : ℕ} {e : Entry} {under : List Entry} → Stacked w n (e ∷ under) → Fits n (length under) e
fits_on (over is f s) = f

under_of : {w : List ℕ} {n : ℕ} {e : Entry} {under : List Entry} → Stacked w n (e ∷ under) → Stacked w n under
under_of (over is f s) = s

-- ---- the rows
abbrev pub Kind : Row → Type 0
Kind x = x.line.word < 32

pub record Held (text : Bytes) (rows : List Row) (agenda : List Entry) (x : Stack) : Type 0 where
  pub top : x.top ≡ length agenda
  pub entries : Stacked x.work (length rows) agenda
  pub kinds : All Kind rows
  pub holds : Holds text rows x.work

-- at most k entries
record Low (text : Bytes) (rows : List Row) (k : ℕ) (agenda : List Entry) (x : Stack) : Type 0 where
  low : length agenda ≤ k
  held : Held text rows agenda x

pub due_low : (s n d k : ℕ) (under : List Entry) → length under ≤ k → length (due s n d under) ≤ suc k
due_low s zero d k under l = omega arith
due_low s (suc n) d k under l = omega arith

pub rows_few : {text : Bytes} {rows : List Row} {w : List ℕ} → Holds text rows w → length rows ≤ 4_096
rows_few {rows} h = subst (λ n. n ≤ 4_096) (length-map rows name_in) h.names.few

-- a number of the agenda is written
holds_set : {text : Bytes} {rows : List Row} {w : List ℕ} (i v : ℕ) → agenda_base ≤ i → Holds text rows w → Holds text rows (set w i v)
holds_set {text} {rows} {w} i v l h =
    let few = rows_few h in
    record {
      numbers = take-set-le (length rows) w i v (omega arith) ∙ h.numbers;
      offsets = λ k m. ap (λ z. z % 65_536) (get_or-set_other w i (name_base + k) v 0 (λ e. omega arith)) ∙ h.offsets k m;
      names = other_names h.names i v (inr l);
    }

pub put_stores : (w : List ℕ) (i v : ℕ) → i < length w → v < 4_294_967_296 → get_or (put w i v) i 0 ≡ v
put_stores w i v l small = get_or-set_same w i (v % 4_294_967_296) 0 l ∙ mod-eq_of_lt small

module _ {text : Bytes} {rows : List Row} where
  -- an entry is put on top
  put_held : {e : Entry} {under : List Entry} {x : Stack} (v : ℕ) → v ≡ word_of e → Fits (length rows) (length under) e → Held text rows under x
      → Held text rows (e ∷ under) (stack (put x.work (agenda_base + x.top) v) (x.top + 1))
  put_held {e} {under} {x} v is f h =
      let w = x.work in
      let i = agenda_base + x.top in
      let small : v < 4_294_967_296 = omega (arith, word_small (rows_few h.holds) f) in
      let room : i < length w = omega (arith, fits_low f, h.holds.names.room, h.top) in
      record {
        top = omega (arith, h.top);
        entries =
            over (ap (λ n. get_or (put w i v) (agenda_base + n) 0) (sym h.top) ∙ (put_stores w i v room small ∙ is)) f
            (stacked_kept (λ k l. get_or-set_other w i (agenda_base + k) (v % 4_294_967_296) 0 (λ q. omega (arith, h.top))) (omega arith) h.entries);
        kinds = h.kinds;
        holds = holds_set i (v % 4_294_967_296) (omega arith) h.holds;
      }

  -- the entry on top is taken off
  pub pop_held : {e : Entry} {under : List Entry} {w : List ℕ} {top : ℕ} → Held text rows (e ∷ under) (stack w top) → Held text rows under (stack w (top - 1))
  pop_held h = record { top = omega (arith, h.top); entries = under_of h.entries; kinds = h.kinds; holds = h.holds }

  -- another entry is put in its place
  put_again : {e f : Entry} {under : List Entry} {w : List ℕ} {top : ℕ} (v : ℕ) → v ≡ word_of f → Fits (length rows) (length under) f
      → Held text rows (e ∷ under) (stack w top) → Held text rows (f ∷ under) (stack (put w (agenda_base + top - 1) v) top)
  put_again {f} {under} {w} {top} v is fits h =
      let i : agenda_base + (top - 1) ≡ agenda_base + top - 1 = omega (arith, h.top) in
      let j : top - 1 + 1 ≡ top = omega (arith, h.top) in
      subst (λ z. Held text rows (f ∷ under) (stack (put w z v) top)) i
      (subst (λ z. Held text rows (f ∷ under) (stack (put w (agenda_base + (top - 1)) v) z)) j (put_held v is fits (pop_held h)))

  -- ---- the machine's own steps
  pub pushed_held : (s n d : ℕ) {under : List Entry} {x : Stack} → s < 7 → n ≤ 16_384 → length under + 8 * d ≤ 514 → Held text rows under x
      → Held text rows (due s n d under) (pushed s n d x)
  unfolding pushed
  pushed_held s zero d l m b h = h
  pushed_held s (suc n) d l m b h = rw (ne_eqb (suc n) 0 (λ e. omega arith)) (put_held (run_word s (suc n) d) refl (fits_run l (omega arith) m b) h)

  close_held : {under : List Entry} {x : Stack} (i : ℕ) → i < length rows → length under ≤ 514 → Held text rows under x
      → Held text rows (close i ∷ under) (pushed_close i x)
  close_held i l b h = put_held (close_word i) refl (fits_close l b) h

  -- one line of the entry on top is taken
  pub lessened_held : (s n d : ℕ) {under : List Entry} {w : List ℕ} {top : ℕ} → Held text rows (run s (suc n) d ∷ under) (stack w top)
      → Held text rows (due s n d under) (lessened (run_word s (suc n) d) (stack w top))
  unfolding lessened
  lessened_held s zero d {under} h =
      let q : Due s 1 d (length under) = fits_due (fits_on h.entries) in
      rw (le-leb (run_word s 1 d / 1_024) 1 (omega (arith, q.sort, q.short))) (pop_held h)
  lessened_held s (suc n) d {under} h =
      let q : Due s (suc (suc n)) d (length under) = fits_due (fits_on h.entries) in
      let e = run_word s (suc (suc n)) d in
      rw (lt-leb (e / 1_024) 1 (omega (arith, q.sort, q.short)))
      (put_again (e - 1_024) (omega arith) (fits_run q.sort (omega arith) (omega (arith, q.few)) q.short) h)

  -- a row is to be closed when what is due below it is read
  push : (s n d : ℕ) {k : ℕ} {under : List Entry} {x : Stack} → s < 7 → n ≤ 16_384 → k + 8 * d ≤ 514 → Low text rows k under x
      → Low text rows (suc k) (due s n d under) (pushed s n d x)
  push s n d {k} {under} l m b h = record { low = due_low s n d k under h.low; held = pushed_held s n d l m (omega (arith, h.low)) h.held }

  pub below_held : (i : ℕ) (c : Children) (d : ℕ) {under : List Entry} {x : Stack} → Few c → i < length rows → length under + 8 * d ≤ 507
      → Held text rows under x → Held text rows (due_below c d (close i ∷ under)) (pushed_below i c d x)
  unfolding pushed_below
  below_held i c d {under} {x} few l b h =
      let none : Low text rows (suc (length under)) (close i ∷ under) (pushed_close i x) = record { low = omega arith; held = close_held i l (omega arith) h } in
      (push 6 c.exprs d (omega arith) (omega (arith, few.few)) (omega arith)
      (push 5 c.stmts d (omega arith) (omega (arith, few.few)) (omega arith)
      (push 2 c.elifs d (omega arith) (omega (arith, few.few)) (omega arith)
      (push 5 c.others d (omega arith) (omega (arith, few.few)) (omega arith)
      (push 3 c.methods d (omega arith) (omega (arith, few.few)) (omega arith)
      (push 4 c.attrs d (omega arith) (omega (arith, few.few)) (omega arith) none)))))).held
