-- A loop over rows, on the way: the rows that are left give what all the rows were to give.
use Rattle.std.proofs.Common.{ℕ, ◌≤◌, ◌<◌, ◌≡◌, refl, sym, ap, ◌∙◌, List}
use Rattle.spec_text.specs.Bytes.{Bytes}
use Rattle.work_rows.specs.LoopsModel.{rows_to}
use Rattle.work_rows.proofs.Loops.{rows_end, rows_turn}
use Rattle.walk_tree.specs.declared.Walker.{Walker}
use Rattle.walk_tree.specs.WalkModel.{Walk, walk, over, next_line}
use Rattle.walk_tree.specs.StepsModel.{state, Walked}
use Rattle.walk_tree.proofs.Ways.{line_on}

pub record Left (start : Walker) (all : Walk → Walk) (rest : Walk → Walk) (here : Walker) : Type 0 where
  pub left : rest (state here) ≡ all (state start)
  pub same_text : here.text.now ≡ start.text.now
  pub same_buffer : here.work.ghost_name ≡ start.work.ghost_name

module _ {start here : Walker} {all rest : Walk → Walk} (l : Left start all rest here) where
  -- a row more, whose step reads the text
  turn : {new : Walker} (step : Bytes → Walk → Walk) (next : Walk → Walk) → next (step start.text.now (state here)) ≡ rest (state here)
      → Walked here (step here.text.now) new → Left start all next new
  turn step next e h = record {
    left = ap next (h.walked ∙ ap (λ t. step t (state here)) l.same_text) ∙ (e ∙ l.left);
    same_text = h.same_text ∙ l.same_text;
    same_buffer = h.same_buffer ∙ l.same_buffer;
  }

  -- no row more
  end : rest (state here) ≡ state here → Walked start all here
  end e = record { walked = sym e ∙ l.left; same_text = l.same_text; same_buffer = l.same_buffer }

-- ---- rows that leave the stack
module _ (next : List ℕ → ℕ → ℕ) (f : Bytes → ℕ → List ℕ → List ℕ) (start here : Walker) (at stop : ℕ) {all : Walk → Walk} (l : Left start all (over (rows_to next (f start.text.now) at stop)) here) where
  pub row_turn : (on : (w : List ℕ) (i : ℕ) → i < next w i) → at < stop → {n : ℕ} → n ≡ next here.work.now at → {new : Walker} → Walked here (over (f here.text.now at)) new
      → Left start all (over (rows_to next (f start.text.now) n stop)) new
  row_turn on b {n} e h =
      turn l (λ t. over (f t at)) (over (rows_to next (f start.text.now) n stop)) (ap (walk here.stack) (rows_turn next (f start.text.now) on at stop n here.work.now _ b e refl)) h

  pub row_end : stop ≤ at → Walked start all here
  row_end b = end l (ap (walk here.stack) (rows_end next (f start.text.now) at stop here.work.now b))

-- ---- lines
module _ (f : Bytes → ℕ → Walk → Walk) (start here : Walker) (at stop : ℕ) {all : Walk → Walk} (l : Left start all (rows_to next_line (f start.text.now) at stop) here) where
  pub line_turn : at < stop → {n : ℕ} → n ≡ next_line (state here) at → {new : Walker} → Walked here (f here.text.now at) new → Left start all (rows_to next_line (f start.text.now) n stop) new
  line_turn b {n} e h = turn l (λ t. f t at) (rows_to next_line (f start.text.now) n stop) (rows_turn next_line (f start.text.now) line_on at stop n (state here) _ b e refl) h

  pub line_end : stop ≤ at → Walked start all here
  line_end b = end l (rows_end next_line (f start.text.now) at stop (state here) b)
