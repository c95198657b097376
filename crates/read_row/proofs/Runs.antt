-- Rows stand one after the other in the text: each line starts where the one before it has ended. So row i's line starts after i + 1
-- line ends, and is read again there.
use Rattle.std.proofs.Common.{ℕ, zero, suc, ◌+◌, ◌≤◌, ◌<◌, arith, zero-add, ◌≡◌, refl, sym, subst, ◌∙◌, true, List, [], ◌∷◌, ◌++◌, length, get_or, drop, length-append}
use Rattle.std.proofs.Math.Option.{some}
use Rattle.spec_text.specs.Bytes.{Bytes}
use Rattle.spec_text.specs.Tree.{Line}
use Rattle.spec_text.specs.Lines.{Cut, cut, Parsed, parse}
use Rattle.spec_text.proofs.LineParts.{ParsedFits}
use Rattle.work_rows.specs.Rows.{Row}
use Rattle.read_tree.specs.Laid.{start_of, no_row}
use Rattle.read_tree.proofs.CutText.{cut_skips}
use Rattle.read_tree.proofs.Starts.{skip_next}
use Rattle.read_row.specs.RowModel.{line_start}

-- the bytes up to the first LF, from an offset on
abbrev pub cut_at : Bytes → ℕ → Cut
cut_at text at = cut at (drop at text)

-- a line stands at an offset
pub record Stands (text : Bytes) (at : ℕ) (l : Line) : Type 0 where
  pub parsed : Parsed
  pub start : line_start text at ≡ at
  pub ended : (cut_at text at).ended ≡ true
  pub is : parse (cut_at text at).fields ≡ some parsed
  pub fits : ParsedFits text parsed
  pub line : parsed.line ≡ l

-- the line of row i
abbrev pub Again : Bytes → ℕ → Line → Type 0
Again text i l = Stands text (start_of text i) l

-- ---- rows from an offset to another; below a row are some of those after it
pub data Runs (text : Bytes) : ℕ → List Row → ℕ → Type 0 where
  over : {at : ℕ} → Runs text at [] at
  on : {at to : ℕ} {x : Row} {rows : List Row} → Stands text at x.line → x.below ≤ length rows → Runs text (cut_at text at).next rows to → Runs text at (x ∷ rows) to

pub runs_then : {text : Bytes} {at mid to : ℕ} {a b : List Row} → Runs text at a mid → Runs text mid b to → Runs text at (a ++ b) to
runs_then over s = s
runs_then {b} (on {x} {rows} h l r) s = on {x = x} {rows = rows ++ b} h (omega (arith, length-append rows b)) (runs_then r s)

-- ---- row k + i, where the rows start with row k
runs_stands : {text : Bytes} {at to : ℕ} {rows : List Row} → Runs text at rows to → (k : ℕ) → at ≡ start_of text k → (i : ℕ) → i < length rows
    → Again text (k + i) (get_or rows i no_row).line
runs_stands over k e i l = absurd (omega arith)
runs_stands {text} {at} (on {x} h b r) k e zero l =
    let n : k ≡ k + 0 = omega arith in
    subst (λ (j : ℕ). Again text j x.line) n (subst (λ (o : ℕ). Stands text o x.line) e h)
runs_stands {text} {at} (on {rows} h b r) k e (suc i) l =
    let n : suc k + i ≡ k + suc i = omega arith in
    let f : (cut_at text at).next ≡ start_of text (suc k) = sym (skip_next (suc k) text at e ∙ cut_skips at (drop at text)) in
    subst (λ (j : ℕ). Again text j (get_or rows i no_row).line) n (runs_stands r (suc k) f i (omega arith))

pub runs_again : {text : Bytes} {to : ℕ} {rows : List Row} → Runs text (start_of text 0) rows to → (i : ℕ) → i < length rows → Again text i (get_or rows i no_row).line
runs_again {text} {rows} r i l = subst (λ (j : ℕ). Again text j (get_or rows i no_row).line) (zero-add i) (runs_stands r 0 refl i l)

-- the rows below a row are among those after it
pub runs_below : {text : Bytes} {at to : ℕ} {rows : List Row} → Runs text at rows to → (i : ℕ) → i < length rows → i + (get_or rows i no_row).below < length rows
runs_below over i l = absurd (omega arith)
runs_below (on h b r) zero l = omega arith
runs_below (on h b r) (suc i) l = omega (arith, runs_below r i (omega arith))
