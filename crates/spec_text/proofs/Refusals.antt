-- What a refusal carries: 1 and 2 no line, 3 to 7 the number of a line, from 1 on.
-- The whole text is read by readers that are `Fine`, so one theorem, `reading_fits`, says it of refusals and what holds of a tree.
use Rattle.std.proofs.Common.{ℕ, ◌+◌, ◌<◌, ◌≤◌, arith, ◌≡◌, refl, sym, ap, subst, ◌↔◌, Bool, true, false, cond, ◌&&◌, [], ◌∷◌, eqb, leb, ltb, length, ltb-true, ltb-false, le-leb}
use Rattle.std.proofs.lemmas.Bool.{lt-leb}
use Rattle.spec_text.specs.Bytes.{Bytes, between}
use Rattle.spec_text.specs.Tree.{Tree, len_ss}
use Rattle.spec_text.specs.Lines.{Form, as_sort, count_at}
use Rattle.spec_text.specs.Reading.{longest_text, most_lines, deepest, shortest_work, Read, Reading, tree, refusal, ended, read_tree, reading}
use Rattle.spec_text.proofs.Lists.{All}
use Rattle.spec_text.proofs.LineParts.{IsNameOf, LineIn}
use Rattle.spec_text.proofs.Shape.{depth_ss, EachSs}
use Rattle.spec_text.proofs.Fine.{Fine, fine_got, fine_refused, fine_then, line_then, Good, IsLineNumber}
use Rattle.spec_text.proofs.Levels.{stmts_fine, stmt_fine, globals_fine}

-- "1 to 7 carry a line number from 1 (0 for 1 and 2)"
abbrev pub refusal_ok : ℕ → ℕ → Bool
refusal_ok k n = between 1 7 k && cond (leb k 2) (eqb n 0) (between 1 4_098 n)

-- a tree that was read: its lines are within the limits, and what they hold is a part of the text
pub record TreeFits (text : Bytes) (t : Tree) : Type 0 where
  pub count : length t.globals + len_ss t.body ≤ most_lines
  pub deep : depth_ss t.body ≤ deepest
  pub globals : All (IsNameOf text) t.globals
  pub lines : EachSs (LineIn text) t.body

abbrev pub ReadingFits : Bytes → Reading → Type 0
ReadingFits text (tree t) = TreeFits text t × (length text ≤ longest_text)
ReadingFits text (refusal k n) = refusal_ok k n ≡ true

-- what the lines give: a tree, or one of 3 to 7
abbrev LinesFit : Bytes → Reading → Type 0
LinesFit text (tree t) = TreeFits text t × (length text ≤ longest_text)
LinesFit text (refusal k n) = (3 ≤ k) × (k ≤ 7) × IsLineNumber n

lines_fit : (text : Bytes) (x : Reading) → LinesFit text x → ReadingFits text x
lines_fit text (tree t) f = f
lines_fit text (refusal k n) f =
    rw (le-leb 1 k (omega (arith, f.0)), le-leb k 7 f.1, lt-leb k 2 f.0, le-leb 1 n f.2.first, le-leb n 4_098 f.2.last)

ended_fits : (text : Bytes) → length text ≤ longest_text → {x : Read Tree} → Fine (λ t left. TreeFits text t × Good text left) x → LinesFit text (ended x)
ended_fits text s (fine_got {a} {r} p) = go r.bytes
  where
    go : (bs : Bytes) → LinesFit text (elim bs [ [] ↦ tree a | b ∷ bs ↦ refusal 4 r.number ])
    go [] = (p.0, s)
    go (b ∷ bs) = (omega arith, omega arith, p.1.number)
ended_fits text s (fine_refused k h l) = (h.0, h.1, l)

tree_fits : (text : Bytes) → length text ≤ longest_text → LinesFit text (read_tree text)
tree_fits text s =
    let g : Good text (record { bytes = text; offset = 0; number = 1 }) = record { here = refl; within = omega arith; number = omega arith } in
    ended_fits text s (line_then text (as_sort Form.tree) 0 (record { bytes = text; offset = 0; number = 1 }) g _ (λ i p r h.
    fine_then (globals_fine text (count_at 0 p) r h.good) (λ gs r a.
    fine_then (stmts_fine text (stmt_fine text deepest) (count_at 1 p) r a.good) (λ ss r b.
    fine_got (record { count = omega arith; deep = b.deep; globals = a.holds; lines = b.holds }, b.good)))))

pub reading_fits : (text : Bytes) (work : ℕ) → ReadingFits text (reading text work)
reading_fits text work = go (ltb longest_text (length text)) (ltb work shortest_work) refl
  where
    go : (a b : Bool) → ltb longest_text (length text) ≡ a
        → ReadingFits text (elim a [ true ↦ refusal 1 0 | false ↦ elim b [ true ↦ refusal 2 0 | false ↦ read_tree text ] ])
    go true b e = refl
    go false true e = refl
    go false false e = lines_fit text (read_tree text) (tree_fits text (ltb-false longest_text (length text) e))

-- ---- 1 comes exactly where the text is too long; 2 exactly where it is not, and the work buffer is too short
abbrev reading_by : Bytes → Bool → Bool → Reading
reading_by text a b = elim a [ true ↦ refusal 1 0 | false ↦ elim b [ true ↦ refusal 2 0 | false ↦ read_tree text ] ]

same_refusal : {j k m n : ℕ} → refusal j m ≡ refusal k n → (j ≡ k) × (m ≡ n)
same_refusal e = (cc, cc)

not_by_lines : (text : Bytes) (k n : ℕ) → k < 3 → length text ≤ longest_text → read_tree text ≡ refusal k n → ⊥
not_by_lines text k n l h e = omega (arith, (subst (LinesFit text) e (tree_fits text h)).0)

module _ (text : Bytes) (work n : ℕ) where
  abbrev long : Bool
  long = ltb longest_text (length text)

  abbrev short : Bool
  short = ltb work shortest_work

  pub refused_1 : (reading text work ≡ refusal 1 n) ↔ ((longest_text < length text) × (n ≡ 0))
  refused_1 = go long short refl
    where
      go : (a b : Bool) → long ≡ a → (reading_by text a b ≡ refusal 1 n) ↔ ((longest_text < length text) × (n ≡ 0))
      go true b d = (λ e. (ltb-true longest_text (length text) d, sym (same_refusal e).1), λ h. ap (refusal 1) (sym h.1))
      go false true d = (λ e. absurd (omega (arith, (same_refusal e).0)), λ h. absurd (omega (arith, ltb-false longest_text (length text) d, h.0)))
      go false false d =
          let s = ltb-false longest_text (length text) d in
          (λ e. absurd (not_by_lines text 1 n (omega arith) s e), λ h. absurd (omega (arith, s, h.0)))

  pub refused_2 : (reading text work ≡ refusal 2 n) ↔ ((length text ≤ longest_text) × (work < shortest_work) × (n ≡ 0))
  refused_2 = go long short refl refl
    where
      go : (a b : Bool) → long ≡ a → short ≡ b → (reading_by text a b ≡ refusal 2 n) ↔ ((length text ≤ longest_text) × (work < shortest_work) × (n ≡ 0))
      go true b d f = (λ e. absurd (omega (arith, (same_refusal e).0)), λ h. absurd (omega (arith, ltb-true longest_text (length text) d, h.0)))
      go false true d f =
          (λ e. (ltb-false longest_text (length text) d, ltb-true work shortest_work f, sym (same_refusal e).1), λ h. ap (refusal 2) (sym h.2))
      go false false d f =
          (λ e. absurd (not_by_lines text 2 n (omega arith) (ltb-false longest_text (length text) d) e), λ h. absurd (omega (arith, ltb-false work shortest_work f, h.1)))
