-- How far rows reach: no row of a part reaches past the part, and a call has a row below it. So a row before a part reaches over it only if
-- it is around it, and where no row of a word is around a part, none is around what follows the part.
use Rattle.std.proofs.Common.{ℕ, suc, ◌+◌, ◌≤◌, ◌<◌, arith, ◌≡◌, refl, sym, ap, ◌∙◌, Bool, true, false, not, ◌||◌, List, [], ◌∷◌, ◌++◌, map, eqb, length, get_or, length-append}
use Rattle.std.proofs.Math.Decide.{ℕ_discrete, dec_lt}
use Rattle.std.proofs.lemmas.Bool.{false≢true}
use Rattle.spec_text.specs.Bytes.{Part}
use Rattle.spec_text.specs.Tree.{Line, Expr, Exprs, Attrs, Stmt, Stmts, Methods, Tree, var, node, access, tuple, call, lambda, enil, econs, anil, acons, simple, assign, block, choice, for, def, class, snil, scons, mnil, mcons}
use Rattle.work_rows.specs.Rows.{Row, row, global_row, rows_e, rows_es, rows_as, rows_s, rows_ss, rows_ms, rows_t}
use Rattle.read_tree.specs.Laid.{no_row}
use Rattle.work_rows.proofs.Lengths.{Sized, both, sized_e, sized_es, sized_as, sized_ss, sized_ms}
use Rattle.read_row.specs.Worded.{WordedE, WordedEs, WordedAs, WordedS, WordedSs, WordedMs}
use Rattle.proof_walk.specs.Table.{Here}
use Rattle.proof_walk.proofs.PartRows.{head_row, here_tail}
use Rattle.proof_walk.proofs.WordTests.{node_test, access_test, simple_test, block_test}

-- ---- words: 21 call, 28 lambda, 13 class, and the plain ones
abbrev pub plain : ℕ → Bool
plain w = not (eqb w 21 || (eqb w 28 || eqb w 13))

pub not_plain : (k : ℕ) {w : ℕ} → plain k ≡ false → plain w ≡ true → w ≡ k → ⊥
not_plain k f p e = false≢true (sym f ∙ ap plain (sym e) ∙ p)

-- ---- the rows of a part
abbrev pub Fits : List Row → Type 0
Fits [] = Unit {0}
Fits (x ∷ xs) = (x.below ≤ length xs) × (x.line.word ≡ 21 → 0 < x.below) × Fits xs

fits_append : (a b : List Row) → Fits a → Fits b → Fits (a ++ b)
fits_append [] b p q = q
fits_append (x ∷ a) b p q = (omega (arith, length-append a b, p.0), p.1, fits_append a b p.2 q)

-- a row with all that is below it
fits_row : (l : Line) {a : List Row} {n : ℕ} → Sized a n → plain l.word ≡ true → Fits a → Fits (row l n ∷ a)
fits_row l z p f = (omega (arith, z.count), λ e. absurd (not_plain 21 refl p e), f)

mutual
  pub fits_e : (e : Expr) → WordedE e → Fits (rows_e e)
  fits_e (var l) w = (omega arith, λ e. omega (arith, w.0), tt)
  fits_e (node l es) w = fits_row l (sized_es es) (node_test plain refl w.0) (fits_es es w.1)
  fits_e (access l es) w = fits_row l (sized_es es) (access_test plain refl w.0) (fits_es es w.1)
  fits_e (tuple l es) w = fits_row l (sized_es es) (ap plain w.0) (fits_es es w.1)
  fits_e (call l f es) w =
      (omega (arith, (both (sized_e f) (sized_es es)).count), λ e. omega arith, fits_append (rows_e f) (rows_es es) (fits_e f w.1.0) (fits_es es w.1.1))
  fits_e (lambda l e) w = (omega (arith, (sized_e e).count), λ e. omega arith, fits_e e w.1.1)

  fits_es : (es : Exprs) → WordedEs es → Fits (rows_es es)
  fits_es enil w = tt
  fits_es (econs e es) w = fits_append (rows_e e) (rows_es es) (fits_e e w.0) (fits_es es w.1)

fits_as : (ats : Attrs) → WordedAs ats → Fits (rows_as ats)
fits_as anil w = tt
fits_as (acons l e ats) w =
    (omega (arith, length-append (rows_e e) (rows_as ats), (sized_e e).count), λ e. omega (arith, w.0), fits_append (rows_e e) (rows_as ats) (fits_e e w.1.0) (fits_as ats w.1.1))

mutual
  pub fits_s : (s : Stmt) → WordedS s → Fits (rows_s s)
  fits_s (simple l es) w = fits_row l (sized_es es) (simple_test plain refl w.0) (fits_es es w.1)
  fits_s (assign l e t) w =
      fits_row l (both (sized_e e) (sized_e t)) (ap plain w.0) (fits_append (rows_e e) (rows_e t) (fits_e e w.1.0) (fits_e t w.1.1))
  fits_s (block l c b) w =
      fits_row l (both (sized_e c) (sized_ss b)) (block_test plain refl w.0) (fits_append (rows_e c) (rows_ss b) (fits_e c w.1.0) (fits_ss b w.1.1))
  fits_s (choice l c b k e) w =
      fits_row l (both (sized_e c) (both (sized_ss b) (both (sized_ss k) (sized_ss e)))) (ap plain w.0)
      (fits_append (rows_e c) (rows_ss b ++ (rows_ss k ++ rows_ss e)) (fits_e c w.1.0)
      (fits_append (rows_ss b) (rows_ss k ++ rows_ss e) (fits_ss b w.1.1.0) (fits_append (rows_ss k) (rows_ss e) (fits_ss k w.1.1.1.0) (fits_ss e w.1.1.1.1))))
  fits_s (for l e b) w =
      fits_row l (both (sized_e e) (sized_ss b)) (ap plain w.0) (fits_append (rows_e e) (rows_ss b) (fits_e e w.1.1.0) (fits_ss b w.1.1.1))
  fits_s (def l b) w = fits_row l (sized_ss b) (ap plain w.0) (fits_ss b w.1.1.1)
  fits_s (class l ms ats) w =
      (omega (arith, (both (sized_ms ms) (sized_as ats)).count), λ e. omega (arith, w.0), fits_append (rows_ms ms) (rows_as ats) (fits_ms ms w.1.1.0) (fits_as ats w.1.1.1))

  pub fits_ss : (ss : Stmts) → WordedSs ss → Fits (rows_ss ss)
  fits_ss snil w = tt
  fits_ss (scons s ss) w = fits_append (rows_s s) (rows_ss ss) (fits_s s w.0) (fits_ss ss w.1)

  fits_ms : (ms : Methods) → WordedMs ms → Fits (rows_ms ms)
  fits_ms mnil w = tt
  fits_ms (mcons l b ms) w = (
    omega (arith, length-append (rows_ss b) (rows_ms ms), (sized_ss b).count),
    λ e. omega (arith, w.0),
    fits_append (rows_ss b) (rows_ms ms) (fits_ss b w.1.1.1.0) (fits_ms ms w.1.1.1.1),
  )

pub fits_globals : (gs : List Part) → Fits (map global_row gs)
fits_globals [] = tt
fits_globals (g ∷ gs) = (omega arith, λ e. omega arith, fits_globals gs)

pub fits_t : (t : Tree) → WordedSs t.body → Fits (rows_t t)
fits_t t w = fits_append (map global_row t.globals) (rows_ss t.body) (fits_globals t.globals) (fits_ss t.body w)

-- ---- a row among all: its word, and the row after all that is below it
abbrev pub word_in : List Row → ℕ → ℕ
word_in rows q = (get_or rows q no_row).line.word

abbrev pub end_in : List Row → ℕ → ℕ
end_in rows q = q + suc (get_or rows q no_row).below

-- no row of the word k that is before row i reaches over it
pub record Free (rows : List Row) (k i : ℕ) : Type 0 where
  pub before : (q : ℕ) → q < i → word_in rows q ≡ k → end_in rows q ≤ i

module _ {rows : List Row} where
  pub within : {i : ℕ} {part : List Row} → Here rows i part → Fits part → (q : ℕ) → i ≤ q → q < i + length part
      → (end_in rows q ≤ i + length part) × (word_in rows q ≡ 21 → suc q < end_in rows q)
  within {part = []} h f q l m = absurd (omega arith)
  within {i} {part = x ∷ xs} h f q l m = go (ℕ_discrete i q) (within {i = suc i} {part = xs} (here_tail h) f.2 q)
    where
      go : Dec (i ≡ q) → (suc i ≤ q → q < suc i + length xs → (end_in rows q ≤ suc i + length xs) × (word_in rows q ≡ 21 → suc q < end_in rows q))
          → (end_in rows q ≤ i + suc (length xs)) × (word_in rows q ≡ 21 → suc q < end_in rows q)
      go (yes e) k =
          let c : get_or rows q no_row ≡ x = ap (λ j. get_or rows j no_row) (sym e) ∙ (head_row h).1 in
          (omega (arith, f.0, ap (λ (y : Row). y.below) c), λ d. omega (arith, f.1 (ap (λ (y : Row). y.line.word) (sym c) ∙ d), ap (λ (y : Row). y.below) c))
      go (no n) k = let r = k (omega arith) (omega arith) in (omega (arith, r.0), r.1)

  module _ {k i : ℕ} (f : Free rows k i) where
    pub free_in : (word_in rows i ≡ k → ⊥) → Free rows k (suc i)
    free_in d = record { before = λ q l e. go q l e (ℕ_discrete i q) }
      where
        go : (q : ℕ) → q < suc i → word_in rows q ≡ k → Dec (i ≡ q) → end_in rows q ≤ suc i
        go q l e (yes s) = absurd (d (ap (word_in rows) s ∙ e))
        go q l e (no n) = omega (arith, f.before q (omega arith) e)

    pub free_past : {part : List Row} {n : ℕ} → Sized part n → Fits part → Here rows i part → Free rows k (i + n)
    free_past {n} z t h = record { before = λ q l e. go q l e (dec_lt q i) }
      where
        go : (q : ℕ) → q < i + n → word_in rows q ≡ k → Dec (q < i) → end_in rows q ≤ i + n
        go q l e (yes s) = omega (arith, f.before q s e)
        go q l e (no m) = omega (arith, z.count, (within h t q (omega arith) (omega (arith, z.count))).0)
