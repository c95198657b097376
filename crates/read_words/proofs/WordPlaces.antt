-- Words by their place: the table's line of a word is that of the row at the word's place, and there is none past the end (`line_placed`).
-- No row has more than three counts (`few_counts`), and none an empty word (`some_bytes`).
use Rattle.std.proofs.Common.{◌≡◌, refl, sym, ap, Bool, true, false, cond, List, [], ◌∷◌, ℕ, suc, ◌<◌, ◌≤◌, arith, leb, ltb, length, get_or, drop, length-drop, lt-ltb, le-ltb, leb-true, ltb-true}
use Rattle.std.proofs.Math.ListN.{get_elem?, get_or-eq_default}
use Rattle.std.proofs.Math.Option.{Option, none, some}
use Rattle.spec_text.specs.Bytes.{Bytes, Part, same}
use Rattle.spec_text.specs.Lines.{Word, words, Parsed, well_formed, parsed, line_of}
use Rattle.spec_text.proofs.Lists.{next_of, at_next, test_at}
use Rattle.read_words.specs.WordsModel.{place, is_word, no_word, of_word, shape_of}
use Rattle.read_words.specs.ChildrenModel.{children_of, children_by}

-- the word in row k
abbrev pub word_at : ℕ → Word
word_at k = get_or words k no_word

-- the line of row k
abbrev pub row_line : ℕ → Word → List Part → Option Parsed
row_line k w fs = elim (well_formed w fs) [ true ↦ some (parsed k w fs) | false ↦ none ]

placed : (n : ℕ) (ws all : List Word) (x : Bytes) (fs : List Part) → drop n all ≡ ws
    → line_of n ws x fs ≡ (let k = place n ws x in cond (ltb k (length all)) (row_line k (get_or all k no_word) fs) none)
placed n [] all x fs e = rw (le-ltb n (length all) (omega (arith, length-drop n all, ap length e)))
placed n (w ∷ ws) all x fs e = go (same x w.spelling) (placed (suc n) ws all x fs k.1)
  where
    k : (get_elem? all n ≡ some w) × (drop (suc n) all ≡ ws) × (n < length all)
    k = next_of all n w ws e

    go : (t : Bool) → line_of (suc n) ws x fs ≡ (let k = place (suc n) ws x in cond (ltb k (length all)) (row_line k (get_or all k no_word) fs) none)
        → elim t [ true ↦ row_line n w fs | false ↦ line_of (suc n) ws x fs ]
        ≡ (let k : ℕ = elim t [ true ↦ n | false ↦ place (suc n) ws x ] in cond (ltb k (length all)) (row_line k (get_or all k no_word) fs) none)
    go true r = rw (lt-ltb n (length all) k.2, at_next all n w ws no_word e)
    go false r = r

pub line_placed : (x : Bytes) (fs : List Part) → line_of 0 words x fs ≡ (let k = place 0 words x in cond (is_word x) (row_line k (word_at k) fs) none)
line_placed x fs = placed 0 words words x fs refl

pub few_counts : (k : ℕ) → k < length words → (word_at k).counts ≤ 3
few_counts k h = leb-true (word_at k).counts 3 (test_at (λ (w : Word). leb w.counts 3) words k no_word refl h)

pub some_bytes : (k : ℕ) → k < length words → 0 < length (word_at k).spelling
some_bytes k h = ltb-true 0 (length (word_at k).spelling) (test_at (λ (w : Word). ltb 0 (length w.spelling)) words k no_word refl h)

-- past the last row there is no word
no_word_past : (k : ℕ) → 29 ≤ k → no_word ≡ word_at k
no_word_past k l = sym (get_or-eq_default words no_word l)

pub shape_past : (k : ℕ) → 29 ≤ k → of_word no_word ≡ shape_of k
unfolding shape_of
shape_past k l = ap of_word (no_word_past k l)

pub children_past : (k a b c : ℕ) → 29 ≤ k → children_of no_word.form a b c ≡ children_by k a b c
unfolding children_by
children_past k a b c l = ap (λ (w : Word). children_of w.form a b c) (no_word_past k l)
