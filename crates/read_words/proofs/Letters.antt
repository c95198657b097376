-- A word by its first byte: to try the words that begin with the byte at a cursor, one after the other in any order, is to look the field
-- up in the whole table (`by_letter`). That all of them are tried is a test over the table, which computes (`listed`).
use Rattle.std.proofs.Common.{◌≡◌, refl, sym, ap, ◌∙◌, Bool, true, false, cond, ◌&&◌, ◌||◌, true≢false, List, [], ◌∷◌, ℕ, zero, suc, ◌+◌, ◌<◌, add-zero, zero-add, add-suc, suc-add, arith, eqb, ltb, length, get_or, drop, length-drop, eqb-true, eq-eqb, ltb-true, Option, Some, None}
use Rattle.std.specs.Option.{option_or}
use Rattle.spec_text.specs.Bytes.{Bytes, same, all}
use Rattle.spec_text.specs.Lines.{Word, words}
use Rattle.spec_text.proofs.Lists.{and_split, next_of, at_next, same_eq}
use Rattle.read_fields.specs.FieldsModel.{field_at, past, takes}
use Rattle.read_fields.specs.declared.Cursor.{Cursor}
use Rattle.read_fields.proofs.Fields.{field_first}
use Rattle.read_fields.proofs.Takes.{takes_facts, facts_take}
use Rattle.read_words.specs.WordsModel.{place, is_word, no_word, kind_from}
use Rattle.read_words.specs.declared.Kind.{Kind}
use Rattle.read_words.proofs.Keys.{among, Unlike, unlike}
use Rattle.read_words.proofs.WordPlaces.{word_at, some_bytes}

-- ---- a field that has the bytes of a word
abbrev pub spelt : ℕ → Bytes
spelt n = (word_at n).spelling

abbrev is : ℕ → Bytes → Cursor → Bool
is n text c = takes (λ x. same x (spelt n)) text c

-- the same field, by another test
takes_too : (p q : Bytes → Bool) (text : Bytes) (c : Cursor) → takes p text c ≡ true → q (field_at text c.at) ≡ true → takes q text c ≡ true
takes_too p q text c e h = let f = takes_facts p text c e in facts_take q text c (record { more = f.more; right = h; ended = f.ended })

-- kind n, where the field has the bytes of the word
abbrev pub word_from : ℕ → Bytes → Bytes → Cursor → Option Kind
word_from n word text c = cond (takes (λ x. same x word) text c) (Some (record { kind = n; next = past text c.at })) None

-- ---- words tried one after the other: the rows of those words, the last one first, and the kind that is found
pub data Tried (text : Bytes) (c : Cursor) : List ℕ → Option Kind → Type 0 where
  none : Tried text c [] None
  or : (n : ℕ) {ns : List ℕ} {k l : Option Kind} → Tried text c ns k → l ≡ option_or k (word_from n (spelt n) text c) → Tried text c (n ∷ ns) l

-- row n is where the table has its spelling
abbrev in_place : ℕ → Bool
in_place n = ltb n (length words) && eqb (place 0 words (spelt n)) n

-- from row m on, each word that begins with b is among those of the rows ns
abbrev begun : ℕ → List Word → List ℕ → ℕ → Bool
begun m [] ns b = true
begun m (w ∷ ws) ns b = cond (eqb (get_or w.spelling 0 0) b) (among ns m) true && begun (suc m) ws ns b

abbrev pub listed : List ℕ → ℕ → Bool
listed ns b = all in_place ns && begun 0 words ns b

module _ (text : Bytes) (c : Cursor) where
  -- the first of the words that the field is, or none of them
  data Outcome (ns : List ℕ) : Option Kind → Type 0 where
    found : (n : ℕ) → in_place n ≡ true → is n text c ≡ true → Outcome ns (Some (record { kind = n; next = past text c.at }))
    nowhere : ((n : ℕ) → among ns n ≡ true → is n text c ≡ true → ⊥) → Outcome ns None

  one_more_lem : (n : ℕ) (ns : List ℕ) (k : Option Kind) → in_place n ≡ true → Outcome ns k → Outcome (n ∷ ns) (option_or k (word_from n (spelt n) text c))
  one_more_lem n ns k i (found m j e) = found m j e
  one_more_lem n ns k i (nowhere f) = go (is n text c) refl
    where
      other : (m : ℕ) (b : Bool) → eqb n m ≡ b → is n text c ≡ false → (b || among ns m) ≡ true → is m text c ≡ true → ⊥
      other m true q h e t = true≢false (sym t ∙ (ap (λ j. is j text c) (sym (eqb-true n m q)) ∙ h))
      other m false q h e t = f m e t

      go : (t : Bool) → is n text c ≡ t → Outcome (n ∷ ns) (cond t (Some (record { kind = n; next = past text c.at })) None)
      go true h = found n i h
      go false h = nowhere (λ m e t. other m (eqb n m) refl h e t)

  outcome : {ns : List ℕ} {k : Option Kind} → Tried text c ns k → all in_place ns ≡ true → Outcome ns k
  outcome none h = nowhere (λ n i t. true≢false (sym i))
  outcome (or n {ns} {k} t e) h = let s = and_split (in_place n) (all in_place ns) h in rw e (one_more_lem n ns k s.0 (outcome t s.1))

-- ---- the word's place
-- the word at a place is the one that was looked up
place_same : (n : ℕ) (ws table : List Word) (x : Bytes) → drop n table ≡ ws → place n ws x < length table
    → same x (get_or table (place n ws x) no_word).spelling ≡ true
place_same n [] table x e h = absurd (omega (arith, length-drop n table, ap length e))
place_same n (w ∷ ws) table x e h = go (same x w.spelling) refl h (place_same (suc n) ws table x (next_of table n w ws e).1)
  where
    go : (t : Bool) → same x w.spelling ≡ t → elim t [ true ↦ n | false ↦ place (suc n) ws x ] < length table
        → (place (suc n) ws x < length table → same x (get_or table (place (suc n) ws x) no_word).spelling ≡ true)
        → same x (get_or table (elim t [ true ↦ n | false ↦ place (suc n) ws x ]) no_word).spelling ≡ true
    go true q h r = ap (λ (v : Word). same x v.spelling) (at_next table n w ws no_word e) ∙ q
    go false q h r = r h

begun_at : (i n : ℕ) (ws : List Word) (ns : List ℕ) (b : ℕ) → begun n ws ns b ≡ true → i < length ws → get_or (get_or ws i no_word).spelling 0 0 ≡ b
    → among ns (n + i) ≡ true
begun_at i n [] ns b e h q = absurd (omega arith)
begun_at zero n (w ∷ ws) ns b e h q =
    let f : get_or w.spelling 0 0 ≡ b = q in
    rw add-zero (rw (eq-eqb _ _ f) at (and_split (cond (eqb (get_or w.spelling 0 0) b) (among ns n) true) _ e).0)
begun_at (suc i) n (w ∷ ws) ns b e h q =
    let r = begun_at i (suc n) ws ns b (and_split (cond (eqb (get_or w.spelling 0 0) b) (among ns n) true) _ e).1 (omega arith) q in
    rw add-suc (rw suc-add at r)

pub by_letter : (ns : List ℕ) (text : Bytes) (c : Cursor) (k : Option Kind) → listed ns (get_or text c.at 0) ≡ true → Tried text c ns k → k ≡ kind_from text c
unfolding kind_from
by_letter ns text c k e t = go k (outcome text c t parts.0)
  where
    b : ℕ
    b = get_or text c.at 0

    x : Bytes
    x = field_at text c.at

    parts : (all in_place ns ≡ true) × (begun 0 words ns b ≡ true)
    parts = and_split (all in_place ns) (begun 0 words ns b) e

    at_place : ℕ → Option Kind
    at_place n = Some (record { kind = n; next = past text c.at })

    -- a word of the table begins with b, so it is among those that are tried
    tried_too : (m : ℕ) → m < length words → same x (spelt m) ≡ true → among ns m ≡ true
    tried_too m h s =
        let q : x ≡ spelt m = same_eq x (spelt m) s in
        let f : get_or (spelt m) 0 0 ≡ b = ap (λ y. get_or y 0 0) (sym q) ∙ field_first text c.at (omega (arith, some_bytes m h, ap length q)) in
        rw zero-add at (begun_at m 0 words ns b parts.1 h f)

    missing : (t : Bool) → takes is_word text c ≡ t → ((n : ℕ) → among ns n ≡ true → is n text c ≡ true → ⊥)
        → None ≡ cond t (at_place (place 0 words x)) None
    missing false h f = refl
    missing true h f =
        let m : ℕ = place 0 words x in
        let l : m < length words = ltb-true m (length words) (takes_facts is_word text c h).right in
        let s : same x (spelt m) ≡ true = place_same 0 words words x refl l in
        absurd (f m (tried_too m l s) (takes_too is_word (λ x. same x (spelt m)) text c h s))

    go : (k : Option Kind) → Outcome text c ns k → k ≡ kind_from text c
    go _ (found n i t) =
        let w = and_split (ltb n (length words)) _ i in
        let p : place 0 words x ≡ n = ap (place 0 words) (same_eq x (spelt n) (takes_facts (λ x. same x (spelt n)) text c t).right) ∙ eqb-true _ _ w.1 in
        let h : takes is_word text c ≡ true = takes_too (λ x. same x (spelt n)) is_word text c t (ap (λ m. ltb m (length words)) p ∙ w.0) in
        sym (ap (λ t. cond t (at_place (place 0 words x)) None) h ∙ ap at_place p)
    go _ (nowhere f) = missing (takes is_word text c) refl f

-- ---- a byte that no word begins with
-- each word begins with one of these bytes
abbrev pub letters : List ℕ → List Word → Bool
letters ls ws = all (λ (w : Word). among ls (get_or w.spelling 0 0)) ws

none_begun : (ls : List ℕ) (n : ℕ) (ws : List Word) (b : ℕ) → letters ls ws ≡ true → Unlike ls b → begun n ws [] b ≡ true
none_begun ls n [] b h u = refl
none_begun ls n (w ∷ ws) b h u = go (eqb (get_or w.spelling 0 0) b) refl (none_begun ls (suc n) ws b s.1 u)
  where
    s : (among ls (get_or w.spelling 0 0) ≡ true) × (letters ls ws ≡ true)
    s = and_split (among ls (get_or w.spelling 0 0)) (letters ls ws) h

    go : (t : Bool) → eqb (get_or w.spelling 0 0) b ≡ t → begun (suc n) ws [] b ≡ true → (cond t false true && begun (suc n) ws [] b) ≡ true
    go true e r = absurd (unlike ls b u (ap (among ls) (sym (eqb-true _ _ e)) ∙ s.0))
    go false e r = r

pub no_letter : (ls : List ℕ) (b : ℕ) → letters ls words ≡ true → Unlike ls b → listed [] b ≡ true
no_letter ls b h u = none_begun ls 0 words b h u
