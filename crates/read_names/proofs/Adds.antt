-- One row more. What the buffer holds of a row is said of its second number alone (`Row`), so it stays where that is not written and
-- where a name is added; a head is written only for a name that no row has yet.
use Rattle.std.proofs.Common.{ℕ, ◌+◌, ◌-◌, ◌/◌, ◌%◌, ◌≤◌, ◌<◌, mod-eq_of_lt, arith, ◌≡◌, sym, ap, ◌∙◌, subst, cond, List, [], ◌⊎◌, inl, inr, ⊎_elim, below_more, lt-ltb, le-ltb, le-leb, leb, ltb, length, get_or, length-set, get_or-set_same, get_or-set_other}
use Rattle.std.proofs.lemmas.Bool.{cases_eq}
use Rattle.spec_text.specs.Bytes.{Bytes, part_of}
use Rattle.read_fields.specs.FieldsModel.{field_at, hash_of}
use Rattle.work_rows.specs.Layout.{put, rows_most, name_base, head_base, head_end, name_of, offset_at, same_at}
use Rattle.read_names.specs.Names.{earliest}
use Rattle.read_names.specs.ChainsModel.{head_at, row_number, found, placed, name_entered, added, cleared, New, Link, Names}
use Rattle.read_names.proofs.Earliest.{more, First, Absent, sought, earliest_first, earliest_absent, first_more, first_new, earliest_more, more_old, more_new, more_length}
use Rattle.read_names.proofs.Writes.{marked, headed, entered_old, entered_new, cleared_length, cleared_head}
use Rattle.read_names.proofs.Links.{hash_small, found_earliest, first_is_new, new_less, link_more, link_past, link_on}

-- ---- row k's second number is an offset and a mark: a number, or a link
abbrev number_of : ℕ → ℕ → ℕ
number_of mark k = cond (ltb mark rows_most) mark k

abbrev link_of : ℕ → ℕ → ℕ
link_of mark k = cond (leb (mark - rows_most) k) (mark - rows_most) 0

link_of_lem : (c k : ℕ) → c ≤ k → link_of (rows_most + c) k ≡ c
link_of_lem c k l =
    let d : rows_most + c - rows_most ≡ c = omega arith in
    ap (λ t. cond t (rows_most + c - rows_most) 0) (le-leb (rows_most + c - rows_most) k (omega arith)) ∙ d

record Row (text : Bytes) (names : List Bytes) (k at mark : ℕ) : Type 0 where
  number : (get_or names k [] ≡ [] → ⊥) → number_of mark k ≡ earliest names (get_or names k [])
  offset : (get_or names k [] ≡ [] → ⊥) → field_at text at ≡ get_or names k []
  link : New names k → Link names (hash_of (get_or names k [])) k (link_of mark k)

abbrev Rows : Bytes → List Bytes → List ℕ → ℕ → Type 0
Rows text names w k = Row text names k (offset_at w k) (same_at w k)

row_of : {text : Bytes} {names : List Bytes} {w : List ℕ} → Names text names w → (k : ℕ) → k < length names → Rows text names w k
row_of s k l = record { number = s.numbers.number k l; offset = s.offsets k l; link = s.links k l }

names_of : {text : Bytes} {names : List Bytes} {w : List ℕ} → 16_384 ≤ length w → length names ≤ rows_most
    → ((k : ℕ) → k < length names → Rows text names w k) → ((h : ℕ) → h < 4_096 → Link names h (length names) (head_at w h)) → Names text names w
names_of room few rows heads = record {
  room = room;
  few = few;
  numbers = record { number = λ i l. (rows i l).number };
  offsets = λ k l. (rows k l).offset;
  heads = heads;
  links = λ j l. (rows j l).link;
}

row_kept : (text : Bytes) (names : List Bytes) (w z : List ℕ) (k : ℕ) → get_or z (name_base + k) 0 ≡ get_or w (name_base + k) 0
    → Rows text names w k → Rows text names z k
row_kept text names w z k e r = subst (λ v. Row text names k (v % 65_536) (v / 65_536)) (sym e) r

row_more : (text : Bytes) (names : List Bytes) (x : Bytes) (k at mark : ℕ) → k < length names → Row text names k at mark → Row text (more names x) k at mark
row_more text names x k at mark l r = record {
  number = λ d. r.number (λ q. d (e ∙ q)) ∙ (sym (earliest_more names x k l) ∙ ap (earliest (more names x)) (sym e));
  offset = λ d. r.offset (λ q. d (e ∙ q)) ∙ sym e;
  link = λ n. subst (λ z. Link (more names x) (hash_of z) k (link_of mark k)) (sym e) (link_more names x _ k _ (omega arith) (r.link (new_less names x k l n)));
}
  where
    e : get_or (more names x) k [] ≡ get_or names k []
    e = more_old names x k l

row_written_lem : (text : Bytes) (names : List Bytes) (w : List ℕ) (k at mark : ℕ) → at < 65_536 → get_or w (name_base + k) 0 ≡ name_of at mark
    → Row text names k at mark → Rows text names w k
row_written_lem text names w k at mark l e r =
    let a : at ≡ offset_at w k = omega (arith, ap (λ z. z % 65_536) e) in
    let b : mark ≡ same_at w k = omega (arith, ap (λ z. z / 65_536) e) in
    subst (λ z. Row text names k z (same_at w k)) a (subst (λ z. Row text names k at z) b r)

-- ---- no row
pub names_empty : (text : Bytes) (w : List ℕ) → 16_384 ≤ length w → Names text [] (cleared w)
names_empty text w room =
    names_of (omega (arith, cleared_length w)) (omega arith) (λ k l. absurd (omega arith))
    (λ h l. subst (Link [] h 0) (sym (cleared_head w h room)) (record { low = omega arith; skip = λ k m. absurd (omega arith); top = λ z. absurd (omega arith) }))

-- ---- the same numbers
pub names_kept : {text : Bytes} {names : List Bytes} {w z : List ℕ} → Names text names w → length z ≡ length w
    → ((k : ℕ) → name_base ≤ k → k < head_end → get_or z k 0 ≡ get_or w k 0) → Names text names z
names_kept {text} {names} {w} {z} s sized kept =
    names_of (omega (arith, s.room)) s.few (λ k l. row_kept text names w z k (kept (name_base + k) (omega arith) (omega (arith, s.few))) (row_of s k l))
    (λ h l. subst (Link names h (length names)) (sym (ap (λ z. z % 8_192) (kept (head_base + h % 4_096) (omega arith) (omega arith)))) (s.heads h l))

-- ---- one row more
module _ {text : Bytes} {names : List Bytes} {w : List ℕ} (s : Names text names w) (few : length names < rows_most) (x : Bytes) where
  names_more : (z : List ℕ) (at mark : ℕ) → length z ≡ length w → ((k : ℕ) → k < length names → get_or z (name_base + k) 0 ≡ get_or w (name_base + k) 0)
      → at < 65_536 → get_or z (name_base + length names) 0 ≡ name_of at mark → Row text (more names x) (length names) at mark
      → ((h : ℕ) → h < 4_096 → Link (more names x) h (length names + 1) (head_at z h)) → Names text (more names x) z
  names_more z at mark sized kept l e r heads =
      names_of (omega (arith, s.room)) (omega (arith, more_length names x))
      (subst (λ n. (k : ℕ) → k < n → Rows text (more names x) z k) (sym (more_length names x))
      (below_more (Rows text (more names x) z) (length names)
      (λ k m. row_more text names x k _ _ m (row_kept text names w z k (kept k m) (row_of s k m)))
      (row_written_lem text (more names x) z (length names) at mark l e r)))
      (subst (λ n. (h : ℕ) → h < 4_096 → Link (more names x) h n (head_at z h)) (sym (more_length names x)) heads)

  marked_here : (at mark : ℕ) → at < 65_536 → mark < 65_536 → get_or (marked w (length names) at mark) (name_base + length names) 0 ≡ name_of at mark
  marked_here at mark l m =
      get_or-set_same w (name_base + length names) (name_of at mark % 4_294_967_296) 0 (omega (arith, s.room)) ∙ mod-eq_of_lt (omega arith)

  marked_other : (at mark k : ℕ) → (k ≡ name_base + length names → ⊥) → get_or (marked w (length names) at mark) k 0 ≡ get_or w k 0
  marked_other at mark k d = get_or-set_other w (name_base + length names) k (name_of at mark % 4_294_967_296) 0 d

  -- the heads of the other hashes
  marked_head : (at mark h : ℕ) → h < 4_096 → (New (more names x) (length names) → hash_of (get_or (more names x) (length names) []) ≡ h → ⊥)
      → Link (more names x) h (length names + 1) (head_at (marked w (length names) at mark) h)
  marked_head at mark h q out =
      subst (Link (more names x) h (length names + 1)) (sym (ap (λ z. z % 8_192) (marked_other at mark (head_base + h % 4_096) (λ e. omega arith))))
      (link_past h (length names) _ (link_more names x h (length names) _ (omega arith) (s.heads h q)) out)

  -- a row that is of no chain
  names_past : (at mark : ℕ) → at < 65_536 → mark < 65_536 → Row text (more names x) (length names) at mark
      → (New (more names x) (length names) → ⊥) → Names text (more names x) (marked w (length names) at mark)
  names_past at mark l m r out =
      names_more (marked w (length names) at mark) at mark (length-set w (name_base + length names) (name_of at mark % 4_294_967_296))
      (λ k q. marked_other at mark (name_base + k) (λ e. omega arith)) l (marked_here at mark l m) r
      (λ h q. marked_head at mark h q (λ f e. out f))

  -- a row that is the last of its chain
  names_last : (at mark : ℕ) → at < 65_536 → mark < 65_536 → Row text (more names x) (length names) at mark
      → New (more names x) (length names) → Names text (more names x) (headed (marked w (length names) at mark) (length names) (hash_of x))
  names_last at mark l m r new =
      names_more (headed z (length names) (hash_of x)) at mark (length-set z (head_base + hash_of x % 4_096) ((length names + 1) % 4_294_967_296) ∙ sized)
      (λ k q. other (name_base + k) (λ e. omega arith) ∙ marked_other at mark (name_base + k) (λ e. omega arith)) l
      (other (name_base + length names) (λ e. omega arith) ∙ marked_here at mark l m) r
      (λ h q. ⊎_elim (same h) (different h q) (cases_eq h (hash_of x)))
    where
      z : List ℕ
      z = marked w (length names) at mark

      sized : length z ≡ length w
      sized = length-set w (name_base + length names) (name_of at mark % 4_294_967_296)

      hash : hash_of (get_or (more names x) (length names) []) ≡ hash_of x
      hash = ap hash_of (more_new names x)

      other : (k : ℕ) → (k ≡ head_base + hash_of x % 4_096 → ⊥) → get_or (headed z (length names) (hash_of x)) k 0 ≡ get_or z k 0
      other k d = get_or-set_other z (head_base + hash_of x % 4_096) k ((length names + 1) % 4_294_967_296) 0 d

      here : head_at (headed z (length names) (hash_of x)) (hash_of x) ≡ length names + 1
      here =
          ap (λ y. y % 8_192) (get_or-set_same z (head_base + hash_of x % 4_096) ((length names + 1) % 4_294_967_296) 0 (omega (arith, sized, s.room)))
          ∙ omega arith

      same : (h : ℕ) → h ≡ hash_of x → Link (more names x) h (length names + 1) (head_at (headed z (length names) (hash_of x)) h)
      same h e =
          subst (λ g. Link (more names x) g (length names + 1) (head_at (headed z (length names) (hash_of x)) g)) (sym e)
          (subst (Link (more names x) (hash_of x) (length names + 1)) (sym here) (link_on (hash_of x) (length names) new hash))

      different : (h : ℕ) → h < 4_096 → (h ≡ hash_of x → ⊥) → Link (more names x) h (length names + 1) (head_at (headed z (length names) (hash_of x)) h)
      different h q d =
          subst (Link (more names x) h (length names + 1)) (sym (ap (λ y. y % 8_192) (other (head_base + h % 4_096) (λ e. d (omega (arith, hash_small x))))))
          (marked_head at mark h q (λ _ e. d (sym e ∙ hash)))

  -- ---- the three cases
  -- no name
  pub names_none : (at : ℕ) → at < 65_536 → x ≡ [] → Names text (more names x) (placed w (length names) at)
  names_none at l e =
      subst (λ v. Names text (more names x) (put w (name_base + length names) v)) (omega arith)
      (names_past at 0 l (omega arith) row (λ n. n.0 none))
    where
      none : get_or (more names x) (length names) [] ≡ []
      none = more_new names x ∙ e

      row : Row text (more names x) (length names) at 0
      row = record { number = λ d. absurd (d none); offset = λ d. absurd (d none); link = λ n. absurd (n.0 none) }

  module _ (at : ℕ) (l : at < 65_536) (e : field_at text at ≡ x) where
    -- a name that row j is the first to have
    names_old : (j : ℕ) → First names x j → Names text (more names x) (marked w (length names) at j)
    names_old j f =
        names_past at j l (omega (arith, f.low))
        (record { number = λ _. number; offset = λ _. e ∙ sym (more_new names x); link = λ n. absurd (out n) }) out
      where
        out : New (more names x) (length names) → ⊥
        out n = n.1 j f.low (more_old names x j f.low ∙ (f.is ∙ sym (more_new names x)))

        number : number_of j (length names) ≡ earliest (more names x) (get_or (more names x) (length names) [])
        number =
            ap (λ t. cond t j (length names)) (lt-ltb j rows_most (omega (arith, f.low)))
            ∙ sym (ap (earliest (more names x)) (more_new names x) ∙ earliest_first (first_more names x x j f))

    -- a name that no row has
    names_new : (x ≡ [] → ⊥) → Absent names x
        → Names text (more names x) (headed (marked w (length names) at (rows_most + head_at w (hash_of x))) (length names) (hash_of x))
    names_new some a =
        names_last at (rows_most + head_at w (hash_of x)) l (omega (arith, low))
        (record { number = λ _. number; offset = λ _. e ∙ sym (more_new names x); link = λ _. link })
        (first_is_new some (first_new names x a))
      where
        low : head_at w (hash_of x) ≤ length names
        low = (s.heads (hash_of x) (hash_small x)).low

        number : number_of (rows_most + head_at w (hash_of x)) (length names) ≡ earliest (more names x) (get_or (more names x) (length names) [])
        number =
            ap (λ t. cond t (rows_most + head_at w (hash_of x)) (length names)) (le-ltb (rows_most + head_at w (hash_of x)) rows_most (omega arith))
            ∙ sym (ap (earliest (more names x)) (more_new names x) ∙ earliest_first (first_new names x a))

        link : Link (more names x) (hash_of (get_or (more names x) (length names) [])) (length names) (link_of (rows_most + head_at w (hash_of x)) (length names))
        link =
            subst (Link (more names x) (hash_of (get_or (more names x) (length names) [])) (length names)) (sym (link_of_lem (head_at w (hash_of x)) (length names) low))
            (subst (λ y. Link (more names x) (hash_of y) (length names) (head_at w (hash_of x))) (sym (more_new names x))
            (link_more names x (hash_of x) (length names) _ (omega arith) (s.heads (hash_of x) (hash_small x))))

    pub names_added : (len : ℕ) → (x ≡ [] → ⊥) → part_of text at len ≡ x → Names text (more names x) (added text w (length names) at len (hash_of x))
    unfolding added
    names_added len some p = go (sought names x)
      where
        row : row_number (found text w (hash_of x) (part_of text at len)) ≡ earliest names x
        row = ap (λ y. row_number (found text w (hash_of x) y)) p ∙ found_earliest s x some

        wrote : (r : ℕ) → earliest names x ≡ r
            → name_entered w (length names) at (hash_of x) (row_number (found text w (hash_of x) (part_of text at len)))
            ≡ name_entered w (length names) at (hash_of x) r
        wrote r q = ap (name_entered w (length names) at (hash_of x)) (row ∙ q)

        go : ((j : ℕ) × First names x j) ⊎ Absent names x
            → Names text (more names x) (name_entered w (length names) at (hash_of x) (row_number (found text w (hash_of x) (part_of text at len))))
        go (inl (j, f)) =
            subst (Names text (more names x)) (sym (wrote j (earliest_first f) ∙ entered_old w (length names) at (hash_of x) j (omega (arith, f.low)))) (names_old j f)
        go (inr a) =
            subst (Names text (more names x)) (sym (wrote rows_most (earliest_absent names x a) ∙ entered_new w (length names) at (hash_of x) rows_most (omega arith)))
            (names_new some a)
