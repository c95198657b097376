-- Fields and runs. The code runs over the bytes of a class, as the digits, while a contract speaks of the field, up to the next tab or LF.
-- So far a run and the field go together (`Run`). Where the run stops, the field is all of the class only if it ends there (`run_stop`);
-- a tab or LF there ends the field, and the run is the whole of it (`run_whole`); another byte leaves no such field (`broken` in Takes).
use Rattle.std.proofs.Common.{◌≡◌, refl, sym, ◌∙◌, ℕ, zero, suc, ◌+◌, ◌-◌, ◌≤◌, ◌<◌, suc-le-suc, add-one, one-add, arith, Bool, true, false, cond, ◌&&◌, true≢false, [], ◌∷◌, length, ◌⊎◌, ⊎_elim, eq-eqb, eqb-true, drop_of_length-le, get_or, take, drop, length-drop, drop-cons, ne_eqb, Some, None, position, eqb, nat_lt, not, take_all, ltb-false, ap}
use Rattle.std.proofs.lemmas.Option.{cond_some}
use Rattle.std.specs.List.{position_or_len}
use Rattle.spec_text.specs.Bytes.{Bytes, same, all, is_digit, is_name_byte}
use Rattle.spec_text.proofs.Lists.{and_split, same_eq}
use Rattle.read_fields.specs.FieldsModel.{field, field_at, hash_from, mix}
use Rattle.read_bytes.specs.BytesModel.{is_end}

-- ---- tests
pub clash : {t : Bool} → t ≡ true → t ≡ false → ⊥
clash e f = true≢false (sym e ∙ f)

-- ---- classes of bytes: tab, LF and 0, which stands for the end of the text, are in none
pub record Class (p : ℕ → Bool) : Type 0 where
  pub tab : p 9 ≡ false
  pub feed : p 10 ≡ false
  pub none : p 0 ≡ false

pub digits : Class is_digit
digits = record { tab = refl; feed = refl; none = refl }

pub name_bytes : Class is_name_byte
name_bytes = record { tab = refl; feed = refl; none = refl }

no_end : {p : ℕ → Bool} → Class p → (b : ℕ) → p b ≡ true → is_end b ≡ false
no_end {p} k b h = rw (ne_eqb b 9 (λ e. clash h (ap p e ∙ k.tab)), ne_eqb b 10 (λ e. clash h (ap p e ∙ k.feed)))

pub inside : (p : ℕ → Bool) → p 0 ≡ false → (s : Bytes) (i : ℕ) → p (get_or s i 0) ≡ true → i < length s
inside p none [] i h = absurd (clash h none)
inside p none (x ∷ s) zero h = omega arith
inside p none (x ∷ s) (suc i) h = suc-le-suc (inside p none s i h)

-- ---- the field at an offset: its first byte, its end, its length
field_cons : (s : Bytes) (i : ℕ) → i < length s → is_end (get_or s i 0) ≡ false → field_at s i ≡ get_or s i 0 ∷ field_at s (i + 1)
unfolding field
field_cons s i l h = rw (add-one, drop-cons s i 0) (rw (h, field))

pub field_more : {p : ℕ → Bool} → Class p → (s : Bytes) (i : ℕ) → p (get_or s i 0) ≡ true → field_at s i ≡ get_or s i 0 ∷ field_at s (i + 1)
field_more {p} k s i h = field_cons s i (inside p k.none s i h) (no_end k (get_or s i 0) h)

field_end : (s : Bytes) (i : ℕ) → is_end (get_or s i 0) ≡ true → field_at s i ≡ []
unfolding field
field_end s i h =
    let l : i < length s = inside is_end refl s i h in
    rw (drop-cons s i 0) (rw (h, field))

field_stop : (p : ℕ → Bool) (s : Bytes) (i : ℕ) → p (get_or s i 0) ≡ false → all p (field_at s i) ≡ true → field_at s i ≡ []
unfolding field
field_stop p [] zero h a = refl
field_stop p [] (suc i) h a = refl
field_stop p (x ∷ s) zero h a = go (is_end x) refl
  where
    go : (t : Bool) → is_end x ≡ t → field (x ∷ s) ≡ []
    go true e = rw (e, field)
    go false e = absurd (clash (and_split (p x) (all p (field s)) (rw (e, field) at a)).0 h)
field_stop p (x ∷ s) (suc i) h a = field_stop p s i h a

pub field_first : (s : Bytes) (i : ℕ) → 0 < length (field_at s i) → get_or (field_at s i) 0 0 ≡ get_or s i 0
unfolding field
field_first [] zero l = refl
field_first [] (suc i) l = refl
field_first (x ∷ s) zero l = go (is_end x) refl
  where
    go : (t : Bool) → is_end x ≡ t → get_or (field (x ∷ s)) 0 0 ≡ x
    go true e = absurd (omega (arith, rw (e, field) at l))
    go false e = rw (e, field)
field_first (x ∷ s) (suc i) l = field_first s i l

field_length : (x : Bytes) → length (field x) ≤ length x
unfolding field
field_length [] = omega arith
field_length (b ∷ x) = go (is_end b) refl (field_length x)
  where
    go : (t : Bool) → is_end b ≡ t → length (field x) ≤ length x → length (field (b ∷ x)) ≤ length (b ∷ x)
    go true e h = rw (e, field) (omega arith)
    go false e h = rw (e, field) (omega arith)

pub field_within : (s : Bytes) (i : ℕ) → length (field_at s i) ≤ length s - i
field_within s i = omega (arith, field_length (drop i s), length-drop i s)

-- ---- a run of bytes of a class, up to i
pub record Run (p : ℕ → Bool) (x : Bytes) (i : ℕ) : Type 0 where
  pub ends : length (field x) ≡ i + length (field_at x i)
  pub each : all p (field x) ≡ all p (field_at x i)

-- the run is the whole field, which a tab or LF ends
pub record Whole (p : ℕ → Bool) (x : Bytes) (i : ℕ) : Type 0 where
  pub len : length (field x) ≡ i
  pub each : all p (field x) ≡ true
  pub rest : field_at x i ≡ []

module _ {p : ℕ → Bool} {x : Bytes} {i : ℕ} where
  pub run_more : Class p → p (get_or x i 0) ≡ true → Run p x i → Run p x (i + 1)
  run_more k h r =
      let e : field_at x i ≡ get_or x i 0 ∷ field_at x (i + 1) = field_more k x i h in
      let a : all p (field_at x i) ≡ all p (field_at x (i + 1)) = ap (all p) e ∙ ap (λ t. t && all p (field_at x (i + 1))) h in
      record { ends = omega (arith, ap length e); each = r.each ∙ a }

  -- where the run stops, the field is all of the class only if it ends there
  pub run_stop : Run p x i → p (get_or x i 0) ≡ false → all p (field x) ≡ true → length (field x) ≡ i
  run_stop r h a = let e : field_at x i ≡ [] = field_stop p x i h (sym r.each ∙ a) in omega (arith, ap length e)

  pub run_whole : Run p x i → is_end (get_or x i 0) ≡ true → Whole p x i
  run_whole r d =
      let f : field_at x i ≡ [] = field_end x i d in
      record { len = omega (arith, ap length f); each = r.each ∙ ap (all p) f; rest = f }

pub run_here : (p : ℕ → Bool) (x : Bytes) → Run p x 0
run_here p x = record { ends = omega arith; each = refl }

-- ---- a field, by the first byte that ends it
field_take : (x : Bytes) → take (position_or_len is_end x) x ≡ field x
unfolding field
field_take [] = refl
field_take (b ∷ x) = go (is_end b) (field_take x)
  where
    go : (t : Bool) → take (position_or_len is_end x) x ≡ field x
        → take (cond (not t) (1 + position_or_len is_end x) 0) (b ∷ x) ≡ (elim t [ true ↦ [] | false ↦ b ∷ field x ])
    go true h = refl
    go false h = rw (one-add) (ap (λ (l : Bytes). b ∷ l) h)

pub field_found : (x : Bytes) (n : ℕ) → position is_end x ≡ Some n → take n x ≡ field x
field_found x n e = ap (λ (i : ℕ). take i x) (sym (cond_some _ _ _ e).1) ∙ field_take x

pub field_all : (x : Bytes) → position is_end x ≡ None → x ≡ field x
field_all x e = go (nat_lt (position_or_len is_end x) (length x)) refl e
  where
    go : (t : Bool) → nat_lt (position_or_len is_end x) (length x) ≡ t → cond t (Some (position_or_len is_end x)) None ≡ None → x ≡ field x
    go true h e = absurd cc
    go false h e = sym (take_all _ x (ltb-false _ _ h)) ∙ field_take x

-- ---- a field and a word, byte for byte
pub same_length : (x y : Bytes) → same x y ≡ true → length x ≡ length y
same_length x y e = ap length (same_eq x y e)

module _ (x w : Bytes) (i : ℕ) (l : i < length w) (k : i < length x) where
  -- the byte at i of a word is the one at i of the field, and ends no field
  same_first : same (field_at x i) (drop i w) ≡ true → (get_or x i 0 ≡ get_or w i 0) × (is_end (get_or w i 0) ≡ false)
  same_first h = go (is_end (get_or x i 0)) refl
    where
      go : (t : Bool) → is_end (get_or x i 0) ≡ t → (get_or x i 0 ≡ get_or w i 0) × (is_end (get_or w i 0) ≡ false)
      go true e = absurd (clash h (rw (field_end x i e, drop-cons w i 0)))
      go false e =
          let q : eqb (get_or x i 0) (get_or w i 0) ≡ true = (and_split (eqb (get_or x i 0) (get_or w i 0)) _ (rw (field_cons x i k e, drop-cons w i 0) at h)).0 in
          let f : get_or x i 0 ≡ get_or w i 0 = eqb-true _ _ q in
          (f, rw f at e)

  -- where a byte differs, or ends the field, the field does not have the word's bytes
  pub same_not : same (field x) w ≡ same (field_at x i) (drop i w) → (get_or x i 0 ≡ get_or w i 0 → ⊥) ⊎ (is_end (get_or w i 0) ≡ true) → false ≡ same (field x) w
  same_not e d = go (same (field_at x i) (drop i w)) refl
    where
      go : (t : Bool) → same (field_at x i) (drop i w) ≡ t → false ≡ same (field x) w
      go true h = let f = same_first h in absurd (⊎_elim (λ n. n f.0) (λ n. clash n f.1) d)
      go false h = sym (e ∙ h)

  pub same_more : same (field x) w ≡ same (field_at x i) (drop i w) → get_or x i 0 ≡ get_or w i 0 → is_end (get_or w i 0) ≡ false
      → same (field x) w ≡ same (field_at x (i + 1)) (drop (i + 1) w)
  same_more h q e = h ∙ rw (field_cons x i k (ap is_end q ∙ e), add-one i, drop-cons w i 0) (rw (eq-eqb _ _ q))

-- at the end of the word, what ends the field decides
pub same_all : (x w : Bytes) (i : ℕ) → same (field x) w ≡ same (field_at x i) (drop i w) → length w ≤ i → same (field x) w ≡ same (field_at x i) []
same_all x w i h l = h ∙ ap (same (field_at x i)) (drop_of_length-le w l)

pub same_stop : (x : Bytes) (i : ℕ) → length x ≤ i → same (field_at x i) [] ≡ true
unfolding field
same_stop x i l = rw (drop_of_length-le x l)

pub same_end : (x : Bytes) (i : ℕ) → i < length x → same (field_at x i) [] ≡ is_end (get_or x i 0)
same_end x i l = go (is_end (get_or x i 0)) refl
  where
    go : (t : Bool) → is_end (get_or x i 0) ≡ t → same (field_at x i) [] ≡ t
    go true e = ap (λ f. same f []) (field_end x i e)
    go false e = ap (λ f. same f []) (field_cons x i l e)

-- a word that is longer than the text is no field
pub same_short : (x w : Bytes) → length x < length w → false ≡ same (field x) w
same_short x w l = go (same (field x) w) refl
  where
    go : (t : Bool) → same (field x) w ≡ t → false ≡ t
    go true e = absurd (omega (arith, same_length (field x) w e, field_length x))
    go false e = refl

-- ---- the hash
pub hash_more : (h b : ℕ) (x : Bytes) → hash_from h (b ∷ x) ≡ hash_from (mix h b) x
unfolding hash_from
hash_more h b x = refl

pub hash_none : (h : ℕ) → hash_from h [] ≡ h
unfolding hash_from
hash_none h = refl
