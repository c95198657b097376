-- What a step takes and what it refuses: the tests of `takes`, `is_number` and `is_name` as records. A step whose field fails one of them
-- finds nothing (`no_number`, `no_name`); one whose run is the whole field takes it (`number_taken`, `name_taken`).
use Rattle.std.proofs.Common.{◌≡◌, refl, sym, ap, ap₂, ◌∙◌, Bool, true, false, cond, not, ◌&&◌, true≢false, [], ◌∷◌, ℕ, ◌+◌, ◌-◌, ◌*◌, ◌≤◌, ◌<◌, arith, eqb, ltb, length, get_or, drop, get_or-drop, leb-true, le-leb, ltb-true, lt-ltb, eq-eqb, ne_eqb, ⊎_elim, Option, Some, None}
use Rattle.std.proofs.lemmas.Option.{cond_some}
use Rattle.std.proofs.lemmas.Bool.{cases_lt}
use Rattle.std.proofs.lemmas.Bool.{not-true}
use Rattle.spec_text.specs.Bytes.{Bytes, same, all, is_digit, is_name_byte, is_name, is_number, decimal, value_of, leading_zero, longest_name}
use Rattle.spec_text.proofs.Lists.{and_split}
use Rattle.read_fields.specs.FieldsModel.{field, field_at, end_of, end_byte, past, past_byte, past_end, next_at, takes, field_from, number_from, name_from, hash_of, hash_from}
use Rattle.read_bytes.specs.BytesModel.{is_end}
use Rattle.read_fields.specs.declared.Cursor.{Cursor}
use Rattle.read_fields.specs.declared.Number.{Number}
use Rattle.read_fields.specs.declared.Name.{Name}
use Rattle.read_fields.proofs.Fields.{clash, digits, hash_none, field_first, field_more, Run, Whole, run_whole, run_stop}

-- ---- a step takes a field
pub record Taken (p : Bytes → Bool) (s : Bytes) (c : Cursor) : Type 0 where
  pub more : c.more ≡ true
  pub right : p (field_at s c.at) ≡ true
  pub ended : is_end (end_byte s c.at) ≡ true

pub takes_facts : (p : Bytes → Bool) (s : Bytes) (c : Cursor) → takes p s c ≡ true → Taken p s c
takes_facts p s c e =
    let a = and_split c.more _ e in
    let b = and_split (p (field_at s c.at)) _ a.1 in
    record { more = a.0; right = b.0; ended = b.1 }

pub facts_take : (p : Bytes → Bool) (s : Bytes) (c : Cursor) → Taken p s c → takes p s c ≡ true
facts_take p s c t = ap₂ ◌&&◌ t.more (ap₂ ◌&&◌ t.right t.ended)

module _ {A : Type 0} (p : Bytes → Bool) (s : Bytes) (c : Cursor) (x : A) where
  taken : Taken p s c → Some x ≡ cond (takes p s c) (Some x) None
  taken t = ap (λ q. cond q (Some x) None) (sym (facts_take p s c t))

  refuse : (Taken p s c → ⊥) → None ≡ cond (takes p s c) (Some x) None
  refuse h = go (takes p s c) refl
    where
      go : (t : Bool) → takes p s c ≡ t → None ≡ cond t (Some x) None
      go false e = refl
      go true e = absurd (h (takes_facts p s c e))

-- ---- words
-- where the field is the word, the byte that ends it decides
pub field_taken : (w s : Bytes) (c : Cursor) → c.more ≡ true → same (field_at s c.at) w ≡ true → past_end s (end_of s c.at) ≡ field_from w s c
field_taken w s c m e = ap (λ q. cond q (Some (past s c.at)) None) (sym (ap₂ ◌&&◌ m (ap (λ q. q && is_end (end_byte s c.at)) e)))

-- ---- a number and a name as records
record IsNumber (largest : ℕ) (x : Bytes) : Type 0 where
  pub some : 0 < length x
  pub each : all is_digit x ≡ true
  pub led : leading_zero x ≡ false
  pub small : value_of x ≤ largest

number_is : (largest : ℕ) (x : Bytes) → is_number largest x ≡ true → IsNumber largest x
number_is largest x e =
    let a = and_split (ltb 0 (length x)) _ e in
    let b = and_split (all is_digit x) _ a.1 in
    let d = and_split (not (leading_zero x)) _ b.1 in
    record { some = ltb-true _ _ a.0; each = b.0; led = not-true _ d.0; small = leb-true _ _ d.1 }

is_number_lem : (largest : ℕ) (x : Bytes) → IsNumber largest x → is_number largest x ≡ true
is_number_lem largest x k = ap₂ ◌&&◌ (lt-ltb _ _ k.some) (ap₂ ◌&&◌ k.each (ap₂ ◌&&◌ (ap not k.led) (le-leb _ _ k.small)))

record IsName (x : Bytes) : Type 0 where
  pub some : 0 < length x
  pub first : is_digit (get_or x 0 0) ≡ false
  pub each : all is_name_byte x ≡ true
  pub short : length x ≤ longest_name

is_name_lem : (x : Bytes) → IsName x → is_name x ≡ true
is_name_lem [] n = absurd (omega arith)
is_name_lem (b ∷ x) n = ap₂ ◌&&◌ (ap not n.first) (ap₂ ◌&&◌ n.each (le-leb _ _ n.short))

name_is : (x : Bytes) → is_name x ≡ true → IsName x
name_is [] e = absurd (true≢false (sym e))
name_is (b ∷ x) e =
    let a = and_split (not (is_digit b)) _ e in
    let d = and_split (all is_name_byte (b ∷ x)) _ a.1 in
    record { some = omega arith; first = not-true _ a.0; each = d.0; short = leb-true _ _ d.1 }

-- a leading zero: two bytes or more, the first of them '0'
led_by : (x : Bytes) → 1 < length (field x) → leading_zero (field x) ≡ eqb (get_or x 0 0) 48
led_by x l = go (field x) l ∙ ap (λ (b : ℕ). eqb b 48) (field_first x 0 (omega arith))
  where
    go : (x : Bytes) → 1 < length x → leading_zero x ≡ eqb (get_or x 0 0) 48
    go [] l = absurd (omega arith)
    go (b ∷ []) l = absurd (omega arith)
    go (b ∷ d ∷ x) l = refl

led_one : (x : Bytes) → length x ≤ 1 → leading_zero x ≡ false
led_one [] l = refl
led_one (b ∷ []) l = refl
led_one (b ∷ d ∷ x) l = absurd (omega arith)

-- more digits write no smaller number
decimal_grows : (v : ℕ) (x : Bytes) → v ≤ decimal v x
decimal_grows v [] = omega arith
decimal_grows v (b ∷ x) = omega (arith, decimal_grows (10 * v + (b - 48)) x)

-- ---- the text x from the cursor on, where a run of bytes stopped
module _ (s x : Bytes) (c : Cursor) (e : x ≡ drop c.at s) where
  field_here : field x ≡ field_at s c.at
  field_here = ap field e

  end_here : is_end (get_or x (length (field x)) 0) ≡ is_end (end_byte s c.at)
  end_here = rw e (ap is_end (get_or-drop c.at s (length (field_at s c.at)) 0))

  -- the byte at i of x ends the field, or does not
  byte_from : (i : ℕ) → get_or x i 0 ≡ get_or s (c.at + i) 0
  byte_from i = rw e (get_or-drop c.at s i 0)

  ends : (i : ℕ) (n : Cursor) → past_byte (get_or x i 0) (c.at + i) ≡ Some n → is_end (get_or x i 0) ≡ true
  ends i n h = (cond_some _ _ _ h).0

  goes_on : (i : ℕ) → past_byte (get_or x i 0) (c.at + i) ≡ None → is_end (get_or x i 0) ≡ false
  goes_on i h = go (is_end (get_or x i 0)) h
    where
      go : (t : Bool) → cond {A = Option Cursor} t (Some (record { at = c.at + i + 1; more = eqb (get_or x i 0) 9 })) None ≡ None → t ≡ false
      go true h = absurd cc
      go false h = refl

  steps : (i : ℕ) (n : Cursor) → length (field x) ≡ i → past_byte (get_or x i 0) (c.at + i) ≡ Some n → n ≡ past s c.at
  steps i n l h =
      let b : get_or x i 0 ≡ get_or s (c.at + i) 0 = byte_from i in
      let k : record { at = c.at + i + 1; more = eqb (get_or x i 0) 9 } ≡ next_at s (c.at + i) =
      ap (λ (m : Bool). record { at = c.at + i + 1; more = m }) (ap (λ (y : ℕ). eqb y 9) b) in
      sym (cond_some _ _ _ h).1 ∙ (k ∙ ap (λ (j : ℕ). next_at s (c.at + j)) (sym l ∙ ap length field_here))

  -- no tab or LF ends the field
  broken : (p : ℕ → Bool) (i : ℕ) → Run p x i → p (get_or x i 0) ≡ false → is_end (get_or x i 0) ≡ false → all p (field x) ≡ true
      → is_end (get_or x (length (field x)) 0) ≡ true → ⊥
  broken p i r h n a d = clash d (ap (λ (j : ℕ). is_end (get_or x j 0)) (run_stop r h a) ∙ n)

  -- ---- numbers
  module _ (largest : ℕ) where
    no_number : (IsNumber largest (field x) → is_end (get_or x (length (field x)) 0) ≡ true → ⊥) → None ≡ number_from largest s c
    no_number h =
        refuse (is_number largest) s c (record { value = value_of (field_at s c.at); next = past s c.at })
        (λ t. h (rw e (number_is _ _ t.right)) (end_here ∙ t.ended))

    pub number_empty : (i : ℕ) → Run is_digit x i → is_digit (get_or x i 0) ≡ false → i ≡ 0 → None ≡ number_from largest s c
    number_empty i r h z = no_number (λ k d. omega (arith, run_stop r h k.each, k.some))

    pub number_led : (i : ℕ) → Run is_digit x i → is_digit (get_or x i 0) ≡ false → 1 < i → get_or x 0 0 ≡ 48 → None ≡ number_from largest s c
    number_led i r h l z = no_number (λ k d. clash (led_by x (omega (arith, run_stop r h k.each)) ∙ eq-eqb _ 48 z) k.led)

    pub number_broken : (i : ℕ) → Run is_digit x i → is_digit (get_or x i 0) ≡ false → past_byte (get_or x i 0) (c.at + i) ≡ None → None ≡ number_from largest s c
    number_broken i r h n = no_number (λ k d. broken is_digit i r h (goes_on i n) k.each d)

    pub number_above : (i v : ℕ) → Run is_digit x i → decimal 0 (field x) ≡ decimal v (field_at x i) → is_digit (get_or x i 0) ≡ true
        → largest < v * 10 + (get_or x i 0 - 48) → None ≡ number_from largest s c
    number_above i v r q h l =
        let more = q ∙ ap (decimal v) (field_more digits x i h) in
        no_number (λ k d. omega (arith, more, k.small, decimal_grows (10 * v + (get_or x i 0 - 48)) (field_at x (i + 1))))

    pub number_taken : (i v : ℕ) (n : Cursor) → c.more ≡ true → Run is_digit x i → decimal 0 (field x) ≡ decimal v (field_at x i) → v ≤ largest
        → (i ≡ 0 → ⊥) → (1 < i → get_or x 0 0 ≡ 48 → ⊥) → past_byte (get_or x i 0) (c.at + i) ≡ Some n
        → ◌≡◌ {A = Option Number} (Some (record { value = v; next = n })) (number_from largest s c)
    number_taken i v n m r q l z led h =
        let d : is_end (get_or x i 0) ≡ true = ends i n h in
        let w : Whole is_digit x i = run_whole r d in
        let one : i ≤ 1 → leading_zero (field x) ≡ false = λ a. led_one (field x) (omega (arith, w.len)) in
        let two : 1 < i → leading_zero (field x) ≡ false = λ a. led_by x (omega (arith, w.len)) ∙ ne_eqb _ 48 (led a) in
        let o : leading_zero (field x) ≡ false = ⊎_elim two one (cases_lt 1 i) in
        let k : IsNumber largest (field x) =
        record { some = omega (arith, w.len); each = w.each; led = o; small = omega (arith, q ∙ ap (decimal v) w.rest) } in
        let a : v ≡ value_of (field_at s c.at) = sym (ap (decimal v) w.rest) ∙ (sym q ∙ ap (decimal 0) field_here) in
        let t : Taken (is_number largest) s c =
        record {
          more = m;
          right = ap (is_number largest) (sym field_here) ∙ is_number_lem largest (field x) k;
          ended = sym end_here ∙ (ap (λ (j : ℕ). is_end (get_or x j 0)) w.len ∙ d);
        } in
        let b : n ≡ past s c.at = steps i n w.len h in
        cc (taken {A = Number} (is_number largest) s c (record { value = value_of (field_at s c.at); next = past s c.at }) t)

  -- ---- names
  no_name : (IsName (field x) → is_end (get_or x (length (field x)) 0) ≡ true → ⊥) → None ≡ name_from s c
  no_name h =
      refuse is_name s c (record { part = record { offset = c.at; len = length (field_at s c.at) }; hash = hash_of (field_at s c.at); next = past s c.at })
      (λ t. h (rw e (name_is _ t.right)) (end_here ∙ t.ended))

  pub name_empty : (i : ℕ) → Run is_name_byte x i → is_name_byte (get_or x i 0) ≡ false → i ≡ 0 → None ≡ name_from s c
  name_empty i r h z = no_name (λ k d. omega (arith, run_stop r h k.each, k.some))

  pub name_long : (i : ℕ) → Run is_name_byte x i → is_name_byte (get_or x i 0) ≡ false → longest_name < i → None ≡ name_from s c
  name_long i r h l = no_name (λ k d. omega (arith, run_stop r h k.each, k.short))

  pub name_digit : is_digit (get_or x 0 0) ≡ true → None ≡ name_from s c
  name_digit h = no_name (λ k d. clash h (sym (ap is_digit (field_first x 0 k.some)) ∙ k.first))

  pub name_broken : (i : ℕ) → Run is_name_byte x i → is_name_byte (get_or x i 0) ≡ false → past_byte (get_or x i 0) (c.at + i) ≡ None → None ≡ name_from s c
  name_broken i r h n = no_name (λ k d. broken is_name_byte i r h (goes_on i n) k.each d)

  pub name_taken : (i h : ℕ) (n : Cursor) → c.more ≡ true → Run is_name_byte x i → hash_from 0 (field x) ≡ hash_from h (field_at x i)
      → (i ≡ 0 → ⊥) → i ≤ longest_name → is_digit (get_or x 0 0) ≡ false → past_byte (get_or x i 0) (c.at + i) ≡ Some n
      → ◌≡◌ {A = Option Name} (Some (record { part = record { offset = c.at; len = i }; hash = h; next = n })) (name_from s c)
  name_taken i h n m r q z l f g =
      let d : is_end (get_or x i 0) ≡ true = ends i n g in
      let w : Whole is_name_byte x i = run_whole r d in
      let some : 0 < length (field x) = omega (arith, w.len) in
      let k : IsName (field x) =
      record { some = some; first = ap is_digit (field_first x 0 some) ∙ f; each = w.each; short = omega (arith, w.len) } in
      let a : h ≡ hash_of (field_at s c.at) = sym (ap (hash_from h) w.rest ∙ hash_none h) ∙ (sym q ∙ ap (hash_from 0) field_here) in
      let j : i ≡ length (field_at s c.at) = sym w.len ∙ ap length field_here in
      let t : Taken is_name s c =
      record {
        more = m;
        right = ap is_name (sym field_here) ∙ is_name_lem (field x) k;
        ended = sym end_here ∙ (ap (λ (j : ℕ). is_end (get_or x j 0)) w.len ∙ d);
      } in
      let b : n ≡ past s c.at = steps i n w.len g in
      cc (taken {A = Name} is_name s c (record { part = record { offset = c.at; len = length (field_at s c.at) }; hash = hash_of (field_at s c.at); next = past s c.at }) t)
