-- The earliest row that has a name: either some row is the first that has it, or no row has it. What follows for two rows' numbers,
-- and for a list with one name more.
use Rattle.std.proofs.Common.{ℕ, zero, suc, ◌+◌, ◌<◌, suc-le-suc, le_of_suc-le-suc, not-suc-le-zero, arith, ◌≡◌, refl, sym, ap, ◌∙◌, Bool, true, false, List, [], ◌∷◌, ◌++◌, ◌⊎◌, inl, inr, length, get_or, length-append}
use Rattle.std.proofs.Math.ListN.{get_or-append}
use Rattle.std.proofs.Math.Seq.{get_or-append_seam}
use Rattle.spec_text.specs.Bytes.{Bytes, same}
use Rattle.spec_text.proofs.Lists.{same_refl, same_eq, same_false, other_same}
use Rattle.work_rows.specs.Layout.{rows_most, number_at}
use Rattle.read_names.specs.Names.{earliest_from, earliest, Numbered}

-- ---- one name more
abbrev pub more : List Bytes → Bytes → List Bytes
more names x = names ++ (x ∷ [])

module _ (names : List Bytes) (x : Bytes) where
  pub more_old : (k : ℕ) → k < length names → get_or (more names x) k [] ≡ get_or names k []
  more_old k l = get_or-append names (x ∷ []) [] k l

  pub more_new : get_or (more names x) (length names) [] ≡ x
  more_new = get_or-append_seam names x [] []

  pub more_length : length (more names x) ≡ length names + 1
  more_length = length-append names (x ∷ [])

-- ---- row j is the first that has the name x
pub record First (names : List Bytes) (x : Bytes) (j : ℕ) : Type 0 where
  pub low : j < length names
  pub is : get_or names j [] ≡ x
  pub before : (k : ℕ) → k < j → get_or names k [] ≡ x → ⊥

abbrev pub Absent : List Bytes → Bytes → Type 0
Absent names x = (k : ℕ) → k < length names → get_or names k [] ≡ x → ⊥

pub sought : (names : List Bytes) (x : Bytes) → ((j : ℕ) × First names x j) ⊎ Absent names x
sought [] x = inr (λ k l. absurd (not-suc-le-zero l))
sought (y ∷ names) x = go (same y x) refl (sought names x)
  where
    past : (j : ℕ) → (y ≡ x → ⊥) → ((k : ℕ) → k < j → get_or names k [] ≡ x → ⊥) → (k : ℕ) → k < suc j → get_or (y ∷ names) k [] ≡ x → ⊥
    past j d b zero l e = d e
    past j d b (suc k) l e = b k (le_of_suc-le-suc l) e

    go : (t : Bool) → same y x ≡ t → ((j : ℕ) × First names x j) ⊎ Absent names x → ((j : ℕ) × First (y ∷ names) x j) ⊎ Absent (y ∷ names) x
    go true e s = inl (0, record { low = omega arith; is = same_eq y x e; before = λ k l. absurd (not-suc-le-zero l) })
    go false e (inl (j, f)) = inl (suc j, record { low = suc-le-suc f.low; is = f.is; before = past j (same_false y x e) f.before })
    go false e (inr a) = inr (past (length names) (same_false y x e) a)

from_first : (i : ℕ) (names : List Bytes) (x : Bytes) (j : ℕ) → First names x j → earliest_from i names x ≡ i + j
from_first i [] x j f = absurd (not-suc-le-zero f.low)
from_first i (y ∷ names) x zero f =
    let e : same y x ≡ true = ap (λ z. same z x) f.is ∙ same_refl x in
    ap (λ t. elim t [ true ↦ i | false ↦ earliest_from (suc i) names x ]) e ∙ omega arith
from_first i (y ∷ names) x (suc j) f =
    let e : same y x ≡ false = other_same y x (f.before 0 (omega arith)) in
    let g : First names x j = record { low = le_of_suc-le-suc f.low; is = f.is; before = λ k l. f.before (suc k) (suc-le-suc l) } in
    ap (λ t. elim t [ true ↦ i | false ↦ earliest_from (suc i) names x ]) e ∙ (from_first (suc i) names x j g ∙ omega arith)

from_absent : (i : ℕ) (names : List Bytes) (x : Bytes) → Absent names x → earliest_from i names x ≡ rows_most
from_absent i [] x a = refl
from_absent i (y ∷ names) x a =
    let e : same y x ≡ false = other_same y x (a 0 (omega arith)) in
    ap (λ t. elim t [ true ↦ i | false ↦ earliest_from (suc i) names x ]) e ∙ from_absent (suc i) names x (λ k l. a (suc k) (suc-le-suc l))

pub earliest_first : {names : List Bytes} {x : Bytes} {j : ℕ} → First names x j → earliest names x ≡ j
earliest_first {names} {x} {j} f = from_first 0 names x j f ∙ omega arith

pub earliest_absent : (names : List Bytes) (x : Bytes) → Absent names x → earliest names x ≡ rows_most
earliest_absent names x a = from_absent 0 names x a

-- a row's name has a first row
first_of : (names : List Bytes) (i : ℕ) → i < length names → (j : ℕ) × First names (get_or names i []) j
first_of names i l = go (sought names (get_or names i []))
  where
    go : ((j : ℕ) × First names (get_or names i []) j) ⊎ Absent names (get_or names i []) → (j : ℕ) × First names (get_or names i []) j
    go (inl f) = f
    go (inr a) = absurd (a i l refl)

-- one name more leaves the first rows, and is a first row if it is absent
module _ (names : List Bytes) (x : Bytes) where
  pub first_more : (y : Bytes) (j : ℕ) → First names y j → First (more names x) y j
  first_more y j f = record {
    low = omega (arith, f.low, more_length names x);
    is = more_old names x j f.low ∙ f.is;
    before = λ k l e. f.before k l (sym (more_old names x k (omega (arith, f.low))) ∙ e);
  }

  pub first_new : Absent names x → First (more names x) x (length names)
  first_new a = record {
    low = omega (arith, more_length names x);
    is = more_new names x;
    before = λ k l e. a k l (sym (more_old names x k l) ∙ e);
  }

  pub earliest_more : (i : ℕ) → i < length names → earliest (more names x) (get_or names i []) ≡ earliest names (get_or names i [])
  earliest_more i l = let f = first_of names i l in earliest_first (first_more (get_or names i []) f.0 f.1) ∙ sym (earliest_first f.1)

-- ---- two rows have one number exactly when they have one name
module _ {names : List Bytes} {w : List ℕ} (s : Numbered names w) (i j : ℕ) (il : i < length names) (jl : j < length names)
    (ie : get_or names i [] ≡ [] → ⊥) (je : get_or names j [] ≡ [] → ⊥) where
  pub number_name : get_or names i [] ≡ get_or names j [] → number_at w i ≡ number_at w j
  number_name e = s.number i il ie ∙ (ap (earliest names) e ∙ sym (s.number j jl je))

  pub name_number : number_at w i ≡ number_at w j → get_or names i [] ≡ get_or names j []
  name_number e =
      let f = first_of names i il in
      let g = first_of names j jl in
      let p : f.0 ≡ g.0 = sym (earliest_first f.1) ∙ (sym (s.number i il ie) ∙ (e ∙ (s.number j jl je ∙ earliest_first g.1))) in
      sym f.1.is ∙ (ap (λ k. get_or names k []) p ∙ g.1.is)
