-- Laws of lists, of tests and of bytes that the theorems share.
use Rattle.std.proofs.Common.{ℕ, zero, suc, ◌<◌, arith, ◌≡◌, refl, sym, ap, ap₂, ◌∙◌, Bool, true, false, true≢false, List, [], ◌∷◌, length, drop, get_or, drop-cons, eqb, eqb-true, eq-eqb, ne_eqb}
use Rattle.std.proofs.lemmas.Bool.{false≢true, eqb-false}
use Rattle.std.proofs.lemmas.List.Sums.{AllPass-from_list_all}
use Rattle.std.proofs.Math.Option.{some}
use Rattle.std.proofs.Math.ListN.{get_elem?}
use Rattle.std.proofs.Math.Seq.{drop-nil}
use Rattle.spec_text.specs.Bytes.{Bytes, same, all}
pub use Rattle.std.proofs.lemmas.Bool.{and_parts as and_split}

pub eqb_sym : (m n : ℕ) → eqb m n ≡ eqb n m
eqb_sym m n = go (eqb m n) refl
  where
    go : (b : Bool) → eqb m n ≡ b → b ≡ eqb n m
    go true e = sym (eq-eqb n m (sym (eqb-true m n e)))
    go false e = sym (ne_eqb n m (λ q. eqb-false m n e (sym q)))

-- ---- the same bytes
pub same_refl : (x : Bytes) → same x x ≡ true
same_refl [] = refl
same_refl (a ∷ x) = rw (eq-eqb a a refl) (same_refl x)

pub same_eq : (x y : Bytes) → same x y ≡ true → x ≡ y
same_eq [] [] e = refl
same_eq [] (b ∷ y) e = absurd (false≢true e)
same_eq (a ∷ x) [] e = absurd (false≢true e)
same_eq (a ∷ x) (b ∷ y) e = let s : (eqb a b ≡ true) × (same x y ≡ true) = and_split (eqb a b) (same x y) e in ap₂ ◌∷◌ (eqb-true a b s.0) (same_eq x y s.1)

pub same_false : (x y : Bytes) → same x y ≡ false → x ≡ y → ⊥
same_false x y h e = true≢false (sym (same_refl x) ∙ (ap (same x) e ∙ h))

pub other_same : (x y : Bytes) → (x ≡ y → ⊥) → same x y ≡ false
other_same x y d = go (same x y) refl
  where
    go : (t : Bool) → same x y ≡ t → t ≡ false
    go true e = absurd (d (same_eq x y e))
    go false e = refl

-- ---- each element of a list
pub data All {A : Type 0} (P : A → Type 0) : List A → Type 0 where
  all_nil : All P []
  all_cons : {a : A} {l : List A} → P a → All P l → All P (a ∷ l)

module _ {A : Type 0} {P : A → Type 0} where
  pub all_at : {l : List A} → All P l → (i : ℕ) (d : A) → i < length l → P (get_or l i d)
  all_at all_nil i d h = absurd (omega arith)
  all_at (all_cons p a) zero d h = p
  all_at (all_cons p a) (suc i) d h = all_at a i d (omega arith)

  pub all_drop : {l : List A} → All P l → (i : ℕ) → All P (drop i l)
  all_drop a zero = a
  all_drop all_nil (suc i) = all_nil
  all_drop (all_cons {l = t} p a) (suc i) = all_drop {l = t} a i

  -- a test that is true of all of them
  pub all_and : {l : List A} (p : A → Bool) → All P l → all p l ≡ true → All (λ (a : A). P a × (p a ≡ true)) l
  all_and p all_nil e = all_nil
  all_and p (all_cons {a} {l} h r) e = let s : (p a ≡ true) × (all p l ≡ true) = and_split (p a) (all p l) e in all_cons (h, s.0) (all_and p r s.1)

pub test_at : {A : Type 0} (p : A → Bool) (l : List A) (i : ℕ) (d : A) → all p l ≡ true → i < length l → p (get_or l i d) ≡ true
test_at p l i d e h = AllPass-from_list_all p l e i d h

pub test_of : {A : Type 0} (p : A → Bool) (l : List A) (i : ℕ) (a : A) → all p l ≡ true → get_elem? l i ≡ some a → p a ≡ true
test_of p [] i a e h = absurd cc
test_of p (b ∷ l) zero a e h = let k : b ≡ a = cc in rw k at (and_split (p b) (all p l) e).0
test_of p (b ∷ l) (suc i) a e h = test_of p l i a (and_split (p b) (all p l) e).1 h

-- ---- the n-th element and what follows it
pub next_of : {A : Type 0} (l : List A) (n : ℕ) (a : A) (m : List A) → drop n l ≡ a ∷ m → (get_elem? l n ≡ some a) × (drop (suc n) l ≡ m) × (n < length l)
next_of [] n a m e = absurd (omega (arith, ap length (sym (drop-nil n) ∙ e)))
next_of (b ∷ l) zero a m e = (cc, cc, omega arith)
next_of (b ∷ l) (suc n) a m e = let k = next_of l n a m e in (k.0, k.1, omega arith)

pub at_next : {A : Type 0} (l : List A) (n : ℕ) (a : A) (m : List A) (d : A) → drop n l ≡ a ∷ m → get_or l n d ≡ a
at_next l n a m d e = cc (drop-cons l n d (next_of l n a m e).2)
