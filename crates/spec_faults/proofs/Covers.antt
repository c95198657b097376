-- A part of the text adds its own bindings, and only them: to what stands earlier from its first line on, and in the blocks whose lines it has.
-- Where two parts one after the other do so (`Covers`), each of them does.
use Rattle.std.proofs.Common.{ℕ, suc, ◌≤◌, ◌<◌, arith, ◌≡◌, sym, ap, ◌∙◌, ◌≢◌, Bool, ◌&&◌, ◌||◌, List, ◌++◌, eqb}
use Rattle.std.proofs.Math.Bool.{or_assoc, or-false}
use Rattle.spec_text.specs.Bytes.{any}
use Rattle.spec_faults.specs.Bindings.{Binding}
use Rattle.spec_faults.specs.Faults.{earlier}
use Rattle.spec_faults.proofs.Lists.{any_append}
use Rattle.spec_faults.proofs.Bound.{Range}
use Rattle.spec_faults.proofs.Earlier.{quiet, not_yet, all_there}

module _ (B : List Binding) where
  -- to what stands earlier, from line n to each line up to m
  abbrev pub Adds : ℕ → ℕ → List Binding → Type 0
  Adds n m D =
      (r : ℕ) → n ≤ r → r ≤ m → (f : Binding → Bool) → any (λ b. earlier r b && f b) B ≡ (any (λ b. earlier n b && f b) B || any (λ b. earlier r b && f b) D)

  -- in the blocks whose lines are from n up to m
  abbrev pub Owns : ℕ → ℕ → List Binding → Type 0
  Owns n m D = (k : ℕ) → n ≤ k → k < m → (f : Binding → Bool) → any (λ b. eqb k b.block && f b) B ≡ any (λ b. eqb k b.block && f b) D

  pub record Covers (n m : ℕ) (D : List Binding) : Type 0 where
    pub adds : Adds n m D
    pub owns : Owns n m D

  -- the blocks of one of two parts; k is no block of it
  pub owns_first : (k n i j m m' h : ℕ) (a c : List Binding) → ((t : ℕ) → i ≤ t → t < j → t ≢ k) → n ≤ i → j ≤ m → Range k j m' h c → Owns n m (a ++ c) → Owns i j a
  owns_first k n i j m m' h a c d p q r o t s u f =
      o t (omega arith) (omega arith) f ∙ any_append _ a c
      ∙ ap (λ z. any (λ b. eqb t b.block && f b) a || z) (quiet k j m' h t c (d t s u) (λ x y. omega arith) r f) ∙ or-false _

  pub owns_rest : (k n' n i j m h : ℕ) (a c : List Binding) → ((t : ℕ) → i ≤ t → t < j → t ≢ k) → n ≤ i → j ≤ m → Range k n' i h a → Owns n m (a ++ c) → Owns i j c
  owns_rest k n' n i j m h a c d p q r o t s u f =
      o t (omega arith) (omega arith) f ∙ any_append _ a c ∙ ap (λ z. z || any (λ b. eqb t b.block && f b) c) (quiet k n' i h t a (d t s u) (λ x y. omega arith) r f)

  pub owns_in : (n i j m : ℕ) (D : List Binding) → n ≤ i → j ≤ m → Owns n m D → Owns i j D
  owns_in n i j m D p q o t s u f = o t (omega arith) (omega arith) f

  adds_first : (k n i m m' h : ℕ) (a c : List Binding) → i ≤ m → Range k i m' h c → Adds n m (a ++ c) → Adds n i a
  adds_first k n i m m' h a c q rc o r s t f =
      o r s (omega arith) f
      ∙ ap (λ z. any (λ b. earlier n b && f b) B || z) (any_append _ a c ∙ ap (λ z. any (λ b. earlier r b && f b) a || z) (not_yet k i m' h r c (omega arith) rc f) ∙ or-false _)

  adds_rest : (k j n i m m' h : ℕ) (a c : List Binding) → n ≤ i → i ≤ m → Range k n i (suc i) a → Range j i m' h c → Adds n m (a ++ c) → Adds i m c
  adds_rest k j n i m m' h a c p q ra rc o r s t f =
      o r (omega arith) t f
      ∙ ap (λ z. any (λ b. earlier n b && f b) B || z) (any_append _ a c ∙ ap (λ z. z || any (λ b. earlier r b && f b) c) (all_there k n i (suc i) i r a (omega arith) s ra f))
      ∙ sym (or_assoc (any (λ b. earlier n b && f b) B) (any (λ b. earlier i b && f b) a) (any (λ b. earlier r b && f b) c))
      ∙ ap (λ z. z || any (λ b. earlier r b && f b) c) (sym (adds_first j n i m m' h a c q rc o i p (omega arith) f))

  -- two parts in the block k, the second from line i on
  module _ (k n i m : ℕ) (a c : List Binding) (l : k < n) (p : n ≤ i) (q : i ≤ m) (ra : Range k n i (suc i) a) (rc : Range k i m (suc m) c) (o : Covers n m (a ++ c)) where
    pub first : Covers n i a
    first =
        record {
          adds = adds_first k n i m m (suc m) a c q rc o.adds;
          owns = owns_first k n n i m m (suc m) a c (λ t x y e. omega arith) (omega arith) q rc o.owns;
        }

    pub rest : Covers i m c
    rest =
        record {
          adds = adds_rest k k n i m m (suc m) a c p q ra rc o.adds;
          owns = owns_rest k n n i m m (suc i) a c (λ t x y e. omega arith) p (omega arith) ra o.owns;
        }

  -- the body of a block n, after what is bound at its line
  pub body : (k n m m' h : ℕ) (a c : List Binding) → k < n → suc n ≤ m → Range k n (suc n) (suc (suc n)) a → Range n (suc n) m' h c → Covers n m (a ++ c) → Covers (suc n) m c
  body k n m m' h a c l p ra rc o =
      record {
        adds = adds_rest k n n (suc n) m m' h a c (omega arith) p ra rc o.adds;
        owns = owns_rest k n n (suc n) m m (suc (suc n)) a c (λ t x y e. omega arith) (omega arith) (omega arith) ra o.owns;
      }
