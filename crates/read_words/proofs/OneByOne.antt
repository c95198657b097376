-- What holds of each number within bounds holds of any: one by one.
use Rattle.std.proofs.Common.{◌≡◌, refl, sym, subst, Bool, true, false, ℕ, zero, suc, ◌+◌, ◌≤◌, ◌<◌, arith, eqb, eqb-true}
use Rattle.std.proofs.lemmas.Bool.{eqb-false}

-- what holds of each of n numbers, from one on
abbrev pub From : (ℕ → Type 0) → ℕ → ℕ → Type 0
From P i zero = Unit
From P i (suc n) = P i × From P (suc i) n

pub within : (P : ℕ → Type 0) (i n : ℕ) → From P i n → (k : ℕ) → i ≤ k → k < i + n → P k
within P i zero h k l m = absurd (omega arith)
within P i (suc n) h k l m = go (eqb k i) refl (λ d. within P (suc i) n h.1 k (omega arith) (omega arith))
  where
    go : (t : Bool) → eqb k i ≡ t → ((k ≡ i → ⊥) → P k) → P k
    go true e more = subst P (sym (eqb-true k i e)) h.0
    go false e more = more (eqb-false k i e)
