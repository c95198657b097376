-- The digits of a number: none, or those of a tenth and one more.
use Rattle.std.proofs.Common.{ℕ, suc, ◌+◌, ◌-◌, ◌/◌, ◌%◌, ◌≤◌, ◌≡◌, [], ◌∷◌, ◌++◌, ap, ◌∙◌, arith, le-ltb}
use Rattle.spec_text.specs.Writing.{digits}

pub digits_none : (k n : ℕ) → k ≡ 0 → digits k n ≡ []
digits_none k n e = rw e

pub digits_more : (k n : ℕ) → (k ≡ 0 → ⊥) → 10 ≤ n → digits k n ≡ digits (k - 1) (n / 10) ++ ((48 + n % 10) ∷ [])
digits_more k n some h =
    let p : k ≡ suc (k - 1) = omega (arith, some) in
    ap (λ j. digits j n) p ∙ rw (le-ltb n 10 h, digits)
