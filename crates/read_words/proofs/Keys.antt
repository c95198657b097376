-- What a `match` on a number tells in its last arm: that it is none of the keys.
use Rattle.std.proofs.Common.{◌≡◌, refl, sym, Bool, true, false, ◌||◌, true≢false, List, [], ◌∷◌, ℕ, eqb, eqb-true}
use Rattle.spec_text.specs.Bytes.{any}

abbrev pub among : List ℕ → ℕ → Bool
among ls m = any (λ (l : ℕ). eqb l m) ls

abbrev pub Unlike : List ℕ → ℕ → Type 0
Unlike [] k = Unit
Unlike (l ∷ ls) k = Unlike ls k × (k ≡ l → ⊥)

pub unlike : (ls : List ℕ) (k : ℕ) → Unlike ls k → among ls k ≡ true → ⊥
unlike [] k u h = true≢false (sym h)
unlike (l ∷ ls) k u h = go (eqb l k) refl h (unlike ls k u.0)
  where
    go : (t : Bool) → eqb l k ≡ t → (t || among ls k) ≡ true → (among ls k ≡ true → ⊥) → ⊥
    go true e h f = u.1 (sym (eqb-true l k e))
    go false e h f = f h
