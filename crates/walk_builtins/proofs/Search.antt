-- The search for a name among the built-in names: the place of the first that has its bytes is its number.
use Rattle.std.proofs.Common.{ℕ, suc, ◌+◌, ◌≤◌, ◌<◌, ◌≡◌, refl, sym, ap, subst, Bool, true, false, cond, not, ◌&&◌, Option, Some, None, MatchOption, List, [], ◌∷◌, length, position, bytes_eq, eqb, ltb, arith, ltb-true, ltb-false}
use Rattle.std.specs.List.{position_or_len}
use Rattle.spec_text.specs.Bytes.{Bytes, same}
use Rattle.walk_builtins.specs.Table.{place_among, names, number_of}

pub same_bytes : (x y : Bytes) → bytes_eq x y ≡ same x y
same_bytes [] [] = refl
same_bytes [] (b ∷ y) = refl
same_bytes (a ∷ x) [] = refl
same_bytes (a ∷ x) (b ∷ y) = ap (λ t. eqb a b && t) (same_bytes x y)

module _ (x : Bytes) where
  place_few : (ys : List Bytes) → place_among x ys ≤ length ys
  place_few [] = omega arith
  place_few (y ∷ ys) = go (same x y) (place_few ys)
    where
      go : (t : Bool) → place_among x ys ≤ length ys → (elim t [ true ↦ 0 | false ↦ suc (place_among x ys) ]) ≤ suc (length ys)
      go true l = omega arith
      go false l = omega arith

  place_first : (ys : List Bytes) → position_or_len (same x) ys ≡ place_among x ys
  place_first [] = refl
  place_first (y ∷ ys) = go (same x y) (place_first ys)
    where
      go : (t : Bool) → position_or_len (same x) ys ≡ place_among x ys → cond (not t) (1 + position_or_len (same x) ys) 0 ≡ elim t [ true ↦ 0 | false ↦ suc (place_among x ys) ]
      go true e = refl
      go false e = omega arith

  found : (n : ℕ) (r : Option ℕ) (t : Bool) → n ≤ 13 → ltb n 13 ≡ t → r ≡ cond t (Some n) None → MatchOption r (n ≡ 13) (λ k. (n ≡ k) × (k < 13))
  found n r true l e q = subst (λ s. MatchOption s (n ≡ 13) (λ k. (n ≡ k) × (k < 13))) (sym q) (refl, ltb-true n 13 e)
  found n r false l e q = subst (λ s. MatchOption s (n ≡ 13) (λ k. (n ≡ k) × (k < 13))) (sym q) (omega (arith, ltb-false n 13 e))

  pub number_found : (r : Option ℕ) → r ≡ position (same x) names → MatchOption r (number_of x ≡ 13) (λ k. (number_of x ≡ k) × (k < 13))
  number_found r q = found (number_of x) r (ltb (number_of x) 13) (place_few names) refl (rw (← place_first names) q)
