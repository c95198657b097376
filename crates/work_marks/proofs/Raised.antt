-- A mark is raised: the number is written anew if the name is one and the mark is before the end, and else the buffer stays. One law
-- for the two marks, by the ways of the two tests.
use Rattle.std.proofs.Common.{ℕ, ◌≤◌, ◌<◌, arith, ◌≡◌, refl, Bool, true, false, cond, List, ltb, ltb-true, ltb-false}
use Rattle.work_rows.specs.Layout.{rows_most}

-- v is the buffer w with the mark m of the name a written as e
abbrev pub raise : List ℕ → List ℕ → ℕ → ℕ → ℕ → List ℕ
raise w v a m e = cond (ltb a rows_most) (cond (ltb m e) v w) w

module _ (w v : List ℕ) (a m e : ℕ) where
  -- what holds of the buffer where it stays, and where it is written
  pub raise_has : (P : List ℕ → Type 0) → ((a < rows_most → e ≤ m) → P w) → (a < rows_most → m < e → P v) → P (raise w v a m e)
  raise_has P stays writes = go (ltb a rows_most) (ltb m e) refl refl
    where
      go : (s t : Bool) → ltb a rows_most ≡ s → ltb m e ≡ t → P (cond s (cond t v w) w)
      go true true p q = writes (ltb-true a rows_most p) (ltb-true m e q)
      go true false p q = stays (λ _. ltb-false m e q)
      go false t p q = stays (λ l. absurd (omega (arith, ltb-false a rows_most p)))
