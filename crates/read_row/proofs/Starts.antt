-- Where the line starts that an offset is on: past the last LF before it. The bytes before the offset are those of the text, or all of it.
use Rattle.std.proofs.Common.{◌≡◌, refl, sym, ap, ◌∙◌, ℕ, zero, suc, ◌+◌, ◌≤◌, ◌<◌, arith, length, get_or, take, get_or-take, length-take-le, unwrap_or, Option, None, Some, MatchOption, Bor, ◌≢◌, eq-eqb, ne_eqb, ◌⊎◌, inl, inr, ⊎_elim}
use Rattle.std.proofs.lemmas.Bool.{cases_lt}
use Rattle.std.proofs.lemmas.List.{get_or_past}
use Rattle.spec_text.specs.Bytes.{Bytes}
use Rattle.read_row.specs.RowModel.{line_start}

last_at : (s : Bytes) (at i : ℕ) → i < at → get_or s i 0 ≡ 10 → ((k : ℕ) → i < k → k < at → get_or s k 0 ≡ 10 → ⊥) → line_start s at ≡ i + 1
unfolding line_start
last_at s zero i l e h = absurd (omega arith)
last_at s (suc n) i l e h = go (cases_lt i n) (λ m. last_at s n i m e (λ k a b. h k a (omega arith)))
  where
    go : (i < n) ⊎ (n ≤ i) → (i < n → line_start s n ≡ i + 1) → line_start s (suc n) ≡ i + 1
    go (inl m) f = rw (ne_eqb (get_or s n 0) 10 (h n m (omega arith))) (f m)
    go (inr m) f =
        let q : i ≡ n = omega arith in
        rw (eq-eqb (get_or s n 0) 10 (ap (λ k. get_or s k 0) (sym q) ∙ e)) (omega arith)

none_at : (s : Bytes) (at : ℕ) → ((k : ℕ) → k < at → get_or s k 0 ≡ 10 → ⊥) → line_start s at ≡ 0
unfolding line_start
none_at s zero h = refl
none_at s (suc n) h = rw (ne_eqb (get_or s n 0) 10 (h n (omega arith))) (none_at s n (λ k l. h k (omega arith)))

-- xs is the text s up to an offset, or all of it
pub record Front (s xs : Bytes) (at : ℕ) : Type 0 where
  pub short : length xs ≤ at
  pub same : (k : ℕ) → k < at → get_or xs k 0 ≡ get_or s k 0

pub front : (text before : Bor Bytes) (at : ℕ) (o : Option (Bor Bytes))
    → MatchOption o (length text.now < at) (λ x. (at ≤ length text.now) × (x.now ≡ take at text.now)) → before ≡ unwrap_or o text
    → Front text.now before.now at
front text before at None far e = record { short = omega (arith, ap (λ x. length x.now) e); same = λ k l. ap (λ t. get_or t.now k 0) e }
front text before at (Some x) h e = record {
  short = omega (arith, ap (λ x. length x.now) e, ap length h.1, length-take-le at text.now h.0);
  same = λ k l. ap (λ t. get_or t.now k 0) e ∙ ap (λ t. get_or t k 0) h.1 ∙ get_or-take at text.now k 0 l;
}

module _ {s xs : Bytes} {at : ℕ} (f : Front s xs at) where
  -- no byte past the end is an LF
  other : (k : ℕ) → k < at → (k < length xs → get_or xs k 0 ≡ 10 → ⊥) → get_or s k 0 ≡ 10 → ⊥
  other k l h e = ⊎_elim (λ a. h a (f.same k l ∙ e)) (λ a. let z : get_or xs k 0 ≡ 0 = get_or_past xs k 0 a in omega (arith, z, f.same k l, e)) (cases_lt k (length xs))

  pub start_last : (i : ℕ) → i < length xs → get_or xs i 0 ≡ 10 → ((k : ℕ) → i + 1 ≤ k → k < length xs → get_or xs k 0 ≢ 10) → i + 1 ≡ line_start s at
  start_last i l e h =
      let m : i < at = omega (arith, f.short) in
      sym (last_at s at i m (sym (f.same i m) ∙ e) (λ k a b. other k b (λ c. h k (omega arith) c)))

  pub start_none : ((k : ℕ) → k < length xs → get_or xs k 0 ≢ 10) → 0 ≡ line_start s at
  start_none h = sym (none_at s at (λ k l. other k l (h k)))
