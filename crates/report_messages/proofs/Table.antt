-- What a table of texts says: of a kind that it has, the words of its line; of any other, nothing.
use Rattle.std.proofs.Common.{ℕ, zero, suc, ◌+◌, ◌-◌, ◌≤◌, ◌<◌, arith, ◌≡◌, refl, sym, ap, subst, ◌∙◌, List, [], ◌++◌, ◌⊎◌, inl, inr, eq-eqb, ne_eqb}
use Rattle.spec_text.specs.Bytes.{Bytes}
use Rattle.spec_faults.specs.Faults.{Words, written, message_from, message}
use Rattle.read_fields.specs.FieldsModel.{field_at}
use Rattle.report_messages.specs.TextsModel.{past_field, next_words, words_start, words_at, table_from, Rule}

-- ---- the loop over the lines: a turn, and the end
pub start_more : (texts : Bytes) (n at b c d : ℕ) → 0 < n → b ≡ past_field texts at → c ≡ past_field texts b → d ≡ past_field texts c
    → words_start (n - 1) texts d ≡ words_start n texts at
unfolding words_start
start_more texts zero at b c d l p q r = absurd (omega arith)
start_more texts (suc n) at b c d l p q r =
    let e : suc n - 1 ≡ n = omega arith in
    rw (e, r, q, p)

pub start_end : (texts : Bytes) (n at : ℕ) → n ≤ 0 → words_start n texts at ≡ at
unfolding words_start
start_end texts zero at l = refl
start_end texts (suc n) at l = absurd (omega arith)

-- ---- what it says
module _ (texts x c : Bytes) where
  -- the j-th kind
  said : (n j k at : ℕ) → j < n → message_from (table_from n k texts at) (k + j) x c ≡ written (words_at k texts (words_start j texts at)) x c
  unfolding words_start
  said zero j k at l = absurd (omega arith)
  said (suc n) zero k at l = rw (eq-eqb (k + 0) k (omega arith), message_from)
  said (suc n) (suc j) k at l =
      let e : k + suc j ≡ suc k + j = omega arith in
      rw (ne_eqb (k + suc j) k (λ h. omega arith), message_from, e) (said n j (suc k) (next_words texts at) (omega arith))

  -- a kind outside
  unsaid : (n m k at : ℕ) → (m < k) ⊎ (k + n ≤ m) → message_from (table_from n k texts at) m x c ≡ []
  unsaid zero m k at h = refl
  unsaid (suc n) m k at (inl l) = rw (ne_eqb m k (λ h. omega arith), message_from) (unsaid n m (suc k) (next_words texts at) (inl (omega arith)))
  unsaid (suc n) m k at (inr l) = rw (ne_eqb m k (λ h. omega arith), message_from) (unsaid n m (suc k) (next_words texts at) (inr (omega arith)))

  module _ (rule : Rule texts) where
    by_table : (k : ℕ) → message k x c ≡ message_from (table_from 8 8 texts 0) k x c
    by_table k = ap (λ (ws : List Words). message_from ws k x c) (sym rule.table)

    pub message_at : (k : ℕ) → 8 ≤ k → k ≤ 15 → message k x c ≡ written (words_at k texts (words_start (k - 8) texts 0)) x c
    message_at k l m =
        let e : 8 + (k - 8) ≡ k = omega arith in
        by_table k ∙ subst (λ (i : ℕ). message_from (table_from 8 8 texts 0) i x c ≡ written (words_at 8 texts (words_start (k - 8) texts 0)) x c) e (said 8 (k - 8) 8 0 (omega arith))

    pub message_none : (k : ℕ) → (k < 8) ⊎ (15 < k) → message k x c ≡ []
    message_none k (inl l) = by_table k ∙ unsaid 8 k 8 0 (inl l)
    message_none k (inr l) = by_table k ∙ unsaid 8 k 8 0 (inr (omega arith))

    -- the words as they are found: where the line starts, where its second and third field start, and the three fields
    module _ (k : ℕ) (l : 8 ≤ k) (m : k ≤ 15) (i j o : ℕ) (f g h : Bytes)
        (first : i ≡ words_start (k - 8) texts 0) (second : j ≡ past_field texts i) (third : o ≡ past_field texts j)
        (before : f ≡ field_at texts i) (between : g ≡ field_at texts j) (after : h ≡ field_at texts o) where
      pub message_found : f ++ (x ++ (g ++ (c ++ h))) ≡ message k x c
      message_found = rw (before, between, after, third, second, first) (sym (message_at k l m))
