-- Where lines start: one line end more is found from where the ones before it lead. By induction over the bytes.
use Rattle.std.proofs.Common.{ℕ, zero, suc, ◌+◌, arith, ◌≡◌, refl, ap, ◌∙◌, Bool, true, false, [], ◌∷◌, eqb, drop}
use Rattle.spec_text.specs.Bytes.{Bytes}
use Rattle.read_tree.specs.Laid.{skip}

-- n line ends lead past so many bytes, and the next one is looked for from there on
record Reaches (n o : ℕ) (bs : Bytes) : Type 0 where
  past : ℕ
  here : skip n o bs ≡ o + past
  next : skip (suc n) o bs ≡ skip 1 (o + past) (drop past bs)

-- with one byte more before them
reach_more : (n m o b : ℕ) (bs : Bytes) → skip m o (b ∷ bs) ≡ skip n (suc o) bs → skip (suc m) o (b ∷ bs) ≡ skip (suc n) (suc o) bs
    → Reaches n (suc o) bs → Reaches m o (b ∷ bs)
reach_more n m o b bs e f r =
    let k : suc o + r.past ≡ o + suc r.past = omega arith in
    record {
      past = suc r.past;
      here = e ∙ (r.here ∙ k);
      next = f ∙ (r.next ∙ ap (λ z. skip 1 z (drop r.past bs)) k);
    }

reach_byte : (n o b : ℕ) (bs : Bytes) → Reaches n (suc o) bs → Reaches (suc n) (suc o) bs → Reaches (suc n) o (b ∷ bs)
reach_byte n o b bs r s = go (eqb b 10) refl
  where
    go : (t : Bool) → eqb b 10 ≡ t → Reaches (suc n) o (b ∷ bs)
    go true e = reach_more n (suc n) o b bs (rw (e, skip)) (rw (e, skip)) r
    go false e = reach_more (suc n) (suc n) o b bs (rw (e, skip)) (rw (e, skip)) s

reaches : (n o : ℕ) (bs : Bytes) → Reaches n o bs
reaches zero o bs = record { past = 0; here = omega arith; next = ap (λ z. skip 1 z bs) (omega arith) }
reaches (suc n) o [] = record { past = 0; here = omega arith; next = omega arith }
reaches (suc n) o (b ∷ bs) = reach_byte n o b bs (reaches n (suc o) bs) (reaches (suc n) (suc o) bs)

-- ---- the line after the one that starts at an offset
pub skip_next : (n : ℕ) (bs : Bytes) (at : ℕ) → at ≡ skip n 0 bs → skip (suc n) 0 bs ≡ skip 1 at (drop at bs)
skip_next n bs at e =
    let r = reaches n 0 bs in
    let k : r.past ≡ at = omega (arith, r.here) in
    r.next ∙ ap (λ z. skip 1 z (drop r.past bs)) (omega arith) ∙ ap (λ z. skip 1 at (drop z bs)) k
