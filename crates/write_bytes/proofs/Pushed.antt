-- Bytes that are pushed one part after the other are pushed at once; and what is copied is pushed.
use Rattle.std.proofs.Common.{ℕ, zero, suc, ◌+◌, ◌-◌, ◌≤◌, ◌<◌, ◌≡◌, min, List, [], ◌∷◌, ◌++◌, length, take, drop, set, get_or, refl, sym, ap, ◌∙◌, arith, append_assoc, zero-add, add-zero, length-append}
use Rattle.std.proofs.Math.Seq.{take-nil, take-append_seam, drop-append-add, drop-drop}
use Rattle.std.proofs.lemmas.List.{take_min, length-take, length-drop, take-append-drop}
use Rattle.std.proofs.lemmas.List.Edits.{paste_more}
use Rattle.write_bytes.specs.declared.Output.{Output}
use Rattle.write_bytes.specs.PushModel.{fitting, bytes_pushed, pushed_to, Pushes}
use Rattle.write_bytes.specs.OutputModel.{Pushed}

-- the first bytes of two lists
take_both : (k : ℕ) (a b : List ℕ) → take k (a ++ b) ≡ take k a ++ take (k - length a) b
take_both zero a b = let e : zero - length a ≡ 0 = omega arith in rw e
take_both (suc k) [] b = let e : suc k - 0 ≡ suc k = omega arith in rw e
take_both (suc k) (x ∷ a) b = let e : suc k - suc (length a) ≡ k - length a = omega arith in rw e (ap (λ l. x ∷ l) (take_both k a b))

-- those that fit, in number
fitting_length : (old : List ℕ) (at : ℕ) (new : List ℕ) → length (fitting old at new) ≡ min (length old - at) (length new)
fitting_length old at new = length-take (length old - at) new

-- ---- a push of nothing
push_none : (old : List ℕ) (at : ℕ) → at ≤ length old → Pushes old at [] old at
unfolding bytes_pushed pushed_to
push_none old at h =
    (rw (take-nil {A = ℕ} (length old - at), add-zero at) (sym (take-append-drop at old)), rw (take-nil {A = ℕ} (length old - at)) (sym (add-zero at)), h)

-- ---- one push after the other
module _ (old new more : List ℕ) (at : ℕ) (inside : at ≤ length old) where
  abbrev fit : List ℕ
  fit = fitting old at new

  abbrev front : List ℕ
  front = take at old ++ fit

  front_length : length front ≡ at + length fit
  front_length = omega (arith, length-append (take at old) fit, length-take at old)

  fits_both : fitting old at (new ++ more) ≡ fit ++ fitting old (at + length fit) more
  fits_both =
      let e : length old - at - length new ≡ length old - (at + length fit) = omega (arith, fitting_length old at new) in
      take_both (length old - at) new more ∙ rw e

  -- what is left of the buffer past its front
  abbrev filled : List ℕ
  filled = take at old ++ (fit ++ drop (at + length fit) old)

  filled_is : filled ≡ front ++ drop (length front) old
  filled_is = rw front_length (sym (append_assoc (take at old) fit (drop (at + length fit) old)))

  filled_length : length filled ≡ length old
  filled_length =
      ap length filled_is
      ∙ omega (arith, length-append front (drop (length front) old), length-drop (length front) old, front_length, fitting_length old at new)

  front_of : take (at + length fit) filled ≡ front
  front_of = ap (take (at + length fit)) filled_is ∙ rw (← front_length) (take-append_seam front (drop (length front) old))

  past : (n : ℕ) → drop (at + length fit + n) filled ≡ drop (at + length fit + n) old
  past n =
      ap (drop (at + length fit + n)) filled_is
      ∙ rw (← front_length) (drop-append-add front (drop (length front) old) n ∙ drop-drop n (length front) old)

  pushed_more : bytes_pushed (bytes_pushed old at new) (pushed_to old at new) more ≡ bytes_pushed old at (new ++ more)
  unfolding bytes_pushed pushed_to
  pushed_more =
      let rest : List ℕ = fitting old (at + length fit) more in
      let to : at + length fit + length rest ≡ at + (length fit + length rest) = omega arith in
      rw (filled_length, front_of, past (length rest), fits_both, length-append fit rest, append_assoc fit rest, ← to)
      (append_assoc (take at old) fit (rest ++ drop (at + length fit + length rest) old))

  to_more : pushed_to (bytes_pushed old at new) (pushed_to old at new) more ≡ pushed_to old at (new ++ more)
  unfolding bytes_pushed pushed_to
  to_more = rw (filled_length, fits_both, length-append fit (fitting old (at + length fit) more)) (omega arith)

push_more : (old : List ℕ) (at : ℕ) (new more : List ℕ) {mid out : List ℕ} {to end : ℕ}
    → at ≤ length old → Pushes old at new mid to → Pushes mid to more out end → Pushes old at (new ++ more) out end
push_more old at new more h p q =
    (q.0 ∙ rw (p.0, p.1) (pushed_more old new more at h), q.1 ∙ rw (p.0, p.1) (to_more old new more at h), q.2)

-- ---- a turn of a loop that copies
pub copied_more : (new part : List ℕ) (i : ℕ) → i < length part → i < length new
    → set (take i new ++ drop i part) i (get_or new i 0) ≡ take (i + 1) new ++ drop (i + 1) part
copied_more new part i p q =
    let at : 0 + i < length part = omega arith in
    let more : set (take i new ++ drop (0 + i) part) (0 + i) (get_or new i 0) ≡ take (i + 1) new ++ drop (0 + (i + 1)) part = paste_more part 0 new i 0 at q in
    simp zero-add at more

-- ---- a push by a copy: n bytes, as many as fit, are copied over those from `at` on
module _ (old new : List ℕ) (at n : ℕ) (inside : at ≤ length old) (fit : n ≡ min (length old - at) (length new)) where
  copied : take n new ≡ fitting old at new
  copied = rw fit (take_min (length old - at) new)

  many : n ≡ length (fitting old at new)
  many = fit ∙ sym (fitting_length old at new)

  pub push_copied : (k : ℕ) (ys : List ℕ) → k ≡ n → ys ≡ take n new → Pushes old at new (take at old ++ (ys ++ drop k (drop at old))) (at + n)
  unfolding bytes_pushed pushed_to
  push_copied k ys e q =
      let size : length ys ≡ n = ap length q ∙ omega (arith, length-take n new, fit) in (
        rw (e, q, copied, drop-drop n at old, many),
        ap (λ m. at + m) many,
        omega (arith, e, size, length-append (take at old) (ys ++ drop k (drop at old)), length-append ys (drop k (drop at old)), length-drop k (drop at old), length-drop at old, length-take at old, fit),
      )

-- ---- of an output
pub pushed_nothing : (o : Output) → Pushed o [] o
pushed_nothing o = record { pushes = push_none o.bytes.now o.len o.inside; same_buffer = refl }

pub pushed_then : {a b c : Output} {new more : List ℕ} → Pushed a new b → Pushed b more c → Pushed a (new ++ more) c
pushed_then {a} {new} {more} p q = record {
  pushes = push_more a.bytes.now a.len new more a.inside p.pushes q.pushes;
  same_buffer = q.same_buffer ∙ p.same_buffer;
}
