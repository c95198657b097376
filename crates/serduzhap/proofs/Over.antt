-- What is written over an output buffer from its start: a message that fits.
use Rattle.std.proofs.Common.{ℕ, ◌≤◌, ◌<◌, arith, zero-add, ◌≡◌, refl, sym, ap, subst, [], length, take_all, lt-ltb, le-ltb}
use Rattle.std.proofs.Math.Nat.{sub-zero}
use Rattle.spec_text.specs.Bytes.{Bytes}
use Rattle.spec_answers.specs.Answers.{written, refused, Outcome, over, refusing, wrote_if}
use Rattle.write_bytes.specs.PushModel.{bytes_pushed}
use Rattle.serduzhap.specs.Calls.{Gives}

-- a message: it is longer than the output, or it is written over it
over_message : (m old : Bytes) → length m ≤ length old → bytes_pushed old 0 m ≡ over m old
unfolding bytes_pushed
over_message m old h = rw (sub-zero, take_all (length old) m h, zero-add)

module _ (m old : Bytes) {n : ℕ} (e : n ≡ length m) where
  pub too_long : length old < n → Gives (wrote_if (length old) m) old old (refused 18 [])
  too_long h =
      let q : wrote_if (length old) m ≡ refusing (refused 18 []) = rw (lt-ltb (length old) (length m) (omega arith), wrote_if) in
      subst (λ o. Gives o old old (refused 18 [])) (sym q) (refl, refl)

  pub fits : n ≤ length old → Gives (wrote_if (length old) m) old (bytes_pushed old 0 m) (written n)
  fits h =
      let whole : Outcome = record { answer = written (length m); writes = m } in
      let q : wrote_if (length old) m ≡ whole = rw (le-ltb (length old) (length m) (omega arith), wrote_if) in
      subst (λ o. Gives o old (bytes_pushed old 0 m) (written n)) (sym q) (ap written e, over_message m old (omega arith))
