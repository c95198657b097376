-- Of a text that is longer than the buffer for it the same is printed as of what stands in the buffer: it is too long.
use Rattle.std.proofs.Common.{◌≡◌, ℕ, ◌<◌, Bool, true, false, List, [], ◌++◌, length, None, Some, IfSome, refl, sym, ap, ◌∙◌, subst, arith, append-nil, ltb, ltb-true, ltb-false, lt-ltb}
use Rattle.std.proofs.lemmas.List.{length-append}
use Rattle.std.specs.declared.option.Option.{Option}
use Rattle.std.specs.Io.KnownBytes.{Appends, Consumes, IsAtEnd}
use Rattle.spec_text.specs.Bytes.{Bytes}
use Rattle.spec_text.specs.Reading.{reading}
use Rattle.spec_answers.specs.Printed.{printed, refused_line}

too_long : (text : Bytes) → 65_536 < length text → printed text ≡ refused_line 1 0
too_long text h = rw (lt-ltb 65_536 (length text) h, printed, reading) refl

same_printed : (bs ys : Bytes) → (length bs < 65_537 → ys ≡ []) → printed bs ≡ printed (bs ++ ys)
same_printed bs ys h = by (ltb (length bs) 65_537) refl
  where
    by : (t : Bool) → ltb (length bs) 65_537 ≡ t → printed bs ≡ printed (bs ++ ys)
    by true e = ap printed (sym (ap (λ l. bs ++ l) (h (ltb-true (length bs) 65_537 e)) ∙ append-nil bs))
    by false e =
        let long : 65_536 < length bs = omega (arith, ltb-false (length bs) 65_537 e) in
        let longer : 65_536 < length (bs ++ ys) = rw (length-append bs ys) (omega (arith, long)) in
        too_long bs long ∙ sym (too_long (bs ++ ys) longer)

-- what is printed of the bytes that were read is printed of all that the reader had
pub whole : (a b x y : Option (List ℕ)) (bs out : Bytes) → Consumes a b bs → (length bs < 65_537 → IsAtEnd b) → out ≡ printed bs → Appends x y out
    → IfSome a (λ text. Appends x y (printed text))
whole None b x y bs out c e o p = tt
whole (Some text) None x y bs out c e o p = absurd c
whole (Some text) (Some ys) x y bs out c e o p =
    subst (Appends x y) (o ∙ same_printed bs ys e ∙ ap printed (sym c)) p
