-- A value above the largest only grows; where the loop stops, the field is a number only if it ends there.
use Rattle.std.proofs.Common.{◌≡◌, ap, ◌∙◌, sym, arith, ℕ, ◌+◌, ◌-◌, ◌*◌, ◌<◌, get_or, eqb-true, eq-eqb, le-ltb, false, true}
use Rattle.std.proofs.lemmas.Bool.{not-false}
use Rattle.spec_text.specs.Bytes.{is_digit, decimal}
use Rattle.read_fields.specs.FieldsModel.{field_at}
use Rattle.read_fields.proofs.Fields.{clash, digits, field_more, run_more}
use Rattle.read_fields.proofs.Takes.{number_empty, number_led, number_taken}
use Rattle.read_fields.proofs.Cursor.number.Goals as goal
use Rattle.read_fields.proofs.Cursor.number.Goals.{then-len-eq0-via-then-len-eq0, then-len-eq0-via-else-len-eq0+then-digits-eq48, then-len-gt-LONGEST_ZERO, else-len-gt-LONGEST_ZERO}

pub returns-then-len-eq0 : goal.returns-then-len-eq0
returns-then-len-eq0 c =
    let stop : is_digit (get_or c.rest-digits.result.now c.loop-len.len 0) ≡ false = cc in
    elim c.then-len-eq0.branch [
      | then-len-eq0-via-then-len-eq0 w ↦ number_empty c.args.text.now _ c.args.self c.rest-digits.ensures _ _ c.loop-len.invariant.0 stop w.if-len-eq0.true
      | then-len-eq0-via-else-len-eq0+then-digits-eq48 w ↦ elim w.if-len-gt-LONGEST_ZERO.branch [
        | then-len-gt-LONGEST_ZERO x ↦
            let z : get_or c.rest-digits.result.now 0 0 ≡ 48 = eqb-true _ _ (sym x.value-is ∙ w.if-digits-eq48.true) in
            number_led c.args.text.now _ c.args.self c.rest-digits.ensures _ _ c.loop-len.invariant.0 stop x.if-len-gt-LONGEST_ZERO.true z
        | else-len-gt-LONGEST_ZERO x ↦ absurd (clash w.if-digits-eq48.true (x.value-is ∙ le-ltb _ _ x.if-len-gt-LONGEST_ZERO.false))
      ]
    ]

pub returns-then-not-is_digit : goal.returns-then-not-is_digit
returns-then-not-is_digit c =
    let led : 1 < c.loop-len.len → get_or c.rest-digits.result.now 0 0 ≡ 48 → ⊥ = λ l z. elim c.if-len-gt-LONGEST_ZERO.branch [
      | then-len-gt-LONGEST_ZERO x ↦ clash (x.value-is ∙ eq-eqb _ _ z) c.if-digits-eq48.false
      | else-len-gt-LONGEST_ZERO x ↦ omega arith
    ] in
    number_taken c.args.text.now _ c.args.self c.rest-digits.ensures _ _ _ c.in_ok-next.next (not-false _ c.if-not-self.false) c.loop-len.invariant.0 c.loop-len.invariant.2
    c.loop-len.invariant.1 c.if-len-eq0.false led (sym c.past.ensures ∙ c.in_ok-next.was)

pub loop-len-preserved : goal.loop-len-preserved
loop-len-preserved c =
    let x = c.rest-digits.result.now in
    let i = c.loop-len.len in
    let v = c.loop-len.value in
    let turn : is_digit (get_or x i 0) ≡ true = cc in
    let d = get_or x i 0 - 48 in
    let more = c.loop-len.invariant.2 ∙ ap (decimal v) (field_more digits x i turn) in
    let e : 10 * v + d ≡ v * 10 + c.from.result = omega arith in
    (run_more digits turn c.loop-len.invariant.0, omega arith, more ∙ ap (λ (k : ℕ). decimal k (field_at x (i + 1))) e)
