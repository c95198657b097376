-- A name begins with no digit; where the loop stops, the field is a name only if it ends there.
use Rattle.std.proofs.Common.{◌≡◌, refl, ap, ◌∙◌, sym, ℕ, ◌+◌, arith, get_or, drop, get_or-drop, false, true}
use Rattle.std.proofs.lemmas.Bool.{not-false}
use Rattle.spec_text.specs.Bytes.{Bytes, is_digit, is_name_byte}
use Rattle.read_fields.specs.FieldsModel.{field_at, hash_from}
use Rattle.read_fields.proofs.Fields.{name_bytes, field_more, run_more, hash_more}
use Rattle.read_fields.proofs.Takes.{name_empty, name_long, name_digit, name_taken}
use Rattle.read_fields.proofs.Cursor.name.Goals as goal
use Rattle.read_fields.proofs.Cursor.name.Goals.{then-len-eq0-via-then-len-eq0, then-len-eq0-via-else-len-eq0+then-len-gt-LONGEST_NAME}

-- the first byte of what is left of the text
first_left : (text : Bytes) (at : ℕ) → get_or (drop at text) 0 0 ≡ get_or text at 0
first_left text at =
    let e : at + 0 ≡ at = omega arith in
    get_or-drop at text 0 0 ∙ ap (λ (k : ℕ). get_or text k 0) e

pub returns-then-is_digit : goal.returns-then-is_digit
returns-then-is_digit c =
    let digit : is_digit (get_or c.args.text.now c.args.self.at 0) ≡ true = cc in
    name_digit c.args.text.now _ c.args.self refl (ap is_digit (first_left c.args.text.now c.args.self.at) ∙ digit)

pub returns-then-len-eq0 : goal.returns-then-len-eq0
returns-then-len-eq0 c =
    let stop : is_name_byte (get_or c.rest-name.result.now c.loop-len.len 0) ≡ false = cc in
    elim c.then-len-eq0.branch [
      | then-len-eq0-via-then-len-eq0 w ↦ name_empty c.args.text.now _ c.args.self c.rest-name.ensures _ c.loop-len.invariant.0 stop w.if-len-eq0.true
      | then-len-eq0-via-else-len-eq0+then-len-gt-LONGEST_NAME w ↦ name_long c.args.text.now _ c.args.self c.rest-name.ensures _ c.loop-len.invariant.0 stop w.if-len-gt-LONGEST_NAME.true
    ]

pub returns-then-not-is_name_byte : goal.returns-then-not-is_name_byte
returns-then-not-is_name_byte c =
    let none : is_digit (get_or c.args.text.now c.args.self.at 0) ≡ false = cc in
    let first = ap (λ (x : Bytes). get_or x 0 0) c.rest-name.ensures ∙ first_left c.args.text.now c.args.self.at in
    name_taken c.args.text.now _ c.args.self c.rest-name.ensures _ _ c.in_ok-next.next (not-false _ c.if-not-self.false) c.loop-len.invariant.0 c.loop-len.invariant.2
    c.if-len-eq0.false c.if-len-gt-LONGEST_NAME.false (ap is_digit first ∙ none) (sym c.past.ensures ∙ c.in_ok-next.was)

pub loop-len-preserved : goal.loop-len-preserved
loop-len-preserved c =
    let x = c.rest-name.result.now in
    let i = c.loop-len.len in
    let turn : is_name_byte (get_or x i 0) ≡ true = cc in
    let e = ap (hash_from c.loop-len.hash) (field_more name_bytes x i turn) ∙ hash_more _ _ _ in
    let m = ap (λ (k : ℕ). hash_from k (field_at x (i + 1))) (sym c.mixed-hash.ensures.value) in
    (run_more name_bytes turn c.loop-len.invariant.0, c.mixed-hash.ensures.bound, c.loop-len.invariant.2 ∙ (e ∙ m))
