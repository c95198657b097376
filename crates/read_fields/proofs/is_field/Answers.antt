-- Where a byte differs or ends the field, the field does not have the word's bytes; at the end of the word, what ends the field decides.
use Rattle.std.proofs.Common.{◌≡◌, sym, ap, ◌∙◌, arith, ℕ, length, get_or, eq-eqb, inl, inr}
use Rattle.spec_text.specs.Bytes.{Bytes, same}
use Rattle.read_bytes.specs.BytesModel.{is_end}
use Rattle.read_fields.specs.FieldsModel.{field}
use Rattle.read_fields.proofs.Fields.{same_short, same_not, same_more, same_all, same_stop, same_end}
use Rattle.read_fields.proofs.is_field.Goals as goal
use Rattle.read_fields.proofs.is_field.Goals.{then-rest-i-via-then-rest-i, then-rest-i-via-else-rest-i+then-is_end}

pub returns-then-rest-word : goal.returns-then-rest-word
returns-then-rest-word c = same_short _ _ c.if-rest-word.true ∙ ap (λ (x : Bytes). same (field x) c.args.word.now) c.rest-rest.ensures

pub returns-then-rest-i : goal.returns-then-rest-i
returns-then-rest-i c =
    same_not c.rest-rest.result.now c.args.word.now c.loop-i.i c.loop-i-test.true (omega arith) c.loop-i.invariant (elim c.then-rest-i.branch [
      | then-rest-i-via-then-rest-i w ↦ inl w.if-rest-i.true
      | then-rest-i-via-else-rest-i+then-is_end w ↦ inr (sym w.is_end.ensures ∙ w.if-is_end.true)
    ])
    ∙ ap (λ (x : Bytes). same (field x) c.args.word.now) c.rest-rest.ensures

pub loop-i-preserved : goal.loop-i-preserved
loop-i-preserved c =
    same_more c.rest-rest.result.now c.args.word.now c.loop-i.i c.loop-i-test.true (omega arith) c.loop-i.invariant c.if-rest-i.false
    (sym c.is_end.ensures ∙ c.if-is_end.false)

pub returns-then-rest-word-2 : goal.returns-then-rest-word-2
returns-then-rest-word-2 c =
    let all = same_all c.rest-rest.result.now c.args.word.now c.loop-i.i c.loop-i.invariant c.loop-i-test.false in
    eq-eqb _ _ c.if-rest-word-2.true
    ∙ (sym (all ∙ same_stop c.rest-rest.result.now c.loop-i.i (omega arith)) ∙ ap (λ (x : Bytes). same (field x) c.args.word.now) c.rest-rest.ensures)

pub returns-else-rest-word-2 : goal.returns-else-rest-word-2
returns-else-rest-word-2 c =
    let x = c.rest-rest.result.now in
    let all = same_all x c.args.word.now c.loop-i.i c.loop-i.invariant c.loop-i-test.false in
    let e : length c.args.word.now ≡ c.loop-i.i = omega arith in
    c.is_end-else-rest-word-2.ensures
    ∙ (ap (λ (k : ℕ). is_end (get_or x k 0)) e
    ∙ (sym (all ∙ same_end x c.loop-i.i (omega arith)) ∙ ap (λ (x : Bytes). same (field x) c.args.word.now) c.rest-rest.ensures))
