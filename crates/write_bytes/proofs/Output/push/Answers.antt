-- A turn of the loop copies one byte; at the end those that fit are copied.
use Rattle.std.proofs.Common.{◌≡◌, take, ap, refl, ◌∙◌, arith, slice_index_or, slice_set}
use Rattle.std.proofs.lemmas.List.{append-nil, drop_all}
use Rattle.write_bytes.proofs.Pushed.{copied_more, push_copied}
use Rattle.write_bytes.proofs.Output.push.Goals as goal

pub loop-i-init : goal.loop-i-init
loop-i-init c = refl

pub loop-i-preserved : goal.loop-i-preserved
loop-i-preserved c =
    let l = c.loop-i in
    let bytes = c.args.bytes.now in
    ap (λ ys. slice_set ys l.i (slice_index_or bytes l.i 0)) l.invariant ∙ copied_more bytes _ l.i (omega arith) (omega arith)

pub returns : goal.returns
returns c =
    let o = c.args.self.now in
    let m = c.min-fit in
    let l = c.loop-i in
    let all : l.i ≡ m.result = omega arith in
    let bytes = c.args.bytes.now in
    let copied : l.to-items ≡ take m.result bytes = l.invariant ∙ rw (drop_all l.i _ c.loop-i-test.false, append-nil (take l.i bytes), all) refl in
    record {
      pushes = push_copied o.bytes.now bytes o.len m.result o.inside m.ensures _ _ (omega arith) copied;
      same_buffer = refl;
    }
