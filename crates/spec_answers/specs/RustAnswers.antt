-- The Rust's answer beside those of the calls: kind and span of check's, and the words of message 0.
use Rattle.std.specs.Prelude.{ℕ, ◌≡◌, List, [], ◌∷◌}
use Rattle.std.proofs.Math.Option.{none, some}
use Rattle.spec_faults.specs.Rust.{Checked}
use Rattle.spec_answers.specs.Answers.{Answer, accepted, faulty, refused, Outcome, refusing, wrote_if}

-- check accepts where the Rust has no error, and else answers with its kind and span
abbrev pub SpanOf : Checked → Answer → Type 0
SpanOf none a = a ≡ accepted
SpanOf (some e) a = (ns : List ℕ) × (a ≡ faulty (e.kind ∷ e.start ∷ e.end ∷ ns))

-- what message 0 makes of the Rust's error, with an output of this length; there is none where the Rust has no error
abbrev pub worded : Checked → ℕ → Outcome
worded none out = refusing (refused 17 [])
worded (some e) out = wrote_if out e.message
