-- The first line: what the code's tests of it say of the whole reading.
use Rattle.std.proofs.Common.{ℕ, ◌≤◌, ◌≡◌, refl, sym, ap, subst, ◌∙◌, Bool, true, false, List, ltb, length, arith, Result, Ok, Err, le-ltb}
use Rattle.spec_text.specs.Numbers.{refusal_number}
use Rattle.spec_text.specs.declared.refusal.Refused.{Refused}
use Rattle.spec_text.specs.Bytes.{Bytes}
use Rattle.spec_text.specs.Tree.{Tree}
use Rattle.spec_text.specs.Lines.{Form, count_at}
use Rattle.spec_text.specs.Reading.{Read, and_then, Due, ended, read_tree, Reading, refusal, reading}
use Rattle.read_line.specs.declared.Line.{Line}
use Rattle.read_line.specs.LineModel.{numbers_of}
use Rattle.read_tree.specs.declared.Tree.{Tree as Counts}
use Rattle.read_tree.specs.Laid.{Answers}
use Rattle.read_agenda.specs.AgendaModel.{line_due, after}
use Rattle.read_tree.specs.MachineModel.{due_at, rest_at, First}
use Rattle.read_tree.proofs.Same.{Same, read, refuse, same}

-- a text is read by its first line, and then by its counts
abbrev by_first : Read (Due Form) → Read Tree
by_first x = and_then x (λ d r. after (count_at 0 d.parsed) (count_at 1 d.parsed) r)

by_first_lem : (text : Bytes) → read_tree text ≡ ended (by_first (line_due 0 1 (rest_at text 0 1)))
by_first_lem text = refl

module _ (text : Bytes) where
  -- what is read after it
  pub first_read : {l : Line} → due_at text 0 0 1 1 ≡ Ok l → First text l × (read_tree text ≡ ended (after l.count0 l.count1 (rest_at text l.next 2)))
  first_read {l} h = go (same text 0 0 1 1)
    where
      go : Same text 0 0 1 1 → First text l × (read_tree text ≡ ended (after l.count0 l.count1 (rest_at text l.next 2)))
      go (read f p next e m g k) =
          let q : numbers_of p next ≡ l = cc in
          subst (λ (l : Line). First text l × (read_tree text ≡ ended (after l.count0 l.count1 (rest_at text l.next 2)))) q (
            record { globals = k.counts 0; stmts = k.counts 1; start = k.start; inside = k.inside },
            by_first_lem text ∙ ap (λ (y : Read (Due Form)). ended (by_first y)) g,
          )
      go (refuse r e g) = let z : ◌≡◌ {A = ℕ} 0 1 = cc in absurd (omega arith)

  pub first_refused : {e : Refused} → due_at text 0 0 1 1 ≡ Err e → read_tree text ≡ refusal (refusal_number e.why) e.line
  first_refused {e} h = go (same text 0 0 1 1)
    where
      go : Same text 0 0 1 1 → read_tree text ≡ refusal (refusal_number e.why) e.line
      go (read f p next r m g k) = let z : ◌≡◌ {A = ℕ} 0 1 = cc in absurd (omega arith)
      go (refuse r q g) =
          let z : r ≡ e = cc in
          subst (λ (e : Refused). read_tree text ≡ refusal (refusal_number e.why) e.line) z
          (by_first_lem text ∙ ap (λ (y : Read (Due Form)). ended (by_first y)) g)

-- ---- the whole text, before its lines: it is too long, or the work buffer too short
abbrev reading_if : Bytes → Bool → Bool → Reading
reading_if text long tight = elim long [ true ↦ refusal 1 0 | false ↦ elim tight [ true ↦ refusal 2 0 | false ↦ read_tree text ] ]

module _ (text : Bytes) (n : ℕ) (w : List ℕ) where
  tested : (a b : Bool) (r : Result Counts Refused) → ltb 65_536 (length text) ≡ a → ltb n 16_384 ≡ b → Answers text (reading_if text a b) w r → Answers text (reading text n) w r
  tested a b r e h k = subst (λ (t : Bool). Answers text (reading_if text t (ltb n 16_384)) w r) (sym e) (subst (λ (t : Bool). Answers text (reading_if text a t) w r) (sym h) k)

  pub reads_lines : (r : Result Counts Refused) → length text ≤ 65_536 → 16_384 ≤ n → {x : Reading} → read_tree text ≡ x → Answers text x w r → Answers text (reading text n) w r
  reads_lines r h k e a = tested false false r (le-ltb 65_536 (length text) h) (le-ltb n 16_384 k) (subst (λ (y : Reading). Answers text y w r) (sym e) a)
