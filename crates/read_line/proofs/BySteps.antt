-- The line at an offset is what a cursor finds step by step.
use Rattle.std.proofs.Common.{◌≡◌, refl, sym, ap, ◌∙◌, Bool, true, false, cond, ◌&&◌, ℕ, length, ltb-true, Option, Some, None, option_and_then}
use Rattle.std.proofs.Math.Option.{Option as Read, none, some}
use Rattle.spec_text.specs.Bytes.{Bytes}
use Rattle.spec_text.specs.Lines.{Word, words, Cut, Parsed, parsed, well_formed}
use Rattle.read_fields.specs.FieldsModel.{field_at, end_byte, past}
use Rattle.read_bytes.specs.BytesModel.{is_end}
use Rattle.read_line.specs.LineModel.{numbers_of, cut_line, line_at}
use Rattle.read_words.specs.WordsModel.{place, is_word, kind_from, shape_of}
use Rattle.read_line.specs.StepsModel.{shaped, by_steps}
use Rattle.read_words.specs.declared.Kind.{Kind}
use Rattle.read_line.specs.declared.Line.{Line}
use Rattle.read_line.proofs.Cut.{to_come, field_of, before, stop, unroll}
use Rattle.read_line.proofs.Shaped.{line_in, shaped_cut}
use Rattle.read_words.proofs.WordPlaces.{word_at, row_line, line_placed, few_counts}

-- the line of what the table makes of its fields
abbrev of_parsed : Read Parsed → Bool → ℕ → Option Line
of_parsed o ended next = elim ended [ true ↦ elim o [ some p ↦ Some (numbers_of p next) | none ↦ None ] | false ↦ None ]

of_row : (k : ℕ) (w : Word) (l : Cut) → of_parsed (row_line k w l.fields) l.ended l.next ≡ line_in w k l
of_row k w l = go l.ended (well_formed w l.fields)
  where
    go : (e t : Bool) → of_parsed (elim t [ true ↦ some (parsed k w l.fields) | false ↦ none ]) e l.next ≡ cond (e && t) (Some (numbers_of (parsed k w l.fields) l.next)) None
    go true true = refl
    go true false = refl
    go false t = refl

no_row : (ended : Bool) (next : ℕ) → of_parsed none ended next ≡ None
no_row true next = refl
no_row false next = refl

pub by_steps_lem : (text : Bytes) (at : ℕ) → line_at text at ≡ by_steps text at
unfolding line_at shape_of kind_from
by_steps_lem text at = ap cut_line (unroll text at) ∙ go (is_end (end_byte text at)) (is_word x) refl
  where
    x : Bytes
    x = field_at text at

    n : ℕ
    n = place 0 words x

    l : Cut
    l = to_come text (past text at)

    read : (t : Bool) → is_word x ≡ t → cut_line (before (field_of text at) l) ≡ of_parsed (cond t (row_line n (word_at n) l.fields) none) l.ended l.next
    read t h = ap (λ o. of_parsed o l.ended l.next) (line_placed x l.fields ∙ ap (λ t. cond t (row_line n (word_at n) l.fields) none) h)

    go : (e t : Bool) → is_word x ≡ t
        → cut_line (cond e (before (field_of text at) l) (stop (field_of text at)))
        ≡ option_and_then (λ (k : Kind). shaped (shape_of k.kind) k text) (cond (t && e) (Some (record { kind = n; next = past text at })) None)
    go false true h = refl
    go false false h = refl
    go true false h = read false h ∙ no_row l.ended l.next
    go true true h =
        read true h ∙ (of_row n (word_at n) l ∙ sym (shaped_cut (word_at n) n text (past text at) (few_counts n (ltb-true n (length words) h))))
