-- How long the words and the names of a message are: no field is longer than its table, no part longer than the text.
use Rattle.std.proofs.Common.{ℕ, ◌+◌, ◌-◌, ◌≤◌, arith, ◌≡◌, Bool, true, false, cond, ◌&&◌, [], leb, length, take, drop, length-take, length-drop, length-append}
use Rattle.spec_text.specs.Bytes.{Bytes, part_of}
use Rattle.spec_faults.specs.Faults.{Words, written}
use Rattle.read_fields.specs.FieldsModel.{field_at}
use Rattle.read_fields.proofs.FieldFront.{field_front}

-- a part is no longer than the text
pub part_fits : (text : Bytes) (at len : ℕ) → length (part_of text at len) ≤ length text
part_fits text at len = go (leb at (length text) && leb len (length text - at))
  where
    go : (t : Bool) → length (cond t (take len (drop at text)) []) ≤ length text
    go true = rw (length-take, length-drop) (omega arith)
    go false = omega arith

pub field_fits : (texts : Bytes) (at : ℕ) → length (field_at texts at) ≤ length texts
field_fits texts at = omega (arith, (field_front (drop at texts)).short, length-drop at texts)

-- the words with the two names between them
pub length_written : (w : Words) (x c : Bytes)
    → length w.before + (length x + (length w.between + (length c + length w.after))) ≡ length (written w x c)
length_written w x c = simp length-append (omega arith)
