-- The iterator over a table of names: which names are left, and that the bytes last for all of them.
use Rattle.std.specs.Prelude.{◌≤◌, List, length}
use Rattle.spec_text.specs.Bytes.{Bytes}
use Rattle.walk_builtins.specs.Table.{cut_by, total}
use Rattle.walk_builtins.specs.declared.TableNames.{TableNames}

abbrev pub names_left : TableNames → List Bytes
names_left s = cut_by s.lengths.now s.bytes.now

abbrev pub IsCut : TableNames → Type 0
IsCut s = total s.lengths.now ≤ length s.bytes.now
