-- The reader's answer in numbers, for C: refusal number and line, 0 and 0 for a tree; and the tree's `global` lines and lines
-- after the first, 0 and 0 for a text that is refused.
use Rattle.std.specs.Prelude.{ℕ, Result, Ok, Err}
use Rattle.read_tree.specs.declared.Tree.{Tree}
use Rattle.bench_reader.specs.declared.ReadNumbers.{ReadNumbers}

abbrev pub numbers_of : Result Tree (ℕ × ℕ) → ReadNumbers
numbers_of (Ok t) = record { refusal = 0; line = 0; globals = t.globals; lines = t.lines }
numbers_of (Err e) = record { refusal = e.0; line = e.1; globals = 0; lines = 0 }
