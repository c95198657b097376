-- Bytes pushed to an output, as many as there is room for. Its buffer stays the one that was lent to it.
use Rattle.std.specs.Prelude.{ℕ, ◌≡◌, List, take}
use Rattle.write_bytes.specs.declared.Output.{Output}
use Rattle.write_bytes.specs.PushModel.{Pushes}

pub record Pushed (old : Output) (new : List ℕ) (out : Output) : Type 0 where
  pub pushes : Pushes old.bytes.now old.len new out.bytes.now out.len
  pub same_buffer : out.bytes.ghost_name ≡ old.bytes.ghost_name

-- the bytes that are pushed
abbrev pub written : Output → List ℕ
written o = take o.len o.bytes.now
