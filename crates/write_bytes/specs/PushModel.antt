-- Bytes pushed to a buffer that is filled up to an offset, as many as there is room for.
use Rattle.std.specs.Prelude.{ℕ, ◌+◌, ◌-◌, ◌≤◌, ◌≡◌, List, ◌++◌, length, take, drop}

-- those for which there is room
abbrev pub fitting : List ℕ → ℕ → List ℕ → List ℕ
fitting old at new = take (length old - at) new

unfoldable pub bytes_pushed : List ℕ → ℕ → List ℕ → List ℕ
bytes_pushed old at new = take at old ++ (fitting old at new ++ drop (at + length (fitting old at new)) old)

unfoldable pub pushed_to : List ℕ → ℕ → List ℕ → ℕ
pushed_to old at new = at + length (fitting old at new)

-- what is done by a push: the buffer after it, and the offset, which is inside
abbrev pub Pushes : List ℕ → ℕ → List ℕ → List ℕ → ℕ → Type 0
Pushes old at new out to = (out ≡ bytes_pushed old at new) × (to ≡ pushed_to old at new) × (to ≤ length out)
