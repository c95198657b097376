-- Bytes that are read into a buffer.
use Rattle.std.proofs.Common.{◌≡◌, ℕ, ◌+◌, ◌≤◌, List, ◌++◌, length, take, drop, sym, ap, ◌∙◌, length-take-le}
use Rattle.std.proofs.Math.Seq.{take-append-add}
use Rattle.std.proofs.lemmas.List.{take-append-le}

-- n bytes more, after the a that are there
pub take-read_more : (a k n : ℕ) (xs ys : List ℕ) → a ≤ length xs → n ≤ length ys
    → take (a + n) (take a xs ++ (ys ++ drop k (drop a xs))) ≡ take a xs ++ take n ys
take-read_more a k n xs ys within fits =
    let rest : List ℕ = drop k (drop a xs) in
    ap (λ m. take (m + n) (take a xs ++ (ys ++ rest))) (sym (length-take-le a xs within)) ∙ take-append-add (take a xs) (ys ++ rest) n
    ∙ ap (λ l. take a xs ++ l) (take-append-le n ys rest fits)
