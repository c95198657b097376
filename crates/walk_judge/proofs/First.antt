-- The first of the parameters that are left is `self`, or not.
use Rattle.std.proofs.Common.{◌≡◌, refl, ap, ◌∙◌, Bool, not, ◌&&◌, Option, None, Some, List, [], ◌∷◌, ℕ, arith, eqb, bytes_eq, MatchOption, Bor}
use Rattle.std.specs.Bool.{IsTrue}
use Rattle.std.specs.Iterator.{YieldsFirstRef}
use Rattle.spec_text.specs.Bytes.{Bytes, Part, bytes, same}
use Rattle.spec_faults.specs.Faults.{lacks_self}
use Rattle.read_row.specs.Left.{bytes_of, fields_left}
use Rattle.read_row.specs.declared.Fields.{Fields}

same_bytes : (x y : Bytes) → bytes_eq x y ≡ same x y
same_bytes [] [] = refl
same_bytes [] (b ∷ y) = refl
same_bytes (a ∷ x) [] = refl
same_bytes (a ∷ x) (b ∷ y) = ap (λ t. eqb a b && t) (same_bytes x y)

pub first_lacks : (ps : List Part) (s t : Fields) (r : Option (Bor Bytes)) (b : Bool) → fields_left s ≡ bytes_of ps → YieldsFirstRef fields_left s r t
    → MatchOption r (IsTrue b) (λ x. b ≡ not (bytes_eq x.now (bytes "self"))) → b ≡ lacks_self ps
first_lacks [] s t None b e y h = h
first_lacks [] s t (Some x) b e y h = absurd (let z : ◌≡◌ {A = ℕ} 0 1 = cc in omega arith)
first_lacks (p ∷ ps) s t None b e y h = absurd (let z : ◌≡◌ {A = ℕ} 0 1 = cc (y.0) in omega arith)
first_lacks (p ∷ ps) s t (Some x) b e y h =
    let q : x.now ≡ p.bytes = cc in h ∙ ap not (same_bytes x.now (bytes "self") ∙ ap (λ z. same z (bytes "self")) q)
