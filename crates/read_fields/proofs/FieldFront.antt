-- A field is what stands in front, up to its end.
use Rattle.std.proofs.Common.{◌≡◌, ap, arith, refl, Bool, true, false, [], ◌∷◌, length, take, ◌≤◌}
use Rattle.spec_text.specs.Bytes.{Bytes}
use Rattle.read_bytes.specs.BytesModel.{is_end}
use Rattle.read_fields.specs.FieldsModel.{field}

pub record Front (bs x : Bytes) : Type 0 where
  pub here : take (length x) bs ≡ x
  pub short : length x ≤ length bs

pub field_front : (bs : Bytes) → Front bs (field bs)
unfolding field
field_front [] = record { here = refl; short = omega arith }
field_front (b ∷ bs) = go (is_end b) (field_front bs)
  where
    go : (t : Bool) → Front bs (field bs) → Front (b ∷ bs) (elim t [ true ↦ [] | false ↦ b ∷ field bs ])
    go true k = record { here = refl; short = omega arith }
    go false k = record { here = ap (λ (l : Bytes). b ∷ l) k.here; short = omega arith }
