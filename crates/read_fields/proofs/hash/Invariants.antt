-- `hash` is `hash_of`. The loop's invariant: the hash so far, with the bytes that are left, makes the hash.
use Rattle.std.proofs.Common.{drop, ◌<◌, ◌≡◌}
use Rattle.read_fields.specs.FieldsModel.{hash_from}
use Rattle.read_fields.proofs.hash.Given as goal

abbrev pub invariant-loop-b : goal.invariant-loop-b
invariant-loop-b l = (l.hash < 4096) × (hash_from 0 l.name ≡ hash_from l.hash (drop l.b-index l.name))
