-- A read has no fault, or one: it is on the read's line, and its place is the read, its call or the outermost lambda around it.
use Rattle.std.proofs.Common.{ℕ, Bool, true, false, List, [], ◌∷◌}
use Rattle.spec_text.specs.Tree.{Line}
use Rattle.spec_faults.specs.Position.{Placed, Home, in_module, in_def, in_method, Where, Use, value, callee, is_read}
use Rattle.spec_faults.specs.Bindings.{Binding}
use Rattle.spec_faults.specs.Faults.{lambda_param, own, assigned, in_view, Fault, fault_at, outermost, unless, undefined_here, unbound, undefined, judge_read, judged}

-- where the fault of a read r may be placed
pub data PlaceOf (r : Placed) : List Placed → Use → Placed → Type 0 where
  itself : {ls : List Placed} {u : Use} → PlaceOf r ls u r
  its_call : {ls : List Placed} {c : Placed} → PlaceOf r ls (callee c) c
  its_lambda : {q : Placed} {qs : List Placed} {u : Use} → PlaceOf r (q ∷ qs) u (outermost q qs)

-- what holds of no fault and of each such fault holds of what a read is judged to be
module _ (P : List Fault → Type 0) (sound : P []) (r : Placed) where
  abbrev Faulty : List Placed → Use → Type 0
  Faulty ls u = (k : ℕ) (p : Placed) → PlaceOf r ls u p → P (fault_at k p r ∷ [])

  if_not : (b : Bool) {f : Fault} → P (f ∷ []) → P (unless b f)
  if_not true h = sound
  if_not false h = h

  unbound_by : (ls : List Placed) (u : Use) → Faulty ls u → P (unbound ls u r ∷ [])
  unbound_by [] value h = h 11 r itself
  unbound_by [] (callee c) h = h 12 c its_call
  unbound_by (p ∷ ps) u h = h 13 (outermost p ps) its_lambda

  undefined_here_by : (ls : List Placed) (u : Use) → Faulty ls u → P (undefined_here u r ∷ [])
  undefined_here_by ls value h = h 8 r itself
  undefined_here_by ls (callee c) h = h 9 c its_call

  undefined_by : (k : Home) (ls : List Placed) (u : Use) → Faulty ls u → P (undefined k ls u r ∷ [])
  undefined_by k [] u h = undefined_here_by [] u h
  undefined_by in_module (p ∷ ps) u h = h 10 (outermost p ps) its_lambda
  undefined_by in_def (p ∷ ps) u h = undefined_here_by (p ∷ ps) u h
  undefined_by in_method (p ∷ ps) u h = undefined_here_by (p ∷ ps) u h

  read_by : (k : Home) (ls : List Placed) (u : Use) (p o a v : Bool) → Faulty ls u → P (judge_read k ls u r p o a v)
  read_by k ls u true o a v h = sound
  read_by k ls u false true a v h = if_not a (unbound_by ls u h)
  read_by k ls u false false a v h = if_not v (undefined_by k ls u h)

pub read_fault : (P : List Fault → Type 0) (bs : List Binding) (u : Use) (n : ℕ) (l : Line) (w : Where) → P []
    → ((k : ℕ) (p : Placed) → PlaceOf (record { number = n; line = l }) w.lambdas u p → P (fault_at k p (record { number = n; line = l }) ∷ []))
    → P (judged bs (is_read u) n l w)
read_fault P bs u n l w sound h =
    read_by P sound (record { number = n; line = l }) w.home w.lambdas u (lambda_param l.name.bytes n w bs)
    (own w.home l.name.bytes w.block bs) (assigned l.name.bytes w.block n bs) (in_view l.name.bytes n w bs) h
