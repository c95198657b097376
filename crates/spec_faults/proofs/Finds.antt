-- What the Rust's walk finds beside a list of faults: no error beside none, else an error. For any order of the captured names the error is
-- an answer beside the list, and in the order of the reads it is the first fault's: both are carried through one induction.
use Rattle.std.proofs.Common.{◌≡◌, refl, sym, ap, ◌∙◌, subst, Bool, true, false, List, [], ◌∷◌, ◌++◌}
use Rattle.std.proofs.Math.Option.{none, some}
use Rattle.spec_faults.specs.Faults.{Fault, unless}
use Rattle.spec_faults.specs.Rust.{Order, as_read, SemanticError, Checked, check, and_then, error_of, Answers, no_error, first, captured}
use Rattle.spec_faults.proofs.Lists.{in_left}

-- the error of the first of a list of faults
abbrev pub first_error : List Fault → Checked
first_error [] = none
first_error (f ∷ fs) = some (error_of f)

-- the walk stops with the error e
pub record Stops (order : Order) (F : List Fault) (e : SemanticError) : Type 0 where
  pub answers : Answers (some e) F
  pub in_order : order ≡ as_read → first_error F ≡ some e

pub data Finds (order : Order) : List Fault → Checked → Type 0 where
  nothing : Finds order [] none
  stop : {F : List Fault} {e : SemanticError} → Stops order F e → Finds order F (some e)

-- ---- lists in a row
answers_append : {F : List Fault} {e : SemanticError} (G : List Fault) → Answers (some e) F → Answers (some e) (F ++ G)
answers_append G first = first
answers_append G (captured c i k p s t) = captured c (in_left G i) k p s t

first_append : (F G : List Fault) → first_error (F ++ G) ≡ and_then (first_error F) (first_error G)
first_append [] G = refl
first_append (f ∷ F) G = refl

module _ {order : Order} where
  pub stops_first : {f : Fault} {F : List Fault} → Stops order (f ∷ F) (error_of f)
  stops_first = record { answers = first; in_order = λ o. refl }

  pub stops_append : {F : List Fault} {e : SemanticError} (G : List Fault) → Stops order F e → Stops order (F ++ G) e
  stops_append {F} G s =
      record { answers = answers_append G s.answers; in_order = λ o. first_append F G ∙ ap (λ c. and_then c (first_error G)) (s.in_order o) }

  -- ---- checks
  pub finds_as : {F : List Fault} {c d : Checked} → c ≡ d → Finds order F c → Finds order F d
  finds_as {F} e f = subst (Finds order F) e f

  pub finds_both : {F G : List Fault} {c d : Checked} → Finds order F c → Finds order G d → Finds order (F ++ G) (and_then c d)
  finds_both nothing g = g
  finds_both {G} (stop s) g = stop (stops_append G s)

  pub finds_unless : (t : Bool) (f : Fault) → Finds order (unless t f) (check t (error_of f))
  finds_unless true f = nothing
  finds_unless false f = stop stops_first

  pub finds_read : {F : List Fault} (t : Bool) (f : Fault) → F ≡ unless t f → Finds order F (check t (error_of f))
  finds_read t f e = subst (λ F. Finds order F (check t (error_of f))) (sym e) (finds_unless t f)

  -- ---- the two readings
  pub found_answers : {F : List Fault} {c : Checked} → Finds order F c → Answers c F
  found_answers nothing = no_error
  found_answers (stop s) = s.answers

pub found_first : {F : List Fault} {c : Checked} → Finds as_read F c → c ≡ first_error F
found_first nothing = refl
found_first (stop s) = sym (s.in_order refl)
