-- Turn after turn: where turns lead is passed on along the agenda as a reading is passed on by `and_then`.
-- `Goes s P x`: turns lead from s to `P a r` where the reading x gets a and leaves r, and to x's refusal where it is refused.
use Rattle.std.proofs.Common.{ℕ, ◌≡◌, refl, ap, subst, List, [], ◌∷◌, ◌++◌, append_assoc, length}
use Rattle.spec_text.specs.Tree.{Line}
use Rattle.spec_text.specs.Reading.{Rest, Read, got, refused, and_then}
use Rattle.work_rows.specs.Rows.{Row, row}
use Rattle.read_agenda.specs.AgendaModel.{Entry, close, State, Phase, on, stopped, close_at, Via, here, step}
use Rattle.work_rows.proofs.Lengths.{Sized}

abbrev pub at : List Entry → Rest → List Row → State
at agenda r rows = record { agenda = agenda; rest = r; rows = rows }

-- ---- turns after turns
via_then : {s t : State} {p : Phase} → Via s (on t) → Via t p → Via s p
via_then here w = w
via_then (step e v) w = step e (via_then v w)

-- the same rows
pub via_same : {agenda : List Entry} {r : Rest} {a b : List Row} → a ≡ b → Via (at agenda r a) (on (at agenda r b))
via_same {agenda} {r} {a} {b} e = subst (λ (rows : List Row). Via (at agenda r a) (on (at agenda r rows))) e here

-- ---- a row is closed: the rows after it are counted
close_at_lem : (rows : List Row) (l : Line) (n : ℕ) (b : List Row) → close_at (length rows) (rows ++ (row l n ∷ b)) ≡ rows ++ (row l (length b) ∷ b)
close_at_lem [] l n b = refl
close_at_lem (x ∷ rows) l n b = ap (λ (t : List Row). x ∷ t) (close_at_lem rows l n b)

pub via_close : {more : List Entry} {r : Rest} {now : List Row} (rows : List Row) (l : Line) {b : List Row} {n : ℕ}
    → Sized b n → now ≡ rows ++ (row l 0 ∷ []) ++ b → Via (at (close (length rows) ∷ more) r now) (on (at more r (rows ++ (row l n ∷ b))))
via_close {now} rows l {b} {n} h e =
    let k : close_at (length rows) now ≡ rows ++ (row l n ∷ b) = rw (e, append_assoc, close_at_lem, h.count) in
    step refl (via_same k)

-- ---- turns and a reading
pub data Goes (s : State) {A : Type 0} (P : A → Rest → State) : Read A → Type 0 where
  goes_on : {a : A} {r : Rest} → Via s (on (P a r)) → Goes s P (got a r)
  goes_out : {k n : ℕ} → Via s (stopped k n) → Goes s P (refused k n)

pub goes_from : {s t : State} {A : Type 0} {P : A → Rest → State} {x : Read A} → Via s (on t) → Goes t P x → Goes s P x
goes_from v (goes_on w) = goes_on (via_then v w)
goes_from v (goes_out w) = goes_out (via_then v w)

pub goes_then : {s : State} {A B : Type 0} {P : A → Rest → State} {Q : B → Rest → State} {x : Read A} {f : A → Rest → Read B}
    → Goes s P x → ((a : A) (r : Rest) → Goes (P a r) Q (f a r)) → Goes s Q (and_then x f)
goes_then (goes_on {a} {r} v) h = goes_from v (h a r)
goes_then (goes_out v) h = goes_out v

-- a reading that is refused whatever follows it
pub data Refuses (s : State) {A : Type 0} : Read A → Type 0 where
  refuses : {k n : ℕ} → Via s (stopped k n) → Refuses s (refused k n)

pub goes_refused : {s : State} {A : Type 0} {P : A → Rest → State} {x : Read A} → Refuses s x → Goes s P x
goes_refused (refuses v) = goes_out v

pub refuses_then : {s : State} {A B : Type 0} {x : Read A} (f : A → Rest → Read B) → Refuses s x → Refuses s (and_then x f)
refuses_then f (refuses v) = refuses v
