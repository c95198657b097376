-- The theorem about the machine: with its agenda in the work buffer it ends where the definition of reading ends. Its turns are those of the
-- agenda, and turns of the agenda lead where the definition leads.
use Rattle.std.proofs.Common.{ℕ, ◌+◌, ◌≤◌, ◌<◌, arith, ◌≡◌, refl, sym, ap, ◌∙◌, subst, List, [], length, Result, Ok, Err}
use Rattle.spec_text.specs.Bytes.{Bytes}
use Rattle.spec_text.specs.Tree.{Tree}
use Rattle.spec_text.specs.Reading.{Rest, Read, got, refused, deepest}
use Rattle.spec_text.proofs.Lists.{all_nil}
use Rattle.spec_text.specs.Numbers.{refusal_number}
use Rattle.spec_text.specs.declared.refusal.Refused.{Refused}
use Rattle.read_names.specs.ChainsModel.{cleared}
use Rattle.read_names.proofs.Theorems.{cleared_names}
use Rattle.work_rows.specs.Rows.{rows_t}
use Rattle.read_tree.specs.Laid.{skip, Holds}
use Rattle.read_agenda.specs.AgendaModel.{State, Phase, on, stopped, turn, Via, here, step, stop, first, Leads, after}
use Rattle.read_tree.specs.MachineModel.{Machine, Turns, done, more, out, turn_of, first_machine, rest_at}
use Rattle.read_agenda.specs.StackModel.{stack}
use Rattle.read_agenda.proofs.Turns.{agenda_reads}
use Rattle.read_tree.proofs.Buffer.{Held, bare, due_low, pushed_held}
use Rattle.read_tree.proofs.Follows.{Sim, Follows, idle, goes, skips, ends, turn_follows}

-- ---- where the machine ends: with the rows of the tree in the work buffer, or with the refusal
pub data Ends (text : Bytes) : Result Machine Refused → Read Tree → Type 0 where
  tree : (x : Machine) (t : Tree) (r : Rest) → r ≡ rest_at text x.at (x.rows + 2)
      → x.rows ≡ length (rows_t t) → Holds text (rows_t t) x.work → Ends text (Ok x) (got t r)
  refusal : (e : Refused) → Ends text (Err e) (refused (refusal_number e.why) e.line)

pub record Reads (text : Bytes) (m : Machine) (y : Read Tree) : Type 0 where
  pub last : Result Machine Refused
  pub turns : Turns text m last
  pub ends : Ends text last y

-- ---- the machine's turns along the agenda's
data Ended (text : Bytes) (m : Machine) : Phase → Type 0 where
  ended_on : {a : State} (x : Machine) → Turns text m (Ok x) → Sim text x a → Ended text m (on a)
  ended_out : (e : Refused) → Turns text m (Err e) → Ended text m (stopped (refusal_number e.why) e.line)

-- nothing is due
abbrev Final : Phase → Type 0
Final (on a) = a.agenda ≡ []
Final (stopped k n) = Unit

same_state : {a b : State} → on a ≡ on b → a ≡ b
same_state e = cc

never : {a : State} {k n : ℕ} → on a ≡ stopped k n → ⊥
never e = let z : ◌≡◌ {A = ℕ} 0 1 = cc in omega arith

module _ (text : Bytes) (short : length text ≤ 65_536) where
  later : {m n : Machine} {p : Phase} → 0 < m.top → turn_of text m ≡ Ok n → Ended text n p → Ended text m p
  later l q (ended_on x t s) = ended_on x (more l q t) s
  later l q (ended_out e t) = ended_out e (more l q t)

  stopped_out : {m : Machine} {k n : ℕ} → Follows text m (stopped k n) → Ended text m (stopped k n)
  stopped_out (ends {e} l q) = ended_out e (out l q)

  stopped_reads : {m : Machine} {k n : ℕ} → Ended text m (stopped k n) → Reads text m (refused k n)
  stopped_reads (ended_out e turns) = record { last = Err e; turns = turns; ends = refusal e }

  -- from a state, and from the one after it
  record Way (s : State) (p : Phase) : Type 0 where
    from : (m : Machine) → Sim text m s → Ended text m p
    past : (m : Machine) (b : State) → (s.agenda ≡ [] → ⊥) → turn s ≡ on b → Sim text m b → Ended text m p

  stepped : {s : State} {p : Phase} (m : Machine) → Way s p → Follows text m (on s) → Ended text m p
  stepped m w (idle e s) = w.from m s
  stepped m w (goes {n} l t s) = later l t (w.from n s)
  stepped m w (skips {b} {n} l some q t s) = later l t (w.past n b some q s)

  ended : {s : State} {p : Phase} → Final p → Via s p → Way s p
  ended none here = record { from = λ m h. ended_on m (done (h.held.top ∙ ap length none)) h; past = λ m b some q h. absurd (some none) }
  ended none (step {s} {t} e v) =
      let w = ended none v in
      record {
        from = λ m h. stepped m w (subst (Follows text m) e (turn_follows text short m s h));
        past = λ m b some q h. w.from m (subst (Sim text m) (same_state (sym q ∙ e)) h);
      }
  ended none (stop {s} e) =
      record {
        from = λ m h. stopped_out (subst (Follows text m) e (turn_follows text short m s h));
        past = λ m b some q h. absurd (never (sym q ∙ e));
      }

  leads_read : {s : State} (m : Machine) → Sim text m s → (y : Read Tree) → Leads s y → Reads text m y
  leads_read m h (got t r) v = go ((ended refl v).from m h)
    where
      go : Ended text m (on (record { agenda = []; rest = r; rows = rows_t t })) → Reads text m (got t r)
      go (ended_on x turns s) = record { last = Ok x; turns = turns; ends = tree x t r s.rest s.rows s.held.holds }
  leads_read m h (refused k n) v = stopped_reads ((ended tt v).from m h)

-- ---- the start: no row, and on the agenda what the first line has due
none_held : (text : Bytes) (w : List ℕ) → 16_384 ≤ length w → Held text [] [] (stack (cleared w) 0)
none_held text w room =
    record {
      top = refl;
      entries = bare;
      kinds = all_nil;
      holds = record { numbers = refl; offsets = λ i l. absurd (omega arith); names = cleared_names text w room };
    }

start_sim : (text : Bytes) (w : List ℕ) (g k at : ℕ) → 16_384 ≤ length w → g ≤ 4_096 → k ≤ 4_096 → skip 1 0 text ≡ at
    → Sim text (first_machine g k at w) (first g k (rest_at text at 2))
unfolding first_machine
start_sim text w g k at room lg lk e =
    let stmts = pushed_held 5 k deepest (omega arith) (omega arith) (omega arith) (none_held text w room) in
    record {
      rows = refl;
      rest = refl;
      start = sym e;
      held = pushed_held 1 g deepest (omega arith) (omega arith) (omega (arith, due_low 5 k deepest 0 [] (omega arith))) stmts;
    }

-- ---- The machine ends with the rows of the tree that the text holds, or with its refusal.
pub machine_reads : (text : Bytes) (w : List ℕ) (g k at : ℕ) → length text ≤ 65_536 → 16_384 ≤ length w → g ≤ 4_096 → k ≤ 4_096 → skip 1 0 text ≡ at
    → Reads text (first_machine g k at w) (after g k (rest_at text at 2))
machine_reads text w g k at short room lg lk e =
    let r = rest_at text at 2 in
    leads_read text short (first_machine g k at w) (start_sim text w g k at room lg lk e) (after g k r) (agenda_reads g k r)
