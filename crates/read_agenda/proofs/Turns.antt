-- The theorem about the agenda: turns lead from a text's first line to where the definition of reading leads.
use Rattle.std.proofs.Common.{ℕ, pred, [], map}
use Rattle.spec_text.specs.Tree.{Tree}
use Rattle.spec_text.specs.Reading.{Rest, Read, deepest}
use Rattle.work_rows.specs.Rows.{rows_t, global_row}
use Rattle.read_agenda.specs.AgendaModel.{State, here, due, first, Leads, after}
use Rattle.read_agenda.proofs.Via.{at, Goes, goes_on, goes_out, goes_then}
use Rattle.read_agenda.proofs.Dues.{stmts_go, stmt_go, globals_go}

leads : {s : State} {x : Read Tree} → Goes s (λ t r. at [] r (rows_t t)) x → Leads s x
leads (goes_on v) = v
leads (goes_out v) = v

-- ---- The rows are those of the tree that is read, and what is left is the same; or the refusal is the same.
pub agenda_reads : (g k : ℕ) (r : Rest) → Leads (first g k r) (after g k r)
agenda_reads g k r =
    leads (goes_then (globals_go (pred deepest) g (due 5 k deepest []) [] r) (λ gs r.
    goes_then (stmts_go (stmt_go deepest) k [] (map global_row gs) r) (λ ss r. goes_on here)))
