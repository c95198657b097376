-- The entries that are listed from the slots are the faults of the tree, one for one and in the report's order.
-- Each fault is right by its rows; of what is listed at a row, each entry shows one of the faults that have it as their place.
-- Where no slot has a fault, there is no entry.
use Rattle.std.proofs.Common.{ℕ, zero, suc, ◌-◌, ◌≤◌, ◌<◌, arith, ◌≡◌, refl, sym, subst, false, List, [], map, append-nil, length}
use Rattle.std.proofs.lemmas.List.{length-map}
use Rattle.spec_text.specs.Bytes.{Bytes}
use Rattle.spec_text.specs.Tree.{Tree, len_ss, first_line}
use Rattle.spec_faults.specs.Faults.{Fault, by_place, faults}
use Rattle.spec_faults.proofs.Lists.{All, none}
use Rattle.spec_faults.proofs.ListingWalk.{module_env, start_state}
use Rattle.spec_faults.proofs.TextWalk.{raw_ss}
use Rattle.spec_faults.proofs.Deduped.{dedupe, faults_deduped, dedupe_all}
use Rattle.work_rows.specs.Rows.{global_row, rows_ss, rows_t}
use Rattle.work_rows.proofs.Lengths.{Sized, rows_length}
use Rattle.read_row.specs.Worded.{WordedSs}
use Rattle.proof_walk.specs.Table.{Table, Here}
use Rattle.proof_walk.specs.Slots.{slots_from, keys}
use Rattle.proof_walk.proofs.PartRows.{here_left, here_past}
use Rattle.report_order.specs.OrderModel.{entries, any_fault, nowhere}
use Rattle.proof_order.specs.Shown.{Shows, Pairs}
use Rattle.proof_order.proofs.Reach.{fits_globals, fits_t, word_in, end_in, Free, free_past, within}
use Rattle.proof_order.proofs.Right.{Right}
use Rattle.proof_order.proofs.FaultRows.{right_ss}
use Rattle.proof_order.proofs.Listed.{slotted, no_slots, over_start, listed}

-- the faults in the text's order, once for a lambda and a name
abbrev pub found : Tree → List Fault
found t = dedupe [] (raw_ss t.body (first_line t) [] module_env (start_state t))

-- what shows none of the faults is none
pairs_none : {R : ℕ → Fault → Type 0} {es : List ℕ} (n m : ℕ) → Pairs R es (by_place n m []) → es ≡ []
pairs_none n zero Pairs.none = refl
pairs_none n (suc m) p = pairs_none (suc n) m p

module _ (t : Tree) where
  -- all rows, those of the global lines, and those of the statements
  whole : Here (rows_t t) 0 (rows_t t)
  whole = record { post = []; same = sym (append-nil (rows_t t)) }

  globals : Sized (map global_row t.globals) (length t.globals)
  globals = record { count = length-map t.globals global_row }

  body : Here (rows_t t) (length t.globals) (rows_ss t.body)
  body = subst (λ i. Here (rows_t t) i (rows_ss t.body)) (omega arith) (here_past globals (rows_ss t.body) whole)

  -- how many rows the statements have
  statements : length (rows_t t) - length t.globals ≡ len_ss t.body
  statements = omega (arith, rows_length t)

  -- nothing reaches from the global lines into the statements
  free : (k : ℕ) → Free (rows_t t) k (length t.globals)
  free k =
      let start : Free (rows_t t) k 0 = record { before = λ q l e. absurd (omega arith) } in
      subst (Free (rows_t t) k) (omega arith) (free_past start globals (fits_globals t.globals) (here_left (map global_row t.globals) (rows_ss t.body) whole))

  -- each fault in the text's order is right by its rows
  pub raw_right : WordedSs t.body → length (rows_t t) ≤ 4_096 → All (Right (rows_t t)) (raw_ss t.body (first_line t) [] module_env (start_state t))
  raw_right worded few =
      right_ss (rows_t t) few t.body (length t.globals) (first_line t) module_env (start_state t) refl worded body (record { lambda = free 28; class = free 13 })

module _ (t : Tree) {text : Bytes} {num : Bytes → ℕ} {w : List ℕ} (table : Table text (rows_t t) num w) (worded : WordedSs t.body) where
  -- where the slots are these faults, the entries show them by their places
  shown : (fs : List Fault) → slots_from w (length t.globals) (len_ss t.body) ≡ keys fs → All (Right (rows_t t)) fs
      → Pairs (Shows (rows_t t)) (entries w (length t.globals) (length (rows_t t))) (by_place (first_line t) (len_ss t.body) fs)
  shown fs e right =
      let G : ℕ = length t.globals in
      let fit : (q : ℕ) → q < length (rows_t t) → (end_in (rows_t t) q ≤ length (rows_t t)) × (word_in (rows_t t) q ≡ 21 → suc q < end_in (rows_t t) q) =
      λ q l. let r = within (whole t) (fits_t t worded) q (omega arith) (omega arith) in (omega (arith, r.0), r.1) in
      rw (statements t)
      (listed (rows_t t) w table.kind table.below fit nowhere 0 (sym (rows_length t)) (over_start (free t 28)) (over_start (free t 13))
      (slotted w (len_ss t.body) G fs (omega (arith, rows_length t, table.few)) right e) right)

  pub entries_shown : slots_from w (length t.globals) (len_ss t.body) ≡ keys (found t)
      → Pairs (Shows (rows_t t)) (entries w (length t.globals) (length (rows_t t))) (faults t)
  entries_shown e = rw (faults_deduped t) (shown (found t) e (dedupe_all [] (raw_right t worded table.few)))

  pub entries_none : any_fault w (length t.globals) (length (rows_t t)) ≡ false → entries w (length t.globals) (length (rows_t t)) ≡ []
  entries_none e = pairs_none (first_line t) (len_ss t.body) (shown [] (no_slots w (len_ss t.body) (length t.globals) (rw (statements t) at e)) none)
