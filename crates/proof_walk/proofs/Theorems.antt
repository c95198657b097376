-- The whole walk over a buffer that holds the rows of a tree leaves in the slots of its statements the faults of the tree, in the text's
-- order and once for a lambda and a name; and what the rows say stays.
use Rattle.std.proofs.Common.{ℕ, ◌+◌, ◌-◌, ◌<◌, arith, ◌≡◌, ap, ◌∙◌, List, [], length}
use Rattle.spec_text.specs.Bytes.{Bytes}
use Rattle.spec_text.specs.Tree.{Tree, len_ss, first_line}
use Rattle.spec_faults.proofs.ListingWalk.{module_env, start_state}
use Rattle.spec_faults.proofs.TextWalk.{raw_ss}
use Rattle.spec_faults.proofs.Deduped.{dedupe}
use Rattle.work_rows.specs.Rows.{rows_t}
use Rattle.work_marks.specs.MarksModel.{lambda_end}
use Rattle.work_marks.proofs.Writes.{Words, Kept, kept_trans}
use Rattle.read_row.specs.Worded.{Somes, WordedSs}
use Rattle.walk_tree.specs.WalkModel.{walked}
use Rattle.proof_walk.specs.Table.{Table}
use Rattle.proof_walk.specs.Slots.{slots_from, keys}
use Rattle.proof_walk.proofs.Start.{statements, started_kept}

-- numbers of names are rows; no row says that a lambda is open
module _ (text : Bytes) (t : Tree) (num : Bytes → ℕ) (w : List ℕ) (table : Table text (rows_t t) num w) (words : Words w) (worded : WordedSs t.body) (named : Somes t.globals)
    (small : (x : Bytes) → num x < 4_096 → num x < length (rows_t t)) (closed : (a : ℕ) → a < length (rows_t t) → lambda_end w a ≡ 0) where
  -- the buffer after the walk
  abbrev after : List ℕ
  after = walked text (length t.globals) (length (rows_t t)) w

  pub walked_slots : slots_from after (length t.globals) (len_ss t.body) ≡ keys (dedupe [] (raw_ss t.body (first_line t) [] module_env (start_state t)))
  walked_slots =
      let first : ℕ = length t.globals in
      let e : len_ss t.body ≡ (first + len_ss t.body) - first = omega arith in
      ap (slots_from after first) e ∙ (statements text t num w table words worded named small closed).slots

  pub walked_kept : Kept w after
  walked_kept = kept_trans (started_kept text t num w table words worded named small closed) (statements text t num w table words worded named small closed).change.kept
