-- The whole: a text that is a tree is read into rows, the walk leaves the kind of each fault in the slot of its row, and the entries listed from
-- the slots show the faults. What the walk keeps of the rows is what entries and records are read by.
use Rattle.std.proofs.Common.{ℕ, ◌≤◌, ◌<◌, arith, ◌≡◌, refl, sym, ap, ap₂, subst, false, List, [], length, Ok}
use Rattle.spec_text.specs.Bytes.{Bytes}
use Rattle.spec_text.specs.Tree.{Tree, len_ss}
use Rattle.spec_text.specs.Reading.{Reading, tree, refusal, reading}
use Rattle.spec_text.proofs.Theorems.{tree_lines, text_length}
use Rattle.spec_faults.specs.Faults.{faults}
use Rattle.spec_faults.proofs.FaultKinds.{kinds}
use Rattle.spec_faults.proofs.Theorems.{at_most_lines}
use Rattle.work_rows.specs.Rows.{rows_t}
use Rattle.read_tree.specs.Laid.{Holds, Answers}
use Rattle.read_tree.specs.declared.Tree.{Tree as Counts}
use Rattle.work_marks.proofs.Writes.{Words, Kept}
use Rattle.read_bytes.specs.declared.name_part.NamePart.{NamePart}
use Rattle.read_row.specs.RowModel.{line_of_row}
use Rattle.read_row.specs.Worded.{WordedSs}
use Rattle.read_row.proofs.Theorems.{tree_worded, line_again}
use Rattle.walk_tree.specs.WalkModel.{walked}
use Rattle.proof_walk.specs.Table.{Table}
use Rattle.proof_walk.specs.Slots.{slots_from, keys}
use Rattle.proof_walk.proofs.PartRows.{table_kept}
use Rattle.proof_walk.proofs.Theorems.{walked_slots, walked_kept}
use Rattle.report_order.specs.OrderModel.{entries, stored, any_fault}
use Rattle.proof_order.specs.Shown.{Shows, Pairs, line_in}
use Rattle.proof_order.proofs.Theorems.{found, entries_shown, entries_none}
use Rattle.find_faults.specs.Found.{Listed, Finds}
use Rattle.find_faults.proofs.RowsForWalk.{numbers, numbers_rows, globals_named, table_held, no_lambdas_lem}
use Rattle.find_faults.proofs.Fitting.{fault_of_lem, faults_fit}
use Rattle.find_faults.proofs.RecordsRead.{Reads, pairs_length, pair_at, record_shown}

-- ---- a tree
module _ (text : Bytes) (work : ℕ) (t : Tree) (e : reading text work ≡ tree t) (w : List ℕ) (h : Holds text (rows_t t) w) (words : Words w) where
  -- the buffer after the walk, and the entries that are listed
  abbrev after : List ℕ
  after = walked text (length t.globals) (length (rows_t t)) w

  abbrev listed : List ℕ
  listed = entries after (length t.globals) (length (rows_t t))

  table : Table text (rows_t t) (numbers t) w
  table = table_held text work t e w h

  worded : WordedSs t.body
  worded = tree_worded text work t e

  slots : slots_from after (length t.globals) (len_ss t.body) ≡ keys (found t)
  slots = walked_slots text t (numbers t) w table words worded (globals_named text work t e) (numbers_rows t) (no_lambdas_lem text work t e w h)

  kept : Kept w after
  kept = walked_kept text t (numbers t) w table words worded (globals_named text work t e) (numbers_rows t) (no_lambdas_lem text work t e w h)

  shown : Pairs (Shows (rows_t t)) listed (faults t)
  shown = entries_shown t (table_kept kept table) worded slots

  few : length (faults t) ≤ 4_096
  few = omega (arith, at_most_lines t, tree_lines text work t e)

  -- a row's line, read again after the walk
  line : (i : ℕ) → i < length (rows_t t) → Reads (line_in (rows_t t) i) (line_of_row text after i)
  unfolding line_of_row
  line i l =
      let a = line_again text work t e w h i l in
      rw (kept.seconds i (omega (arith, table.few))) (record { start = a.start; end = a.end; name = ap₂ {C = NamePart} (λ (k n : ℕ). record { offset = k; len = n }) a.name a.len })

  finds : Finds text (tree t) (stored listed 0 after) (Ok (length listed))
  finds = record {
    answer = ap Ok (pairs_length shown);
    kept = (every, (omega (arith, text_length text work t e), omega (arith, few)));
  }
    where
      every : Listed text (faults t) (stored listed 0 after)
      every j f at =
          let p = pair_at shown j f at in
          let m = fault_of_lem (faults_fit text work t e) j f at in
          let k = fault_of_lem (kinds t) j f at in
          record {
            record' = record_shown text (rows_t t) after table.few (omega (arith, kept.long, table.room)) line listed (omega (arith, pairs_length shown, few)) j f p.0 p.1;
            name = m.name.shown;
            class = m.class.shown;
            kind = m.kind;
            kind_least = k.least;
            start = m.start;
            end = m.end;
            name_at = omega (arith, m.name.inside, text_length text work t e);
            class_at = omega (arith, m.class.inside, text_length text work t e);
            name_len = omega (arith, m.name.short);
            class_len = omega (arith, m.class.short);
          }

  -- the same by what the calls leave and count
  finds_by : {g n m : ℕ} {v z : List ℕ} → g ≡ length t.globals → n ≡ length (rows_t t) → v ≡ walked text g n w → z ≡ stored (entries v g n) 0 v → m ≡ length (entries v g n)
      → Finds text (tree t) z (Ok m)
  finds_by i j walk list count = rw (count, list, walk, i, j) finds

  none_by : {g n : ℕ} {v : List ℕ} → g ≡ length t.globals → n ≡ length (rows_t t) → v ≡ walked text g n w → any_fault v g n ≡ false → entries v g n ≡ []
  none_by i j walk = rw (walk, i, j) (entries_none t (table_kept kept table) worded)

-- ---- by the reader's answer
-- the answer with so many globals and lines is that of a tree
record TreeRead (text : Bytes) (x : Reading) (w : List ℕ) (r : Counts) : Type 0 where
  tree' : Tree
  is : x ≡ tree tree'
  globals : r.globals ≡ length tree'.globals
  lines : r.lines ≡ length (rows_t tree')
  holds : Holds text (rows_t tree') w

tree_read : (text : Bytes) (x : Reading) {w : List ℕ} {r : Counts} → Answers text x w (Ok r) → TreeRead text x w r
tree_read text (tree t) {r = r} a =
    let counts : Counts = record { globals = length t.globals; lines = length (rows_t t) } in
    let q : r ≡ counts = cc a.answer in
    record { tree' = t; is = refl; globals = ap (λ (c : Counts). c.globals) q; lines = ap (λ (c : Counts). c.lines) q; holds = a.kept }
tree_read text (refusal k m) a = absurd (cc a.answer)

module _ (text : Bytes) (work : ℕ) {w : List ℕ} {r : Counts} (a : Answers text (reading text work) w (Ok r)) where
  pub finds_faults : Words w → {v z : List ℕ} {m : ℕ} → v ≡ walked text r.globals r.lines w → z ≡ stored (entries v r.globals r.lines) 0 v
      → m ≡ length (entries v r.globals r.lines) → Finds text (reading text work) z (Ok m)
  finds_faults words {v} {z} {m} walk list count =
      let t = tree_read text (reading text work) a in
      subst (λ x. Finds text x z (Ok m)) (sym t.is) (finds_by text work t.tree' t.is w t.holds words t.globals t.lines walk list count)

  -- where no slot has a fault, there is nothing to list
  pub finds_none : Words w → {v : List ℕ} → v ≡ walked text r.globals r.lines w → any_fault v r.globals r.lines ≡ false → Finds text (reading text work) v (Ok 0)
  unfolding stored
  finds_none words {v} walk e =
      let t = tree_read text (reading text work) a in
      let q : entries v r.globals r.lines ≡ [] = none_by text work t.tree' t.is w t.holds words t.globals t.lines walk e in
      finds_faults words walk (ap (λ es. stored es 0 v) (sym q)) (ap length (sym q))
