-- What the reader's contract gives whoever walks the rows: they do not depend on what the buffer held before, and two rows have one
-- number exactly where they have one name.
use Rattle.std.proofs.Common.{ℕ, ◌<◌, ◌≡◌, sym, ap, ◌∙◌, subst, List, [], map, ◌↔◌, length, get_or, take, Result, Ok, Err, arith}
use Rattle.std.proofs.lemmas.List.{length-map}
use Rattle.spec_text.specs.Bytes.{Bytes}
use Rattle.spec_text.specs.Reading.{Reading}
use Rattle.work_rows.specs.Layout.{offset_at, number_at}
use Rattle.read_names.specs.Names.{earliest}
use Rattle.read_names.specs.ChainsModel.{lookup}
use Rattle.read_names.proofs.Theorems.{same_number, lookup_earliest}
use Rattle.work_rows.specs.Rows.{Row}
use Rattle.read_tree.specs.Laid.{Holds, in_numbers, Answers, name_in}
use Rattle.read_tree.specs.declared.Tree.{Tree}
use Rattle.spec_text.specs.Numbers.{refusal_number}
use Rattle.spec_text.specs.declared.refusal.Refused.{Refused}
use Rattle.spec_text.proofs.Numbers.{one_refused}

-- the names by row
abbrev pub names : List Row → List Bytes
names rows = map name_in rows

-- row i has a name of its own
abbrev pub Named : List Row → ℕ → Type 0
Named rows i = get_or (names rows) i [] ≡ [] → ⊥

-- ---- what an answer says in numbers is that answer alone
one_in_numbers : {A : Type 0} (r q : Result A Refused) → in_numbers r ≡ in_numbers q → r ≡ q
one_in_numbers (Ok a) (Ok b) e = cc
one_in_numbers (Ok a) (Err d) e = let z : ◌≡◌ {A = ℕ} 0 1 = cc in absurd (omega arith)
one_in_numbers (Err c) (Ok b) e = let z : ◌≡◌ {A = ℕ} 0 1 = cc in absurd (omega arith)
one_in_numbers (Err c) (Err d) e =
    let p : ◌≡◌ {A = ℕ × ℕ} (refusal_number c.why, c.line) (refusal_number d.why, d.line) = cc in
    ap Err (one_refused (ap (λ (x : ℕ × ℕ). x.0) p) (ap (λ (x : ℕ × ℕ). x.1) p))

-- ---- one answer for one text, whatever the buffers held
pub one_answer : {text : Bytes} {x : Reading} {w v : List ℕ} {r q : Result Tree Refused} → Answers text x w r → Answers text x v q → r ≡ q
one_answer a b = one_in_numbers _ _ (a.answer ∙ sym b.answer)

module _ {text : Bytes} {rows : List Row} {w : List ℕ} (a : Holds text rows w) where
  inside : {i : ℕ} → i < length rows → i < length (names rows)
  inside {i} l = subst (λ (n : ℕ). i < n) (sym (length-map rows name_in)) l

  -- ---- the same rows, offsets and numbers
  pub same_rows : {v : List ℕ} → Holds text rows v → take (length rows) w ≡ take (length rows) v
  same_rows b = a.numbers ∙ sym b.numbers

  pub same_offsets : {v : List ℕ} → Holds text rows v → (i : ℕ) → i < length rows → offset_at w i ≡ offset_at v i
  same_offsets b i l = a.offsets i l ∙ sym (b.offsets i l)

  pub same_numbers : {v : List ℕ} → Holds text rows v → (i : ℕ) → i < length rows → Named rows i → number_at w i ≡ number_at v i
  same_numbers b i l some = a.names.numbers.number i (inside l) some ∙ sym (b.names.numbers.number i (inside l) some)

  -- ---- equal numbers for equal names, and the row of any name
  pub number_is_name : (i j : ℕ) → i < length rows → j < length rows → Named rows i → Named rows j
      → (number_at w i ≡ number_at w j) ↔ (get_or (names rows) i [] ≡ get_or (names rows) j [])
  number_is_name i j il jl is js = same_number a.names.numbers i j (inside il) (inside jl) is js

  pub row_of_name : (x : Bytes) → (x ≡ [] → ⊥) → lookup text w x ≡ earliest (names rows) x
  row_of_name x some = lookup_earliest a.names x some
