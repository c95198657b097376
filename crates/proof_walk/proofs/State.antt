-- What holds at each row of the walk: the marks that are open are those of the names in view and of the parameters of the lambdas around; the
-- flags from here on are those that the def around was opened with; no stamp is of a later def, and no row from here on has a slot.
-- A mark is either open up to the end of the block around, at least, or closed already: this is what leaving a block has to keep.
use Rattle.std.proofs.Common.{ℕ, suc, ◌≤◌, ◌<◌, max, ◌≡◌, Bool, true, false, ◌&&◌, ◌||◌, List, [], ◌∷◌, eqb, length}
use Rattle.spec_text.specs.Bytes.{Bytes, Part, mem, same, any}
use Rattle.spec_faults.specs.Position.{Placed, Home, in_module, in_def, in_method}
use Rattle.spec_faults.specs.Faults.{Fault, outermost}
use Rattle.spec_faults.proofs.Lists.{Each}
use Rattle.spec_faults.proofs.ListingWalk.{Env}
use Rattle.work_rows.specs.Rows.{Row}
use Rattle.work_marks.specs.MarksModel.{lambda_end, block_end, slot_at, stamp_at, flag_at}
use Rattle.work_marks.proofs.Writes.{Words}
use Rattle.walk_scopes.specs.ScopesModel.{Scope}
use Rattle.proof_walk.specs.Table.{Table}
use Rattle.proof_walk.specs.Notes.{OwnNames, note_of}

-- the stack's number of a home
abbrev pub home_number : Home → ℕ
home_number in_module = 0
home_number in_def = 1
home_number in_method = 2

-- a mark of a name that is open, or not, at row r, in a block up to the row `end`
pub record Open (end r mark : ℕ) (b : Bool) : Type 0 where
  pub far : b ≡ true → end ≤ mark
  pub closed : b ≡ false → mark ≤ r

-- a mark after some rows: it has only been raised, and to the row `end` at most
pub record Raised (end old new : ℕ) : Type 0 where
  pub up : old ≤ new
  pub most : new ≤ max old end

-- a name that the lambda at this line was blamed for
abbrev pub blamed : ℕ → List Fault → Bytes → Bool
blamed place seen x = any (λ (g : Fault). eqb g.place place && same x g.name.bytes) seen

-- the line of the outermost lambda; 0 where there is none
abbrev pub place_of : List Placed → ℕ
place_of [] = 0
place_of (p ∷ ps) = (outermost p ps).number

-- a capture before row r has its place at a line before that row's
abbrev pub Places : ℕ → List Fault → Type 0
Places r seen = Each (λ (g : Fault). (0 < g.place) × (g.place < suc (suc r))) seen

-- at row r, where the names vs are in view
pub record At (text : Bytes) (rows : List Row) (num : Bytes → ℕ) (own : OwnNames) (s : Scope) (ls : List Placed) (v : Env) (vs : List Part) (seen : List Fault) (w : List ℕ) (r : ℕ) : Type 0 where
  pub table : Table text rows num w
  pub words : Words w
  pub home : s.home ≡ home_number v.home
  pub view : (x : Bytes) → num x < 4_096 → Open s.end r (block_end w (num x)) (mem x vs)
  pub params : (x : Bytes) → num x < 4_096 → Open s.inner r (lambda_end w (num x)) (mem x v.params || blamed (place_of ls) seen x)
  pub flags : v.home ≡ in_def → (i : ℕ) → r ≤ i → i < length rows → flag_at w i ≡ own.flags i
  pub locals : v.home ≡ in_def → (x : Bytes) → mem x v.locals ≡ note_of own.notes x
  pub others : (v.home ≡ in_def → ⊥) → (x : Bytes) → mem x v.locals ≡ false
  pub low : (x : Bytes) → num x < 4_096 → stamp_at w (num x) ≤ r
  pub clean : (i : ℕ) → r ≤ i → i < length rows → slot_at w i ≡ 0
  pub places : Places r seen
