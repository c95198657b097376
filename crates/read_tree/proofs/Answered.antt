-- The answer: where the turns end, the answer is that of the reading, and the work buffer holds its rows.
use Rattle.std.proofs.Common.{ℕ, zero, suc, ◌+◌, ◌≤◌, ◌<◌, arith, ◌≡◌, refl, sym, ap, subst, List, [], ◌∷◌, length, drop, length-drop, lt-ltb, le-ltb, Result, Ok, Err}
use Rattle.spec_text.specs.Bytes.{Bytes, Part}
use Rattle.spec_text.specs.Tree.{Tree}
use Rattle.spec_text.specs.Lines.{Form, as_sort}
use Rattle.spec_text.specs.Reading.{Rest, Read, got, refused, and_then, line, globals, stmts, stmt, deepest, Reading, tree, refusal, ended}
use Rattle.read_names.specs.ChainsModel.{cleared}
use Rattle.read_line.specs.declared.Line.{Line}
use Rattle.spec_text.specs.declared.refusal.Refused.{Refused}
use Rattle.work_rows.specs.Rows.{rows_t}
use Rattle.read_tree.specs.Laid.{Holds, Answers}
use Rattle.read_agenda.specs.AgendaModel.{after}
use Rattle.read_tree.specs.MachineModel.{First, Machine, machine, Turns, first_machine, rest_at, answer_at}
use Rattle.read_agenda.specs.StackModel.{Stack, stack, pushed}
use Rattle.read_tree.proofs.Machine.{Ends, machine_reads}

-- ---- a tree has as many globals as its first line counts
abbrev Gets : {A : Type 0} → (A → Type 0) → Read A → Type 0
Gets P (got a r) = P a
Gets P (refused k n) = Unit

gets_then : {A B : Type 0} (P : A → Type 0) (Q : B → Type 0) (x : Read A) (f : A → Rest → Read B)
    → Gets P x → ((a : A) (r : Rest) → P a → Gets Q (f a r)) → Gets Q (and_then x f)
gets_then P Q (got a r) f h k = k a r h
gets_then P Q (refused i n) f h k = tt

anything : {A : Type 0} (x : Read A) → Gets (λ a. Unit) x
anything (got a r) = tt
anything (refused k n) = tt

abbrev Many : ℕ → List Part → Type 0
Many n gs = length gs ≡ n

globals_many : (n : ℕ) (r : Rest) → Gets (Many n) (globals n r)
globals_many zero r = refl
globals_many (suc n) r =
    gets_then (λ d. Unit) (Many (suc n)) (line (as_sort Form.global) r) _ (anything (line (as_sort Form.global) r)) (λ d r u.
    gets_then (Many n) (Many (suc n)) (globals n r) _ (globals_many n r) (λ gs r h. ap suc h))

after_many : (g k : ℕ) (r : Rest) → Gets (λ (t : Tree). Many g t.globals) (after g k r)
after_many g k r =
    gets_then (Many g) (λ (t : Tree). Many g t.globals) (globals g r) _ (globals_many g r) (λ gs r h.
    gets_then (λ ss. Unit) (λ (t : Tree). Many g t.globals) (stmts (stmt deepest) k r) _ (anything (stmts (stmt deepest) k r)) (λ ss r u. h))

-- ---- the answer where the turns end
-- the buffer is the one that they leave
abbrev Leaves : List ℕ → Result Machine Refused → Type 0
Leaves v (Ok m) = v ≡ m.work
Leaves v (Err e) = Unit

module _ (text : Bytes) (g : ℕ) (v : List ℕ) where
  -- nothing is due: a tree, if no line is left
  abbrev over : Tree → ℕ → Bytes → Reading
  over t n bs = elim bs [ [] ↦ tree t | b ∷ bs ↦ refusal 4 n ]

  over_answers : (m : Machine) (t : Tree) → Many g t.globals → m.rows ≡ length (rows_t t) → Holds text (rows_t t) v
      → (bs : Bytes) → drop m.at text ≡ bs → Answers text (over t (m.rows + 2) bs) v (answer_at text g (Ok m))
  over_answers m t many rows held [] e =
      let d : length text ≤ m.at = omega (arith, length-drop m.at text, ap length e) in
      record { answer = rw (le-ltb _ _ d, many, rows); kept = held }
  over_answers m t many rows held (b ∷ bs) e =
      let d : m.at < length text = omega (arith, length-drop m.at text, ap length e) in
      record { answer = rw (lt-ltb _ _ d); kept = tt }

  ends_answer : {x : Result Machine Refused} {y : Read Tree} → Gets (λ (t : Tree). Many g t.globals) y → Ends text x y → Leaves v x
      → Answers text (ended y) v (answer_at text g x)
  ends_answer many (Ends.tree m t r here rows held) left =
      subst (λ (q : Rest). Answers text (ended (got t q)) v (answer_at text g (Ok m))) (sym here)
      (over_answers m t many rows (subst (Holds text (rows_t t)) (sym left) held) (drop m.at text) refl)
  ends_answer many (Ends.refusal d) left = record { answer = refl; kept = tt }

-- ---- the agenda is laid out from the first line's counts, and turns lead to their end
pub rest_answers : {text : Bytes} {l : Line} (w : List ℕ) {w₁ : List ℕ} {s₂ s₃ : Stack} → length text ≤ 65_536 → 16_384 ≤ length w → First text l
    → w₁ ≡ cleared w
    → s₂ ≡ pushed 5 l.count1 deepest (stack w₁ 0)
    → s₃ ≡ pushed 1 l.count0 deepest s₂
    → (v : List ℕ) (x : Result Machine Refused)
    → ((y : Result Machine Refused) → Turns text (machine s₃.work l.next 0 s₃.top) y → x ≡ y)
    → Leaves v x
    → Answers text (ended (after l.count0 l.count1 (rest_at text l.next 2))) v (answer_at text l.count0 x)
unfolding first_machine
rest_answers {text} {l} w {w₁} {s₂} {s₃} short room f clear e₂ e₃ v x turns left =
    let reads = machine_reads text w l.count0 l.count1 l.next short room f.globals f.stmts f.start in
    let top : s₃ ≡ pushed 1 l.count0 deepest (pushed 5 l.count1 deepest (stack (cleared w) 0)) = rw (e₃, e₂, clear) in
    let m : machine s₃.work l.next 0 s₃.top ≡ first_machine l.count0 l.count1 l.next w = ap (λ (x : Stack). machine x.work l.next 0 x.top) top in
    let last : x ≡ reads.last = turns reads.last (subst (λ (n : Machine). Turns text n reads.last) (sym m) reads.turns) in
    ends_answer text l.count0 v (after_many l.count0 l.count1 (rest_at text l.next 2))
    (subst (λ (x : Result Machine Refused). Ends text x (after l.count0 l.count1 (rest_at text l.next 2))) (sym last) reads.ends) left
