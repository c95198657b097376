-- A read: the marks of its name and the flag of its row tell what the rules ask for, so that its slot is the kind of its fault. A name that a lambda
-- is blamed for has its mark open up to the end of that lambda: later reads of it there leave no slot, and they are no faults anew.
use Rattle.std.proofs.Common.{ℕ, suc, ◌+◌, ◌≤◌, ◌<◌, max, arith, ◌≡◌, refl, sym, ap, ap₂, ◌∙◌, subst, Bool, true, false, cond, not, ◌&&◌, ◌||◌, true≢false, List, [], ◌∷◌, ◌++◌, eqb, ltb, length, get_or, lt-ltb, le-ltb, eq-eqb, ne_eqb}
use Rattle.std.proofs.lemmas.Bool.{false≢true}
use Rattle.spec_text.specs.Bytes.{Bytes, mem, same}
use Rattle.spec_text.specs.Tree.{Line, var}
use Rattle.spec_text.proofs.Lists.{same_eq, same_false}
use Rattle.spec_faults.specs.Position.{Placed, Home, in_module, in_def, in_method, Use, value, callee}
use Rattle.spec_faults.specs.Faults.{Fault, fault_at, outermost, unbound, undefined, unless, judge_read, capture}
use Rattle.spec_faults.proofs.ListingWalk.{State, Env}
use Rattle.spec_faults.proofs.TextWalk.{raw_e}
use Rattle.spec_faults.proofs.Deduped.{dedupe, seen_after}
use Rattle.work_rows.specs.Rows.{Row, row}
use Rattle.read_tree.specs.Laid.{no_row}
use Rattle.work_marks.specs.MarksModel.{lambda_end, block_end, slot_at, flag_at, raised_lambda, put_slot}
use Rattle.work_marks.proofs.Writes.{kept_trans, raised_lambda_same, raised_lambda_other, raised_lambda_block, raised_lambda_slot, raised_lambda_fourth, kept_raised_lambda, words_raised_lambda, slot_same, slot_other, slot_lambda, slot_block, slot_fourth, kept_slot, words_slot}
use Rattle.walk_scopes.specs.ScopesModel.{Scope, a_def, module', is_defined}
use Rattle.walk_judge.specs.JudgeModel.{unbound_kind, undefined_kind, faulted, flag_in, read_of}
use Rattle.proof_walk.specs.Notes.{OwnNames, assigned_by, flag_of, Told}
use Rattle.proof_walk.specs.Table.{Here}
use Rattle.proof_walk.specs.Slots.{key_of, slots_from, keys}
use Rattle.proof_walk.proofs.State.{home_number, Open, blamed, place_of, Places}
use Rattle.proof_walk.proofs.PartRows.{head_row}
use Rattle.proof_walk.proofs.InExprs.{places_on, none_blamed, Captured, not_assigned, not_in_view, Stands, Step, key_some, step_quiet}

-- ---- the rows of a part, from row r up to the row stop
-- from row r up to the row stop, no name of the def around becomes assigned
abbrev pub Still : OwnNames → Env → State → ℕ → ℕ → Type 0
Still own v st r stop = v.home ≡ in_def → (x : Bytes) (i : ℕ) → r ≤ i → i < stop → mem x st.assigned ≡ assigned_by own.notes x i

-- outside of lambdas
pub record Flat (s : Scope) (v : Env) : Type 0 where
  pub outer : s.outer ≡ 0
  pub inner : s.inner ≡ 0
  pub params : v.params ≡ []

-- under lambdas, the outermost of which is at this line
pub record Beneath (s : Scope) (place r stop : ℕ) : Type 0 where
  pub some : 0 < s.outer
  pub inside : stop ≤ s.inner
  pub wide : s.inner ≤ s.outer
  pub few : s.outer ≤ 4_096
  pub lined : 0 < place
  pub early : place < suc (suc r)

pub data Under (s : Scope) (v : Env) (r stop : ℕ) : List Placed → Type 0 where
  flat : Flat s v → Under s v r stop []
  under : {q : Placed} {qs : List Placed} → Beneath s (outermost q qs).number r stop → Under s v r stop (q ∷ qs)

pub record Around (rows : List Row) (own : OwnNames) (s : Scope) (ls : List Placed) (v : Env) (st : State) (r stop : ℕ) : Type 0 where
  pub lambdas : Under s v r stop ls
  pub inside : stop ≤ s.end
  pub ends : s.end ≤ length rows
  pub still : Still own v st r stop
  pub told : v.home ≡ in_def → Told rows own r stop

-- how a read is called
pub data CalledAs : Bool → Use → Type 0 where
  as_value : CalledAs false value
  as_callee : {q : Placed} → CalledAs true (callee q)

-- ---- tests
open_test : (end r mark : ℕ) (b : Bool) → Open end r mark b → (b ≡ true → r < end) → ltb r mark ≡ b
open_test end r mark true o l = lt-ltb r mark (omega (arith, o.far refl, l refl))
open_test end r mark false o l = le-ltb r mark (omega (arith, o.closed refl))

-- under lambdas, the names that the outermost is blamed for; outside, none
open_before : {s : Scope} {v : Env} {r stop : ℕ} {ls : List Placed} → Under s v r stop ls → r < stop → (seen : List Fault) (x : Bytes) → Places r seen
    → (mem x v.params || blamed (place_of ls) seen x) ≡ true → r < s.inner
open_before {r = r} (flat f) l seen x p e = absurd (false≢true (sym (ap₂ ◌||◌ (ap (mem x) f.params) (none_blamed x r seen p)) ∙ e))
open_before (under b) l seen x p e = let i = b.inside in omega arith

module_def : in_module ≡ in_def → ⊥
module_def e = cc

method_def : in_method ≡ in_def → ⊥
method_def e = cc

module _ {text : Bytes} {rows : List Row} {num : Bytes → ℕ} {own : OwnNames} {s : Scope} {ls : List Placed} {v : Env} {st : State} {seen : List Fault} {w : List ℕ} {r : ℕ} (p : Stands text rows num own s ls v st seen w r) {stop : ℕ} (c : Around rows own s ls v st r stop) (on : r < stop) (x : Bytes) (small : num x < 4_096) where
  test_param : ltb r (lambda_end w (num x)) ≡ (mem x v.params || blamed (place_of ls) seen x)
  test_param = open_test s.inner r (lambda_end w (num x)) _ (p.at.params x small) (open_before c.lambdas on seen x p.at.places)

  test_view : is_defined w (num x) r ≡ mem x st.view
  test_view = open_test s.end r (block_end w (num x)) (mem x st.view) (p.at.view x small) (λ _. let i = c.inside in omega arith)

  none_own : (h : Home) → (h ≡ in_def → ⊥) → v.home ≡ h → mem x v.locals ≡ false
  none_own h n e = p.at.others (λ d. n (sym e ∙ d)) x

  -- a name of its own: the home is a def
  own_home : mem x v.locals ≡ true → v.home ≡ in_def
  own_home o = go v.home refl
    where
      go : (h : Home) → v.home ≡ h → h ≡ in_def
      go in_module e = absurd (false≢true (sym (none_own in_module module_def e) ∙ o))
      go in_def e = refl
      go in_method e = absurd (false≢true (sym (none_own in_method method_def e) ∙ o))

  -- the flag of the row, which has this name
  test_flag : {l : Line} {n : ℕ} {part : List Row} → Here rows r (row l n ∷ part) → l.word ≡ 17 → l.name.bytes ≡ x
      → flag_in s.home w r ≡ cond (mem x v.locals) (cond (mem x st.assigned) 1 2) 0
  unfolding flag_in
  test_flag {l} h k q = go v.home refl
    where
      home : (h : Home) → v.home ≡ h → cond (eqb s.home a_def) (flag_at w r) 0 ≡ cond (eqb (home_number h) a_def) (flag_at w r) 0
      home h e = ap (λ k. cond (eqb k a_def) (flag_at w r) 0) (p.at.home ∙ ap home_number e)

      none : mem x v.locals ≡ false → ◌≡◌ {A = ℕ} 0 (cond (mem x v.locals) (cond (mem x st.assigned) 1 2) 0)
      none e = ap (λ t. cond t (cond (mem x st.assigned) 1 2) 0) (sym e)

      line : (get_or rows r no_row).line ≡ l
      line = ap (λ (y : Row). y.line) (head_row h).1

      go : (h : Home) → v.home ≡ h → cond (eqb s.home a_def) (flag_at w r) 0 ≡ cond (mem x v.locals) (cond (mem x st.assigned) 1 2) 0
      go in_module e = home in_module e ∙ none (none_own in_module module_def e)
      go in_method e = home in_method e ∙ none (none_own in_method method_def e)
      go in_def e =
          home in_def e ∙ p.at.flags e r (omega arith) (omega (arith, c.inside, c.ends))
          ∙ c.told e r (omega arith) on (ap (λ (y : Line). y.word) line ∙ k)
          ∙ ap (λ (y : Line). flag_of own.notes y.name.bytes r) line ∙ ap (λ y. flag_of own.notes y r) q
          ∙ ap₂ (λ t u. cond t (cond u 1 2) 0) (sym (p.at.locals e x)) (sym (c.still e x r (omega arith) on))

-- ---- the fault of a read
module _ {text : Bytes} {rows : List Row} {num : Bytes → ℕ} {own : OwnNames} {s : Scope} {ls : List Placed} {v : Env} {st : State} {seen : List Fault} {w : List ℕ} {r : ℕ} (p : Stands text rows num own s ls v st seen w r) (l : Line) (few : r < 4_096) (k : ℕ) (some : 0 < k) (most : k < 16) (q : Placed) where
  abbrev fault : Fault
  fault = fault_at k q (record { number = suc (suc r); line = l })

  slot_of : (z : List ℕ) → slot_at z r ≡ slot_at (put_slot w r k) r → slots_from z r 1 ≡ keys (fault ∷ [])
  slot_of z e = ap (λ i. key_of (suc (suc r)) i ++ []) (e ∙ slot_same w r k p.at.table.room few most) ∙ ap (λ i. i ++ []) (key_some (suc (suc r)) k some)

  -- of the kinds 8, 9, 11 and 12
  plain_fault : capture k ≡ false → Step num s ls v st seen r 1 w (put_slot w r k) (fault ∷ [])
  plain_fault c =
      let d : dedupe seen (fault ∷ []) ≡ fault ∷ [] = ap (λ t. cond t (cond (blamed q.number seen l.name.bytes) [] (fault ∷ [])) (fault ∷ [])) c in
      let e : seen_after seen (fault ∷ []) ≡ seen = ap (λ t. cond t (cond (blamed q.number seen l.name.bytes) seen (fault ∷ seen)) seen) c in
      record {
        kept = kept_slot w r k;
        words = words_slot w r k p.at.words;
        slots = slot_of (put_slot w r k) refl ∙ ap keys (sym d);
        before = λ i j. slot_other w r k i (λ g. omega arith);
        beyond = λ i j. slot_other w r k i (λ g. omega arith);
        blocks = λ a. slot_block w r k a;
        fourths = λ a. slot_fourth w r k few a;
        up = λ x j. omega (arith, slot_lambda w r k (num x) j);
        near = λ x j b. omega (arith, slot_lambda w r k (num x) j);
        most = λ x j. omega (arith, slot_lambda w r k (num x) j);
        far = λ x j b. omega (arith, slot_lambda w r k (num x) j, p.far x j (ap (λ t. blamed (place_of ls) t x) (sym e) ∙ b));
        captured = λ x b. p.captured x (ap (λ t. blamed (place_of ls) t x) (sym e) ∙ b);
        places = subst (Places (r + 1)) (sym e) (places_on (omega arith) seen p.at.places);
      }

  -- of the kinds 10 and 13: the outermost lambda is blamed for the name
  module _ (stop : ℕ) (deep : Beneath s q.number r stop) (at : place_of ls ≡ q.number) (small : num l.name.bytes < 4_096) where
    abbrev raised : List ℕ
    raised = raised_lambda (put_slot w r k) (num l.name.bytes) s.outer

    -- its mark is raised, and no other name's
    mark_same : (x : Bytes) → same x l.name.bytes ≡ true → lambda_end raised (num x) ≡ max (lambda_end w (num x)) s.outer
    mark_same x e =
        let h : lambda_end raised (num l.name.bytes) ≡ max (lambda_end w (num l.name.bytes)) s.outer =
        raised_lambda_same (put_slot w r k) (num l.name.bytes) s.outer (omega (arith, p.at.table.room, (kept_slot w r k).long)) small (omega (arith, deep.few))
        ∙ ap (λ m. max m s.outer) (slot_lambda w r k (num l.name.bytes) small) in
        subst (λ y. lambda_end raised (num y) ≡ max (lambda_end w (num y)) s.outer) (sym (same_eq x l.name.bytes e)) h

    mark_other : (x : Bytes) → num x < 4_096 → same x l.name.bytes ≡ false → lambda_end raised (num x) ≡ lambda_end w (num x)
    mark_other x j e =
        raised_lambda_other (put_slot w r k) (num l.name.bytes) s.outer (num x) (λ d. same_false x l.name.bytes e (p.at.table.apart x l.name.bytes j d))
        ∙ slot_lambda w r k (num x) j

    -- it is blamed now, and else who was
    blamed_now : (x : Bytes) → blamed (place_of ls) (fault ∷ seen) x ≡ (same x l.name.bytes || blamed (place_of ls) seen x)
    blamed_now x = ap (λ t. t && same x l.name.bytes || blamed (place_of ls) seen x) (eq-eqb q.number (place_of ls) (sym at))

    -- what holds of a name, by whether it is this one
    by_name : {A : Type 0} (x : Bytes) → (same x l.name.bytes ≡ true → A) → (same x l.name.bytes ≡ false → A) → A
    by_name {A} x f g = go (same x l.name.bytes) refl
      where
        go : (b : Bool) → same x l.name.bytes ≡ b → A
        go true e = f e
        go false e = g e

    capture_fault : capture k ≡ true → blamed (place_of ls) seen l.name.bytes ≡ false → Captured v.home v.locals st l.name.bytes
        → Step num s ls v st seen r 1 w raised (fault ∷ [])
    capture_fault c b y =
        let b' : blamed q.number seen l.name.bytes ≡ false = subst (λ n. blamed n seen l.name.bytes ≡ false) at b in
        let d : dedupe seen (fault ∷ []) ≡ fault ∷ [] = ap₂ (λ t u. cond t (cond u [] (fault ∷ [])) (fault ∷ [])) c b' in
        let e : seen_after seen (fault ∷ []) ≡ fault ∷ seen = ap₂ (λ t u. cond t (cond u seen (fault ∷ seen)) seen) c b' in
        let now : (x : Bytes) → blamed (place_of ls) (seen_after seen (fault ∷ [])) x ≡ (same x l.name.bytes || blamed (place_of ls) seen x) =
        λ x. ap (λ t. blamed (place_of ls) t x) e ∙ blamed_now x in
        let old : (x : Bytes) → same x l.name.bytes ≡ false → blamed (place_of ls) (seen_after seen (fault ∷ [])) x ≡ blamed (place_of ls) seen x =
        λ x h. now x ∙ ap (λ t. t || blamed (place_of ls) seen x) h in
        record {
          kept = kept_trans (kept_slot w r k) (kept_raised_lambda (put_slot w r k) _ _);
          words = words_raised_lambda (put_slot w r k) _ _ (words_slot w r k p.at.words);
          slots = slot_of raised (raised_lambda_slot (put_slot w r k) _ _ r) ∙ ap keys (sym d);
          before = λ i j. raised_lambda_slot (put_slot w r k) _ _ i ∙ slot_other w r k i (λ g. omega arith);
          beyond = λ i j. raised_lambda_slot (put_slot w r k) _ _ i ∙ slot_other w r k i (λ g. omega arith);
          blocks = λ a. raised_lambda_block (put_slot w r k) _ _ a ∙ slot_block w r k a;
          fourths = λ a. raised_lambda_fourth (put_slot w r k) _ _ a ∙ slot_fourth w r k few a;
          up = λ x j. by_name x (λ h. omega (arith, mark_same x h)) (λ h. omega (arith, mark_other x j h));
          near = λ x j g.
              by_name x (λ h. absurd (true≢false (sym (now x ∙ ap (λ t. t || blamed (place_of ls) seen x) h) ∙ g)))
              (λ h. omega (arith, mark_other x j h));
          most = λ x j. by_name x (λ h. omega (arith, mark_same x h)) (λ h. omega (arith, mark_other x j h));
          far = λ x j g. by_name x (λ h. omega (arith, mark_same x h)) (λ h. omega (arith, mark_other x j h, p.far x j (sym (old x h) ∙ g)));
          captured = λ x g. by_name x (λ h. subst (Captured v.home v.locals st) (sym (same_eq x l.name.bytes h)) y) (λ h. p.captured x (sym (old x h) ∙ g));
          places = subst (Places (r + 1)) (sym e) ((deep.lined, let i = deep.early in omega arith), places_on (omega arith) seen p.at.places);
        }

-- ---- a read
-- the line of row r
abbrev pub read_at : ℕ → Line → Placed
read_at r l = record { number = suc (suc r); line = l }

module _ {text : Bytes} {rows : List Row} {num : Bytes → ℕ} {own : OwnNames} {s : Scope} {v : Env} {st : State} {seen : List Fault} {w : List ℕ} {r : ℕ} (l : Line) (few : r < 4_096) (small : num l.name.bytes < 4_096) where
  -- a name that the outermost lambda is blamed for already
  again : {q : Placed} {qs : List Placed} → Stands text rows num own s (q ∷ qs) v st seen w r → blamed (outermost q qs).number seen l.name.bytes ≡ true
      → slot_at w r ≡ 0 → (k : ℕ) → capture k ≡ true → Step num s (q ∷ qs) v st seen r 1 w w (fault_at k (outermost q qs) (read_at r l) ∷ [])
  again {q} {qs} p b c k e =
      step_quiet p 1 _ (ap (λ i. key_of (suc (suc r)) i ++ []) c)
      (ap₂ (λ t u. cond t (cond u [] (fault_at k (outermost q qs) (read_at r l) ∷ [])) (fault_at k (outermost q qs) (read_at r l) ∷ [])) e b)
      (ap₂ (λ t u. cond t (cond u seen (fault_at k (outermost q qs) (read_at r l) ∷ seen)) seen) e b)

  blamed_step : {ls : List Placed} {stop : ℕ} → Stands text rows num own s ls v st seen w r → Under s v r stop ls → blamed (place_of ls) seen l.name.bytes ≡ true
      → slot_at w r ≡ 0 → (u : Use) → Captured v.home v.locals st l.name.bytes
      → Step num s ls v st seen r 1 w w (judge_read v.home ls u (read_at r l) false (mem l.name.bytes v.locals) (mem l.name.bytes st.assigned) (mem l.name.bytes st.view))
  blamed_step p (flat f) b c u y = absurd (false≢true (sym (none_blamed l.name.bytes r seen p.at.places) ∙ b))
  blamed_step p (under {q} {qs} d) b c u (not_assigned h o a) =
      subst (Step num s (q ∷ qs) v st seen r 1 w w)
      (sym (ap₂ (λ o a. judge_read v.home (q ∷ qs) u (read_at r l) false o a (mem l.name.bytes st.view)) o a))
      (again p b c 13 refl)
  blamed_step p (under {q} {qs} d) b c u (not_in_view h o i) =
      subst (Step num s (q ∷ qs) v st seen r 1 w w)
      (sym (ap₂ (λ h o. judge_read h (q ∷ qs) u (read_at r l) false o (mem l.name.bytes st.assigned) (mem l.name.bytes st.view)) h o
      ∙ ap (λ i. unless i (undefined in_module (q ∷ qs) u (read_at r l))) i))
      (again p b c 10 refl)

  unbound_step : {ls : List Placed} {stop : ℕ} → Stands text rows num own s ls v st seen w r → Under s v r stop ls → {called : Bool} {u : Use} → CalledAs called u
      → blamed (place_of ls) seen l.name.bytes ≡ false → Captured v.home v.locals st l.name.bytes
      → Step num s ls v st seen r 1 w (faulted s.outer (num l.name.bytes) r (unbound_kind s.outer called) w) (unbound ls u (read_at r l) ∷ [])
  unfolding faulted unbound_kind
  unbound_step p (flat f) as_value b y =
      subst (λ t. Step num s [] v st seen r 1 w (faulted s.outer (num l.name.bytes) r (cond t 11 13) w) (fault_at 11 (read_at r l) (read_at r l) ∷ [])) (sym (eq-eqb s.outer 0 f.outer))
      (plain_fault p l few 11 (omega arith) (omega arith) (read_at r l) refl)
  unbound_step p (flat f) (as_callee {q}) b y =
      subst (λ t. Step num s [] v st seen r 1 w (faulted s.outer (num l.name.bytes) r (cond t 12 13) w) (fault_at 12 q (read_at r l) ∷ [])) (sym (eq-eqb s.outer 0 f.outer))
      (plain_fault p l few 12 (omega arith) (omega arith) q refl)
  unbound_step {stop = stop} p (under {q} {qs} d) {called} {u} a b y =
      subst (λ t. Step num s (q ∷ qs) v st seen r 1 w (faulted s.outer (num l.name.bytes) r (cond t (cond called 12 11) 13) w) (fault_at 13 (outermost q qs) (read_at r l) ∷ []))
      (sym (ne_eqb s.outer 0 (λ e. omega (arith, d.some))))
      (capture_fault p l few 13 (omega arith) (omega arith) (outermost q qs) stop d refl small refl b y)

  undefined_step : {ls : List Placed} {stop : ℕ} → Stands text rows num own s ls v st seen w r → Under s v r stop ls → {called : Bool} {u : Use} → CalledAs called u
      → blamed (place_of ls) seen l.name.bytes ≡ false → mem l.name.bytes v.locals ≡ false → mem l.name.bytes st.view ≡ false → (h : Home) → v.home ≡ h
      → Step num s ls v st seen r 1 w (faulted s.outer (num l.name.bytes) r (undefined_kind s.home s.outer called) w) (undefined h ls u (read_at r l) ∷ [])
  unfolding faulted undefined_kind
  undefined_step p (flat f) as_value b o i h e =
      subst (λ t. Step num s [] v st seen r 1 w (faulted s.outer (num l.name.bytes) r (cond t 8 (cond (eqb s.home module') 10 8)) w) (fault_at 8 (read_at r l) (read_at r l) ∷ []))
      (sym (eq-eqb s.outer 0 f.outer))
      (plain_fault p l few 8 (omega arith) (omega arith) (read_at r l) refl)
  undefined_step p (flat f) (as_callee {q}) b o i h e =
      subst (λ t. Step num s [] v st seen r 1 w (faulted s.outer (num l.name.bytes) r (cond t 9 (cond (eqb s.home module') 10 9)) w) (fault_at 9 q (read_at r l) ∷ []))
      (sym (eq-eqb s.outer 0 f.outer))
      (plain_fault p l few 9 (omega arith) (omega arith) q refl)
  undefined_step {stop = stop} p (under {q} {qs} d) {called} {u} a b o i h e =
      subst (λ t. Step num s (q ∷ qs) v st seen r 1 w (faulted s.outer (num l.name.bytes) r (cond t (cond called 9 8) (cond (eqb s.home module') 10 (cond called 9 8))) w) (undefined h (q ∷ qs) u (read_at r l) ∷ []))
      (sym (ne_eqb s.outer 0 (λ z. omega (arith, d.some))))
      (subst (λ n. Step num s (q ∷ qs) v st seen r 1 w (faulted s.outer (num l.name.bytes) r (cond (eqb n module') 10 (cond called 9 8)) w) (undefined h (q ∷ qs) u (read_at r l) ∷ []))
      (sym (p.at.home ∙ ap home_number e))
      (go h e a))
    where
      go : (h : Home) → v.home ≡ h → {called : Bool} {u : Use} → CalledAs called u
          → Step num s (q ∷ qs) v st seen r 1 w (faulted s.outer (num l.name.bytes) r (cond (eqb (home_number h) module') 10 (cond called 9 8)) w) (undefined h (q ∷ qs) u (read_at r l) ∷ [])
      go in_module e a = capture_fault p l few 10 (omega arith) (omega arith) (outermost q qs) stop d refl small refl b (not_in_view e o i)
      go in_def e as_value = plain_fault p l few 8 (omega arith) (omega arith) (read_at r l) refl
      go in_def e (as_callee {q = k}) = plain_fault p l few 9 (omega arith) (omega arith) k refl
      go in_method e as_value = plain_fault p l few 8 (omega arith) (omega arith) (read_at r l) refl
      go in_method e (as_callee {q = k}) = plain_fault p l few 9 (omega arith) (omega arith) k refl

-- the buffer after a read of the name a at row r, by what the tests say
abbrev read_by : Scope → Bool → ℕ → ℕ → List ℕ → Bool → Bool → Bool → Bool → List ℕ
read_by s called a r w t o m d = cond t w (cond o (cond m (faulted s.outer a r (unbound_kind s.outer called) w) w) (cond d w (faulted s.outer a r (undefined_kind s.home s.outer called) w)))

-- and by what the flag says
by_flag : (s : Scope) (called : Bool) (a r : ℕ) (w : List ℕ) (t o m d : Bool)
    → cond t w (cond (eqb (cond o (cond m 1 2) 0) 1) w (cond (eqb (cond o (cond m 1 2) 0) 2) (faulted s.outer a r (unbound_kind s.outer called) w) (cond d w (faulted s.outer a r (undefined_kind s.home s.outer called) w))))
    ≡ read_by s called a r w t o (not m) d
by_flag s called a r w t true true d = refl
by_flag s called a r w t true false d = refl
by_flag s called a r w t false m d = refl

module _ {text : Bytes} {rows : List Row} {num : Bytes → ℕ} {own : OwnNames} {s : Scope} {ls : List Placed} {v : Env} {st : State} {seen : List Fault} {w : List ℕ} {r : ℕ} (p : Stands text rows num own s ls v st seen w r) {stop : ℕ} (c : Around rows own s ls v st r stop) (on : r < stop)
    {l : Line} {n : ℕ} {part : List Row} (here : Here rows r (row l n ∷ part)) (word : l.word ≡ 17) (small : num l.name.bytes < 4_096) where
  read_tests : (called : Bool) → read_of s called (num l.name.bytes) r w
      ≡ read_by s called (num l.name.bytes) r w (mem l.name.bytes v.params || blamed (place_of ls) seen l.name.bytes) (mem l.name.bytes v.locals)
      (not (mem l.name.bytes st.assigned)) (mem l.name.bytes st.view)
  unfolding read_of
  read_tests called =
      let x : Bytes = l.name.bytes in
      ap₂ (λ t f. cond t w (cond (eqb f 1) w (cond (eqb f 2) (faulted s.outer (num x) r (unbound_kind s.outer called) w) (cond (is_defined w (num x) r) w (faulted s.outer (num x) r (undefined_kind s.home s.outer called) w)))))
      (test_param p c on x small) (test_flag p c on x small here word refl)
      ∙ by_flag s called (num x) r w (mem x v.params || blamed (place_of ls) seen x) (mem x v.locals) (mem x st.assigned) (is_defined w (num x) r)
      ∙ ap (read_by s called (num x) r w (mem x v.params || blamed (place_of ls) seen x) (mem x v.locals) (not (mem x st.assigned))) (test_view p c on x small)

  pub read_step : {called : Bool} {u : Use} → CalledAs called u → Step num s ls v st seen r 1 w (read_of s called (num l.name.bytes) r w) (raw_e (var l) (suc (suc r)) u ls v st)
  read_step {called} {u} a =
      subst (λ z. Step num s ls v st seen r 1 w z (raw_e (var l) (suc (suc r)) u ls v st)) (sym (read_tests called))
      (go (mem l.name.bytes v.params) (blamed (place_of ls) seen l.name.bytes) (mem l.name.bytes v.locals) (mem l.name.bytes st.assigned) (mem l.name.bytes st.view) refl refl refl refl)
    where
      few : r < 4_096
      few = omega (arith, c.inside, c.ends, p.at.table.few)

      clean : slot_at w r ≡ 0
      clean = p.at.clean r (omega arith) (omega (arith, c.inside, c.ends))

      quiet : Step num s ls v st seen r 1 w w []
      quiet = step_quiet p 1 [] (ap (λ i. key_of (suc (suc r)) i ++ []) clean) refl refl

      go : (pm bl om am vm : Bool) → blamed (place_of ls) seen l.name.bytes ≡ bl → mem l.name.bytes v.locals ≡ om → mem l.name.bytes st.assigned ≡ am → mem l.name.bytes st.view ≡ vm
          → Step num s ls v st seen r 1 w (read_by s called (num l.name.bytes) r w (pm || bl) om (not am) vm) (judge_read v.home ls u (read_at r l) pm om am vm)
      go true bl om am vm eb eo ea ev = quiet
      go false true om am vm eb eo ea ev =
          subst (Step num s ls v st seen r 1 w w) (ap₂ (λ o m. judge_read v.home ls u (read_at r l) false o m (mem l.name.bytes st.view)) eo ea ∙ ap (judge_read v.home ls u (read_at r l) false om am) ev)
          (blamed_step l few small p c.lambdas eb clean u (p.captured l.name.bytes eb))
      go false false true true vm eb eo ea ev = quiet
      go false false true false vm eb eo ea ev = unbound_step l few small p c.lambdas a eb (not_assigned (own_home p c on l.name.bytes small eo) eo ea)
      go false false false am true eb eo ea ev = quiet
      go false false false am false eb eo ea ev = undefined_step l few small p c.lambdas a eb eo ev v.home refl
