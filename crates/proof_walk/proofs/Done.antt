-- What the walk of some rows does outside of lambdas, and how one such walk follows another: rows without a fault, a name that is bound, a row
-- with a fault. Marks are only raised, and slots before the rows stay, and flags after them.
use Rattle.std.proofs.Common.{ℕ, zero, suc, ◌+◌, ◌-◌, ◌/◌, ◌≤◌, ◌<◌, max, arith, ◌≡◌, refl, sym, ap, ap₂, ◌∙◌, subst, Bool, true, false, ◌||◌, true≢false, List, [], ◌∷◌, ◌++◌, length, get_or}
use Rattle.std.proofs.lemmas.List.{map-append}
use Rattle.spec_text.specs.Bytes.{Bytes, Part, mem, same}
use Rattle.spec_text.proofs.Lists.{same_eq, same_false}
use Rattle.spec_faults.specs.Faults.{Fault, capture}
use Rattle.spec_faults.proofs.ListingWalk.{Env}
use Rattle.spec_faults.proofs.Deduped.{dedupe, seen_after, seen_append, dedupe_append}
use Rattle.work_rows.specs.Rows.{Row}
use Rattle.work_marks.specs.MarksModel.{stamp_base, lambda_end, block_end, slot_at, flag_at, put_slot, put_link, raised_block}
use Rattle.work_marks.proofs.Writes.{Words, Kept, kept_refl, kept_trans, slot_same, slot_other, slot_lambda, slot_block, slot_fourth, kept_slot, words_slot, raised_block_same, raised_block_other, raised_block_lambda, raised_block_slot, raised_block_fourth, kept_raised_block, words_raised_block, fourth_lambda, fourth_block, fourth_slot, kept_fourth, words_fourth, flag_other, flag_stamp}
use Rattle.walk_scopes.specs.declared.ScopeStack.{ScopeStack}
use Rattle.walk_scopes.specs.ScopesModel.{Scope, top_of, defined}
use Rattle.walk_scopes.proofs.Defined.{defined_block}
use Rattle.walk_tree.specs.WalkModel.{Walk, walk}
use Rattle.proof_walk.specs.Notes.{OwnNames}
use Rattle.proof_walk.specs.Slots.{key_of, slots_from, keys}
use Rattle.proof_walk.proofs.State.{Open, Raised, At}
use Rattle.proof_walk.proofs.PartRows.{table_kept}
use Rattle.proof_walk.proofs.InExprs.{places_on, key_some, slots_same, slots_both}

-- ---- marks
pub raised_same : {end a b : ℕ} → b ≡ a → Raised end a b
raised_same h = omega arith

pub raised_then : {end a b c : ℕ} → Raised end a b → Raised end b c → Raised end a c
raised_then h k = omega arith

pub raised_far : {end far a b : ℕ} → end ≤ far → Raised end a b → Raised far a b
raised_far l h = omega arith

-- a later row, with marks raised up to it
pub open_raised : {end r e a b : ℕ} {t : Bool} → Open end r a t → r ≤ e → Raised e a b → Open end e b t
open_raised o l h = record { far = λ p. omega (arith, o.far p); closed = λ p. omega (arith, o.closed p) }

-- ---- slots of rows
slots_between : (w : List ℕ) (r m e : ℕ) → r ≤ m → m ≤ e → slots_from w r (e - r) ≡ slots_from w r (m - r) ++ slots_from w m (e - m)
slots_between w r m e l k =
    let p : e - r ≡ (m - r) + (e - m) = omega arith in
    let q : r + (m - r) ≡ m = omega arith in
    ap (slots_from w r) p ∙ slots_both w r (m - r) (e - m) ∙ ap (λ i. slots_from w r (m - r) ++ slots_from w i (e - m)) q

slots_none : (w : List ℕ) (r n : ℕ) → ((i : ℕ) → r ≤ i → i < r + n → slot_at w i ≡ 0) → slots_from w r n ≡ []
slots_none w r zero h = refl
slots_none w r (suc n) h =
    ap₂ (λ k l. key_of (suc (suc r)) k ++ l) (h r (omega arith) (omega arith)) (slots_none w (suc r) n (λ i l k. h i (omega arith) (omega arith)))

-- the faults of rows r to m, and then of rows m to e, which keep the slots before them
pub slots_then : (w v : List ℕ) (seen fs gs : List Fault) {r m e : ℕ} → r ≤ m → m ≤ e → ((i : ℕ) → i < m → slot_at v i ≡ slot_at w i)
    → slots_from w r (m - r) ≡ keys (dedupe seen fs) → slots_from v m (e - m) ≡ keys (dedupe (seen_after seen fs) gs) → slots_from v r (e - r) ≡ keys (dedupe seen (fs ++ gs))
slots_then w v seen fs gs {r} {m} {e} l k before p q =
    slots_between v r m e l k
    ∙ ap₂ (λ a b. a ++ b) (slots_same w v r (m - r) (λ i h. before i (omega arith)) ∙ p) q
    ∙ sym (ap keys (dedupe_append seen fs gs) ∙ map-append _ (dedupe seen fs) (dedupe (seen_after seen fs) gs))

-- ---- what rows from r on do to the buffer, in the block of s
pub record Change (num : Bytes → ℕ) (s : Scope) (r : ℕ) (w v : List ℕ) : Type 0 where
  pub kept : Kept w v
  pub before : (i : ℕ) → i < r → slot_at v i ≡ slot_at w i
  pub blocks : (x : Bytes) → num x < 4_096 → Raised s.end (block_end w (num x)) (block_end v (num x))

change_then : {num : Bytes → ℕ} {s : Scope} {r m : ℕ} {w v z : List ℕ} → r ≤ m → Change num s r w v → Change num s m v z → Change num s r w z
change_then {num} {s} {r} {m} {w} {v} {z} l p q = record {
  kept = kept_trans p.kept q.kept;
  before = λ i h. q.before i (omega arith) ∙ p.before i h;
  blocks = λ x h. raised_then (p.blocks x h) (q.blocks x h);
}

-- ---- and what holds after them, where the names vs are in view
pub record Done (text : Bytes) (rows : List Row) (num : Bytes → ℕ) (own : OwnNames) (s : Scope) (v : Env) (vs : List Part) (seen fs : List Fault) (w w' : List ℕ) (r e : ℕ) : Type 0 where
  pub far : r ≤ e
  pub after : At text rows num own s [] v vs (seen_after seen fs) w' e
  pub slots : slots_from w' r (e - r) ≡ keys (dedupe seen fs)
  pub change : Change num s r w w'
  pub beyond : (i : ℕ) → e ≤ i → i < 4_096 → flag_at w' i ≡ flag_at w i
  pub early : (i : ℕ) → i < r → flag_at w' i ≡ flag_at w i

-- a part of the text from row r on, whose line is n: the walk has the depth k for it, and it ends at the row stop or before
pub record Spans (size k r n stop : ℕ) : Type 0 where
  pub line : n ≡ suc (suc r)
  pub depth : size ≤ k
  pub inside : r + size ≤ stop

-- a loop comes from row r to row e
pub record Looped {A : Type 0} (text : Bytes) (rows : List Row) (num : Bytes → ℕ) (own : OwnNames) (s : Scope) (v : Env) (loop : ℕ → List ℕ → A) (vs : List Part) (seen fs : List Fault) (w : List ℕ)
    (r e : ℕ) : Type 0 where
  pub there : List ℕ
  pub goes : loop r w ≡ loop e there
  pub done : Done text rows num own s v vs seen fs w there r e

-- a walk of statements from row r to row e, as which x is, hands back the stack as it was
pub record Comes (text : Bytes) (rows : List Row) (num : Bytes → ℕ) (own : OwnNames) (t : ScopeStack) (v : Env) (x : Walk) (vs : List Part) (seen fs : List Fault) (w : List ℕ) (r e : ℕ) : Type 0 where
  pub there : List ℕ
  pub goes : x ≡ walk t there
  pub done : Done text rows num own (top_of t) v vs seen fs w there r e

module _ {text : Bytes} {rows : List Row} {num : Bytes → ℕ} {own : OwnNames} {s : Scope} {v : Env} where
  pub done_then : {us vs : List Part} {seen fs gs : List Fault} {w₀ w₁ w₂ : List ℕ} {r m e : ℕ} → Done text rows num own s v us seen fs w₀ w₁ r m
      → Done text rows num own s v vs (seen_after seen fs) gs w₁ w₂ m e → Done text rows num own s v vs seen (fs ++ gs) w₀ w₂ r e
  done_then {us} {vs} {seen} {fs} {gs} {w₀} {w₁} {w₂} {r} {m} {e} p q = record {
    far = omega (arith, p.far, q.far);
    after = subst (λ l. At text rows num own s [] v vs l w₂ e) (sym (seen_append seen fs gs)) q.after;
    slots = slots_then w₁ w₂ seen fs gs p.far q.far q.change.before p.slots q.slots;
    change = change_then p.far p.change q.change;
    beyond = λ i l k. q.beyond i l k ∙ p.beyond i (omega (arith, q.far)) k;
    early = λ i l. q.early i (omega (arith, p.far)) ∙ p.early i l;
  }

  -- ---- a link is written at row r
  pub done_link : {vs : List Part} {seen fs : List Fault} {w y : List ℕ} {r : ℕ} (x : ℕ) → r < length rows → Done text rows num own s v vs seen fs w y r (suc r)
      → Done text rows num own s v vs seen fs w (put_link y r x) r (suc r)
  done_link {vs} {seen} {fs} {w} {y} {r} x inside p =
      let few = p.after.table.few in
      record {
        far = p.far;
        after = record {
          table = table_kept (kept_fourth y r _) p.after.table;
          words = words_fourth y r _ p.after.words;
          home = p.after.home;
          view = λ a l. open_raised (p.after.view a l) (omega arith) (raised_same (fourth_block y r _ (num a) l));
          params = λ a l. open_raised (p.after.params a l) (omega arith) (raised_same (fourth_lambda y r _ (num a) l));
          flags = λ d i l k. flag_other y r x i (λ q. omega arith) ∙ p.after.flags d i l k;
          locals = p.after.locals;
          others = p.after.others;
          low = λ a l. omega (arith, flag_stamp y r x (num a), p.after.low a l);
          clean = λ i l k. fourth_slot y r _ i (omega arith) ∙ p.after.clean i l k;
          places = p.after.places;
        };
        slots = slots_same y (put_link y r x) r (suc r - r) (λ i l. fourth_slot y r _ i (omega arith)) ∙ p.slots;
        change = record {
          kept = kept_trans p.change.kept (kept_fourth y r _);
          before = λ i l. fourth_slot y r _ i (omega arith) ∙ p.change.before i l;
          blocks = λ a l. raised_then (p.change.blocks a l) (raised_same (fourth_block y r _ (num a) l));
        };
        beyond = λ i l k. flag_other y r x i (λ q. omega arith) ∙ p.beyond i l k;
        early = λ i l. flag_other y r x i (λ q. omega arith) ∙ p.early i l;
      }

  -- ---- rows that keep the fourth numbers, and the captures seen
  module _ {vs : List Part} {seen : List Fault} {w : List ℕ} {r : ℕ} (h : At text rows num own s [] v vs seen w r) where
    record Next (us : List Part) (w' : List ℕ) (e : ℕ) : Type 0 where
      far : r ≤ e
      room : e ≤ length rows
      kept : Kept w w'
      words : Words w'
      view : (x : Bytes) → num x < 4_096 → Open s.end e (block_end w' (num x)) (mem x us)
      blocks : (x : Bytes) → num x < 4_096 → Raised s.end (block_end w (num x)) (block_end w' (num x))
      lambdas : (x : Bytes) → num x < 4_096 → lambda_end w' (num x) ≡ lambda_end w (num x)
      fourths : (a : ℕ) → get_or w' (stamp_base + a) 0 ≡ get_or w (stamp_base + a) 0

    -- fs are no captures
    done_next : {us : List Part} {w' : List ℕ} {e : ℕ} {fs : List Fault} → seen_after seen fs ≡ seen → Next us w' e
        → ((i : ℕ) → i < r → slot_at w' i ≡ slot_at w i) → ((i : ℕ) → e ≤ i → i < length rows → slot_at w' i ≡ 0)
        → slots_from w' r (e - r) ≡ keys (dedupe seen fs) → Done text rows num own s v us seen fs w w' r e
    done_next {us} {w'} {e} {fs} q n before clean slots = record {
      far = n.far;
      after = subst (λ l. At text rows num own s [] v us l w' e) (sym q) at;
      slots = slots;
      change = record {
        kept = n.kept;
        before = before;
        blocks = n.blocks;
      };
      beyond = λ i _ _. ap (λ x. x / 8_192) (n.fourths i);
      early = λ i _. ap (λ x. x / 8_192) (n.fourths i);
    }
      where
        at : At text rows num own s [] v us seen w' e
        at = record {
          table = table_kept n.kept h.table;
          words = n.words;
          home = h.home;
          view = n.view;
          params = λ x l. open_raised (h.params x l) n.far (raised_same (n.lambdas x l));
          flags = λ d i l k. let far = n.far in ap (λ x. x / 8_192) (n.fourths i) ∙ h.flags d i (omega arith) k;
          locals = h.locals;
          others = h.others;
          low = λ x l. let far = n.far in omega (arith, h.low x l, n.fourths (num x));
          clean = clean;
          places = places_on n.far seen h.places;
        }

    -- no fault is there
    done_plain : {us : List Part} {w' : List ℕ} {e : ℕ} → Next us w' e → ((i : ℕ) → i < 4_096 → slot_at w' i ≡ slot_at w i)
        → Done text rows num own s v us seen [] w w' r e
    done_plain {us} {w'} {e} n same =
        let few = h.table.few in
        let room = n.room in
        let far = n.far in
        done_next refl n (λ i l. same i (omega arith)) (λ i l k. same i (omega arith) ∙ h.clean i (omega arith) k)
        (slots_none w' r (e - r) (λ i l k. same i (omega arith) ∙ h.clean i l (omega arith)))

    -- rows that are stepped over
    pub done_skip : {e : ℕ} → r ≤ e → e ≤ length rows → Done text rows num own s v vs seen [] w w r e
    done_skip {e} l k =
        done_plain (record {
          far = l;
          room = k;
          kept = kept_refl w;
          words = h.words;
          view = λ x m. open_raised (h.view x m) l (raised_same refl);
          blocks = λ x m. raised_same refl;
          lambdas = λ x m. refl;
          fourths = λ a. refl;
        }) (λ i m. refl)

    -- a fault at row r, and none below it
    pub done_fault : {e : ℕ} (f : Fault) → capture f.kind ≡ false → f.line ≡ suc (suc r) → 0 < f.kind → f.kind < 16 → r < e → e ≤ length rows
        → Done text rows num own s v vs seen (f ∷ []) w (put_slot w r f.kind) r e
    done_fault {e} f c n pos small l k =
        let few = h.table.few in
        let room = h.table.room in
        let w' : List ℕ = put_slot w r f.kind in
        done_next (rw c refl) (record {
          far = omega arith;
          room = k;
          kept = kept_slot w r f.kind;
          words = words_slot w r f.kind h.words;
          view = λ x m. open_raised (h.view x m) (omega arith) (raised_same (slot_block w r f.kind (num x)));
          blocks = λ x m. raised_same (slot_block w r f.kind (num x));
          lambdas = λ x m. slot_lambda w r f.kind (num x) m;
          fourths = λ a. slot_fourth w r f.kind (omega arith) a;
        })
        (λ i m. slot_other w r f.kind i (λ q. omega arith))
        (λ i m p. slot_other w r f.kind i (λ q. omega arith) ∙ h.clean i (omega arith) p)
        (rw c (slots w' (λ i p q. slot_other w r f.kind i (λ z. omega arith) ∙ h.clean i (omega arith) q) (slot_same w r f.kind room (omega arith) small)))
      where
        slots : (w' : List ℕ) → ((i : ℕ) → r < i → i < length rows → slot_at w' i ≡ 0) → slot_at w' r ≡ f.kind → slots_from w' r (e - r) ≡ keys (f ∷ [])
        slots w' none q =
            let d : e - r ≡ suc (e - suc r) = omega arith in
            ap (slots_from w' r) d
            ∙ ap₂ (λ a b. a ++ b) (ap (key_of (suc (suc r))) q ∙ key_some (suc (suc r)) f.kind pos ∙ ap (λ i. record { line = i; kind = f.kind } ∷ []) (sym n))
            (slots_none w' (suc r) (e - suc r) (λ i p z. none i p (omega arith)))

    -- the name x is bound in the block
    pub done_bind : {e : ℕ} (x : Part) → s.inner ≡ 0 → s.end < 8_192 → num x.bytes < 4_096 → r ≤ e → e ≤ length rows
        → Done text rows num own s v (x ∷ vs) seen [] w (defined s w (num x.bytes)) r e
    done_bind {e} x level end small l k =
        subst (λ z. Done text rows num own s v (x ∷ vs) seen [] w z r e) (sym (defined_block s w (num x.bytes) level))
        (done_plain (record {
          far = l;
          room = k;
          kept = kept_raised_block w (num x.bytes) s.end;
          words = words_raised_block w (num x.bytes) s.end h.words;
          view = λ y m. view y m (same y x.bytes) refl;
          blocks = λ y m. blocks y m (same y x.bytes) refl;
          lambdas = λ y m. raised_block_lambda w (num x.bytes) s.end (num y) m;
          fourths = λ a. raised_block_fourth w (num x.bytes) s.end a;
        }) (λ i m. raised_block_slot w (num x.bytes) s.end h.words i))
      where
        w' : List ℕ
        w' = raised_block w (num x.bytes) s.end

        -- the mark of the name, and those of others
        mark : (y : Bytes) → same y x.bytes ≡ true → block_end w' (num y) ≡ max (block_end w (num y)) s.end
        mark y q =
            subst (λ z. block_end w' (num z) ≡ max (block_end w (num z)) s.end) (sym (same_eq y x.bytes q))
            (raised_block_same w (num x.bytes) s.end h.table.room small end)

        other : (y : Bytes) → num y < 4_096 → same y x.bytes ≡ false → block_end w' (num y) ≡ block_end w (num y)
        other y m q = raised_block_other w (num x.bytes) s.end (num y) (λ d. same_false y x.bytes q (h.table.apart y x.bytes m d))

        view : (y : Bytes) → num y < 4_096 → (t : Bool) → same y x.bytes ≡ t → Open s.end e (block_end w' (num y)) (t || mem y vs)
        view y m true q = record { far = λ _. omega (arith, mark y q); closed = λ p. absurd (true≢false p) }
        view y m false q = open_raised (h.view y m) l (raised_same (other y m q))

        blocks : (y : Bytes) → num y < 4_096 → (t : Bool) → same y x.bytes ≡ t → Raised s.end (block_end w (num y)) (block_end w' (num y))
        blocks y m true q = omega (arith, mark y q)
        blocks y m false q = raised_same (other y m q)

  -- ---- loops
  module _ {A : Type 0} {loop : ℕ → List ℕ → A} {vs : List Part} {seen fs : List Fault} {w : List ℕ} {r : ℕ} where
    pub looped_one : {e : ℕ} {w' : List ℕ} → loop r w ≡ loop e w' → Done text rows num own s v vs seen fs w w' r e → Looped text rows num own s v loop vs seen fs w r e
    looped_one {e} {w'} q d = record { there = w'; goes = q; done = d }

    pub looped_then : {us : List Part} {gs : List Fault} {m e : ℕ} {w' : List ℕ} → loop r w ≡ loop m w' → Done text rows num own s v vs seen fs w w' r m
        → Looped text rows num own s v loop us (seen_after seen fs) gs w' m e → Looped text rows num own s v loop us seen (fs ++ gs) w r e
    looped_then p d q = record { there = q.there; goes = p ∙ q.goes; done = done_then d q.done }

    pub looped_to : {gs : List Fault} {m e : ℕ} → m ≡ e → fs ≡ gs → Looped text rows num own s v loop vs seen fs w r m → Looped text rows num own s v loop vs seen gs w r e
    looped_to {gs} {m} {e} p q l = subst (Looped text rows num own s v loop vs seen gs w r) p (subst (λ fs. Looped text rows num own s v loop vs seen fs w r m) q l)

  -- the loop ends at row e
  pub looped_end : {loop : ℕ → List ℕ → List ℕ} {vs : List Part} {seen fs : List Fault} {w : List ℕ} {r e : ℕ} → ((z : List ℕ) → loop e z ≡ z) → Looped text rows num own s v loop vs seen fs w r e
      → Done text rows num own s v vs seen fs w (loop r w) r e
  looped_end {vs = vs} {seen} {fs} {w} {r} {e} q l = subst (λ z. Done text rows num own s v vs seen fs w z r e) (sym (l.goes ∙ q l.there)) l.done

  pub done_to : {vs : List Part} {seen fs gs : List Fault} {w z : List ℕ} {r m e : ℕ} → m ≡ e → fs ≡ gs → Done text rows num own s v vs seen fs w z r m → Done text rows num own s v vs seen gs w z r e
  done_to {vs} {seen} {fs} {gs} {w} {z} {r} {m} {e} p q d =
      subst (Done text rows num own s v vs seen gs w z r) p (subst (λ fs. Done text rows num own s v vs seen fs w z r m) q d)

-- ---- some rows before a walk of statements
pub comes_then : {text : Bytes} {rows : List Row} {num : Bytes → ℕ} {own : OwnNames} {t : ScopeStack} {v : Env} {x : Walk} {us vs : List Part} {seen fs gs : List Fault} {w w₁ : List ℕ} {r m e : ℕ}
    → Done text rows num own (top_of t) v us seen fs w w₁ r m → Comes text rows num own t v x vs (seen_after seen fs) gs w₁ m e → Comes text rows num own t v x vs seen (fs ++ gs) w r e
comes_then d c = record { there = c.there; goes = c.goes; done = done_then d c.done }
