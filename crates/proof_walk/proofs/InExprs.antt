-- What holds at a row of an expression (`Stands`), and what some of its rows do to the work buffer (`Step`): rows one after the other are a
-- step, and where it stood before a step, it stands after it. The mark of a lambda is raised to the row after a step at most, but for a
-- name that the outermost lambda is blamed for: there it is raised to that lambda's end.
use Rattle.std.proofs.Common.{ℕ, zero, suc, ◌+◌, ◌/◌, ◌≤◌, ◌<◌, max, arith, ◌≡◌, refl, sym, ap, ap₂, ◌∙◌, subst, Bool, true, false, cond, ◌&&◌, ◌||◌, true≢false, List, [], ◌∷◌, ◌++◌, append_assoc, eqb, get_or, ne_eqb}
use Rattle.std.proofs.lemmas.Bool.{false≢true}
use Rattle.std.proofs.lemmas.List.{map-append}
use Rattle.spec_text.specs.Bytes.{Bytes, Part, mem, same, any}
use Rattle.spec_faults.specs.Position.{Placed, Home, in_module, in_def}
use Rattle.spec_faults.specs.Faults.{Fault, capture}
use Rattle.spec_faults.proofs.Lists.{Each, each_map, any_quiet}
use Rattle.spec_faults.proofs.ListingWalk.{State, Env}
use Rattle.spec_faults.proofs.Deduped.{same_capture, dedupe, seen_after, dedupe_append, seen_append}
use Rattle.work_rows.specs.Rows.{Row}
use Rattle.work_marks.specs.MarksModel.{stamp_base, lambda_end, block_end, slot_at}
use Rattle.work_marks.proofs.Writes.{Words, Kept, kept_refl, kept_trans}
use Rattle.walk_scopes.specs.ScopesModel.{Scope}
use Rattle.proof_walk.specs.Notes.{OwnNames}
use Rattle.proof_walk.specs.Slots.{key_of, slots_from, keys}
use Rattle.proof_walk.proofs.State.{Open, blamed, place_of, Places, At}
use Rattle.proof_walk.proofs.PartRows.{table_kept}

-- ---- names that a lambda is blamed for
pub places_on : {r i : ℕ} → r ≤ i → (seen : List Fault) → Places r seen → Places i seen
places_on l seen p = each_map _ _ (λ g h. (h.0, omega arith)) seen p

-- no capture has its place at this line
not_blamed : (place : ℕ) (x : Bytes) (seen : List Fault) → Each (λ (g : Fault). g.place ≡ place → ⊥) seen → blamed place seen x ≡ false
not_blamed place x seen h =
    any_quiet _ seen (each_map _ _ (λ g d. ap (λ t. t && same x g.name.bytes) (ne_eqb g.place place d)) seen h)

pub none_blamed : (x : Bytes) (r : ℕ) (seen : List Fault) → Places r seen → blamed 0 seen x ≡ false
none_blamed x r seen p = not_blamed 0 x seen (each_map _ _ (λ g h e. omega (arith, h.0)) seen p)

pub later_blamed : (x : Bytes) (r : ℕ) (seen : List Fault) → Places r seen → blamed (suc (suc r)) seen x ≡ false
later_blamed x r seen p = not_blamed (suc (suc r)) x seen (each_map _ _ (λ g h e. omega (arith, h.1)) seen p)

-- who is blamed stays so
or_right : (a b : Bool) → b ≡ true → (a || b) ≡ true
or_right true b e = refl
or_right false b e = e

still_blamed : (place : ℕ) (x : Bytes) (seen fs : List Fault) → blamed place seen x ≡ true → blamed place (seen_after seen fs) x ≡ true
still_blamed place x seen [] e = e
still_blamed place x seen (f ∷ fs) e =
    go (capture f.kind) (any (same_capture f) seen) (still_blamed place x seen fs e)
    (still_blamed place x (f ∷ seen) fs (or_right (eqb f.place place && same x f.name.bytes) (blamed place seen x) e))
  where
    go : (c m : Bool) → blamed place (seen_after seen fs) x ≡ true → blamed place (seen_after (f ∷ seen) fs) x ≡ true
        → blamed place (cond c (cond m (seen_after seen fs) (seen_after (f ∷ seen) fs)) (seen_after seen fs)) x ≡ true
    go false m a b = a
    go true true a b = a
    go true false a b = b

blamed_before : (place : ℕ) (x : Bytes) (seen fs : List Fault) → blamed place (seen_after seen fs) x ≡ false → blamed place seen x ≡ false
blamed_before place x seen fs e = go (blamed place seen x) refl
  where
    go : (b : Bool) → blamed place seen x ≡ b → b ≡ false
    go true d = sym (still_blamed place x seen fs d) ∙ e
    go false d = refl

-- ---- at a row
-- a name that a lambda is blamed for is faulty at each read there
pub data Captured (home : Home) (locals : List Part) (st : State) (x : Bytes) : Type 0 where
  not_assigned : home ≡ in_def → mem x locals ≡ true → mem x st.assigned ≡ false → Captured home locals st x
  not_in_view : home ≡ in_module → mem x locals ≡ false → mem x st.view ≡ false → Captured home locals st x

-- at row r of an expression, with what holds of those names
pub record Stands (text : Bytes) (rows : List Row) (num : Bytes → ℕ) (own : OwnNames) (s : Scope) (ls : List Placed) (v : Env) (st : State) (seen : List Fault) (w : List ℕ) (r : ℕ) : Type 0 where
  pub at : At text rows num own s ls v st.view seen w r
  pub captured : (x : Bytes) → blamed (place_of ls) seen x ≡ true → Captured v.home v.locals st x
  pub far : (x : Bytes) → num x < 4_096 → blamed (place_of ls) seen x ≡ true → s.outer ≤ lambda_end w (num x)

-- n rows from row r on, with the faults fs, took the buffer w to z
pub record Step (num : Bytes → ℕ) (s : Scope) (ls : List Placed) (v : Env) (st : State) (seen : List Fault) (r n : ℕ) (w z : List ℕ) (fs : List Fault) : Type 0 where
  pub kept : Kept w z
  pub words : Words z
  pub slots : slots_from z r n ≡ keys (dedupe seen fs)
  pub before : (i : ℕ) → i < r → slot_at z i ≡ slot_at w i
  pub beyond : (i : ℕ) → r + n ≤ i → slot_at z i ≡ slot_at w i
  pub blocks : (a : ℕ) → block_end z a ≡ block_end w a
  pub fourths : (a : ℕ) → get_or z (stamp_base + a) 0 ≡ get_or w (stamp_base + a) 0
  pub up : (x : Bytes) → num x < 4_096 → lambda_end w (num x) ≤ lambda_end z (num x)
  pub near : (x : Bytes) → num x < 4_096 → blamed (place_of ls) (seen_after seen fs) x ≡ false → lambda_end z (num x) ≤ max (lambda_end w (num x)) (r + n)
  pub most : (x : Bytes) → num x < 4_096 → lambda_end z (num x) ≤ max (lambda_end w (num x)) (max s.outer (r + n))
  pub far : (x : Bytes) → num x < 4_096 → blamed (place_of ls) (seen_after seen fs) x ≡ true → s.outer ≤ lambda_end z (num x)
  pub captured : (x : Bytes) → blamed (place_of ls) (seen_after seen fs) x ≡ true → Captured v.home v.locals st x
  pub places : Places (r + n) (seen_after seen fs)

-- ---- slots of rows one after the other
pub key_some : (n k : ℕ) → 0 < k → key_of n k ≡ record { line = n; kind = k } ∷ []
key_some n zero l = absurd (omega arith)
key_some n (suc k) l = refl

pub slots_same : (w z : List ℕ) (r n : ℕ) → ((i : ℕ) → i < r + n → slot_at z i ≡ slot_at w i) → slots_from z r n ≡ slots_from w r n
slots_same w z r zero h = refl
slots_same w z r (suc n) h =
    ap₂ (λ k l. key_of (suc (suc r)) k ++ l) (h r (omega arith)) (slots_same w z (suc r) n (λ i l. h i (omega arith)))

pub slots_both : (w : List ℕ) (r n m : ℕ) → slots_from w r (n + m) ≡ slots_from w r n ++ slots_from w (r + n) m
slots_both w r zero m =
    let e : 0 + m ≡ m = omega arith in
    let d : r ≡ r + 0 = omega arith in
    ap₂ (λ k i. slots_from w i k) e d
slots_both w r (suc n) m =
    let e : suc n + m ≡ suc (n + m) = omega arith in
    let d : suc r + n ≡ r + suc n = omega arith in
    ap (slots_from w r) e
    ∙ (ap (λ l. key_of (suc (suc r)) (slot_at w r) ++ l) (slots_both w (suc r) n m ∙ ap (λ i. slots_from w (suc r) n ++ slots_from w i m) d)
    ∙ sym (append_assoc (key_of (suc (suc r)) (slot_at w r)) (slots_from w (suc r) n) (slots_from w (r + suc n) m)))

-- ---- later rows
pub open_on : {end r i mark : ℕ} {b : Bool} → r ≤ i → Open end r mark b → Open end i mark b
open_on l o = record { far = o.far; closed = λ e. omega (arith, o.closed e) }

module _ {num : Bytes → ℕ} {s : Scope} {ls : List Placed} {v : Env} {st : State} where
  pub step_both : {seen : List Fault} {r n m : ℕ} {w y z : List ℕ} {fs gs : List Fault} → Step num s ls v st seen r n w y fs
      → Step num s ls v st (seen_after seen fs) (r + n) m y z gs → Step num s ls v st seen r (n + m) w z (fs ++ gs)
  step_both {seen} {r} {n} {m} {w} {y} {z} {fs} {gs} p q =
      let e : seen_after seen (fs ++ gs) ≡ seen_after (seen_after seen fs) gs = seen_append seen fs gs in
      let d : r + n + m ≡ r + (n + m) = omega arith in
      record {
        kept = kept_trans p.kept q.kept;
        words = q.words;
        slots = slots_both z r n m
            ∙ ap₂ ◌++◌ (slots_same y z r n q.before ∙ p.slots) q.slots
            ∙ sym (ap keys (dedupe_append seen fs gs) ∙ map-append _ (dedupe seen fs) (dedupe (seen_after seen fs) gs));
        before = λ i l. q.before i (omega arith) ∙ p.before i l;
        beyond = λ i l. q.beyond i (omega arith) ∙ p.beyond i (omega arith);
        blocks = λ a. q.blocks a ∙ p.blocks a;
        fourths = λ a. q.fourths a ∙ p.fourths a;
        up = λ x l. omega (arith, p.up x l, q.up x l);
        near = λ x l b.
            let c : blamed (place_of ls) (seen_after (seen_after seen fs) gs) x ≡ false = ap (λ t. blamed (place_of ls) t x) (sym e) ∙ b in
            omega (arith, p.near x l (blamed_before (place_of ls) x (seen_after seen fs) gs c), q.near x l c);
        most = λ x l. omega (arith, p.most x l, q.most x l);
        far = λ x l b. q.far x l (ap (λ t. blamed (place_of ls) t x) (sym e) ∙ b);
        captured = λ x b. q.captured x (ap (λ t. blamed (place_of ls) t x) (sym e) ∙ b);
        places = subst (λ t. Places (r + (n + m)) t) (sym e) (subst (λ i. Places i (seen_after (seen_after seen fs) gs)) d q.places);
      }

  -- a row without a fault, and those after it
  pub step_below : {seen : List Fault} {r n : ℕ} {w z : List ℕ} {fs : List Fault} → slot_at w r ≡ 0 → Step num s ls v st seen (suc r) n w z fs
      → Step num s ls v st seen r (suc n) w z fs
  step_below {seen} {r} {n} {w} {z} {fs} c p =
      let d : suc r + n ≡ r + suc n = omega arith in
      record {
        kept = p.kept;
        words = p.words;
        slots = ap (λ k. key_of (suc (suc r)) k ++ slots_from z (suc r) n) (p.before r (omega arith) ∙ c) ∙ p.slots;
        before = λ i l. p.before i (omega arith);
        beyond = λ i l. p.beyond i (omega arith);
        blocks = p.blocks;
        fourths = p.fourths;
        up = p.up;
        near = λ x l b. omega (arith, p.near x l b);
        most = λ x l. omega (arith, p.most x l);
        far = p.far;
        captured = p.captured;
        places = subst (λ i. Places i (seen_after seen fs)) d p.places;
      }

  module _ {text : Bytes} {rows : List Row} {own : OwnNames} {seen : List Fault} {r : ℕ} {w : List ℕ} (p : Stands text rows num own s ls v st seen w r) where
    -- rows that write nothing
    pub step_quiet : (n : ℕ) (fs : List Fault) → slots_from w r n ≡ [] → dedupe seen fs ≡ [] → seen_after seen fs ≡ seen → Step num s ls v st seen r n w w fs
    step_quiet n fs c d e = record {
      kept = kept_refl w;
      words = p.at.words;
      slots = c ∙ ap keys (sym d);
      before = λ i l. refl;
      beyond = λ i l. refl;
      blocks = λ a. refl;
      fourths = λ a. refl;
      up = λ x l. omega arith;
      near = λ x l b. omega arith;
      most = λ x l. omega arith;
      far = λ x l b. p.far x l (ap (λ t. blamed (place_of ls) t x) (sym e) ∙ b);
      captured = λ x b. p.captured x (ap (λ t. blamed (place_of ls) t x) (sym e) ∙ b);
      places = subst (Places (r + n)) (sym e) (places_on (omega arith) seen p.at.places);
    }

    -- at a later row, where nothing was walked between
    pub stands_on : {i : ℕ} → r ≤ i → Stands text rows num own s ls v st seen w i
    stands_on l = record {
      at = record {
        table = p.at.table;
        words = p.at.words;
        home = p.at.home;
        view = λ x j. open_on l (p.at.view x j);
        params = λ x j. open_on l (p.at.params x j);
        flags = λ d i j k. p.at.flags d i (omega arith) k;
        locals = p.at.locals;
        others = p.at.others;
        low = λ x j. omega (arith, p.at.low x j);
        clean = λ i j k. p.at.clean i (omega arith) k;
        places = places_on l seen p.at.places;
      };
      captured = p.captured;
      far = p.far;
    }

    -- after a step
    pub onward : {n : ℕ} {z : List ℕ} {fs : List Fault} → s.inner ≤ s.outer → Step num s ls v st seen r n w z fs
        → Stands text rows num own s ls v st (seen_after seen fs) z (r + n)
    onward {n} {z} {fs} low q = record {
      at = record {
        table = table_kept q.kept p.at.table;
        words = q.words;
        home = p.at.home;
        view = λ x l. subst (λ m. Open s.end (r + n) m (mem x st.view)) (sym (q.blocks (num x))) (open_on (omega arith) (p.at.view x l));
        params = λ x l. marked x l (mem x v.params) (blamed (place_of ls) (seen_after seen fs) x) refl refl;
        flags = λ d i j k. ap (λ x. x / 8_192) (q.fourths i) ∙ p.at.flags d i (omega arith) k;
        locals = p.at.locals;
        others = p.at.others;
        low = λ x l. omega (arith, q.fourths (num x), p.at.low x l);
        clean = λ i l k. q.beyond i l ∙ p.at.clean i (omega arith) k;
        places = q.places;
      };
      captured = q.captured;
      far = q.far;
    }
      where
        marked : (x : Bytes) → num x < 4_096 → (a b : Bool) → mem x v.params ≡ a → blamed (place_of ls) (seen_after seen fs) x ≡ b
            → Open s.inner (r + n) (lambda_end z (num x)) (mem x v.params || blamed (place_of ls) (seen_after seen fs) x)
        marked x l true b e d = record {
          far = λ _. omega (arith, (p.at.params x l).far (ap (λ t. t || blamed (place_of ls) seen x) e), q.up x l);
          closed = λ c. absurd (true≢false (sym (ap (λ t. t || blamed (place_of ls) (seen_after seen fs) x) e) ∙ c));
        }
        marked x l false true e d = record {
          far = λ _. omega (arith, q.far x l d);
          closed = λ c. absurd (true≢false (sym (ap₂ ◌||◌ e d) ∙ c));
        }
        marked x l false false e d = record {
          far = λ c. absurd (false≢true (sym (ap₂ ◌||◌ e d) ∙ c));
          closed = λ _. omega (arith, q.near x l d, (p.at.params x l).closed (ap₂ ◌||◌ e (blamed_before (place_of ls) x seen fs d)));
        }
