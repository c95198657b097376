-- What is listed at each row shows the faults that have it as their place, in their order. The listing goes down the rows and knows the
-- outermost lambda and class around; a fault's row, and how it came to its place, tell in which list it stands.
use Rattle.std.proofs.Math.Decide.{ℕ_discrete, dec_lt}
use Rattle.std.proofs.lemmas.Bool.{false≢true, eqb-false}
use Rattle.spec_faults.specs.Faults.{Fault, capture, by_place}
use Rattle.spec_faults.proofs.Lists.{All, none, also, and_split}
use Rattle.spec_faults.proofs.Once.{placed}
use Rattle.work_rows.specs.Layout.{kind_at, lines_below, after_row}
use Rattle.work_marks.specs.MarksModel.{slot_at}
use Rattle.work_rows.specs.Rows.{Row}
use Rattle.read_tree.specs.Laid.{no_row}
use Rattle.proof_walk.specs.Slots.{Key, key_of, slots_from, keys}
use Rattle.report_order.specs.declared.Around.{Around}
use Rattle.work_marks.specs.Signs.{fault_of}
use Rattle.std.proofs.Common.{None, not, ℕ, zero, suc, ◌+◌, ◌≤◌, ◌<◌, arith, add-one, ◌≡◌, refl, sym, ap, ◌∙◌, subst, Bool, true, false, cond, ◌&&◌, ◌||◌, List, [], ◌∷◌, ◌++◌, append-nil, eqb, leb, length, get_or, eqb-true, eq-eqb, ne_eqb, leb-true, leb-false, lt-ltb, le-leb}
use Rattle.spec_faults.proofs.KindNumbers.{number_again}
use Rattle.report_order.specs.OrderModel.{entry, number_of, slot_in, captured, captures, called, itself, new_lambda, around, placed_at, entries_from, any_slot}
use Rattle.proof_order.specs.Shown.{Shows, Pairs}
use Rattle.proof_order.proofs.Reach.{word_in, end_in, Free}
use Rattle.proof_order.proofs.Right.{Outer, Way, at_row, at_call, at_lambda, in_class, Right}

-- ---- a slot that has a number from 8 to 15 has the kind of that number
slot_again : (n : ℕ) → 8 ≤ n → n ≤ 15 → number_of (fault_of n) ≡ n
slot_again n l m = rw (le-leb 8 n l, le-leb n 15 m) (number_again n l m)

-- ---- the slots of m rows from row i on are these faults
pub data Slotted (w : List ℕ) : ℕ → ℕ → List Fault → Type 0 where
  end : {i : ℕ} → Slotted w i 0 []
  free : {i m : ℕ} {fs : List Fault} → slot_in w i ≡ 0 → Slotted w (suc i) m fs → Slotted w i (suc m) fs
  held : {i m : ℕ} {f : Fault} {fs : List Fault} → f.line ≡ suc (suc i) → slot_in w i ≡ f.kind → Slotted w (suc i) m fs → Slotted w i (suc m) (f ∷ fs)

pub slotted : {rows : List Row} (w : List ℕ) (m i : ℕ) (fs : List Fault) → i + m ≤ 4_096 → All (Right rows) fs → slots_from w i m ≡ keys fs → Slotted w i m fs
slotted w zero i [] l r e = end
slotted w zero i (f ∷ fs) l r e = absurd cc
slotted {rows} w (suc m) i fs l r e = go (slot_at w i) refl fs r e (λ gs. slotted w m (suc i) gs (omega arith))
  where
    here : slot_in w i ≡ number_of (fault_of (slot_at w i))
    here = ap (λ b. number_of (cond b (fault_of (slot_at w i)) None)) (lt-ltb i 4_096 (omega arith))

    go : (k : ℕ) → slot_at w i ≡ k → (fs : List Fault) → All (Right rows) fs → key_of (suc (suc i)) k ++ slots_from w (suc i) m ≡ keys fs
        → ((gs : List Fault) → All (Right rows) gs → slots_from w (suc i) m ≡ keys gs → Slotted w (suc i) m gs) → Slotted w i (suc m) fs
    go zero q fs r e more = free (here ∙ ap (λ k. number_of (fault_of k)) q) (more fs r e)
    go (suc k) q [] r e more = absurd cc
    go (suc k) q (f ∷ fs) (also r rs) e more =
        let a : ◌≡◌ {A = Key} (record { line = suc (suc i); kind = suc k }) (record { line = f.line; kind = f.kind }) = cc in
        let b : slots_from w (suc i) m ≡ keys fs = cc in
        let kind : slot_at w i ≡ f.kind = q ∙ ap (λ (x : Key). x.kind) a in
        held (sym (ap (λ (x : Key). x.line) a)) (here ∙ ap (λ k. number_of (fault_of k)) kind ∙ slot_again f.kind r.kind.0 r.kind.1) (more fs rs b)

-- where no slot has a fault, they are those of none
pub no_slots : (w : List ℕ) (m i : ℕ) → any_slot w m i ≡ false → slots_from w i m ≡ keys []
unfolding any_slot
no_slots w zero i e = refl
no_slots w (suc m) i e = go (slot_at w i) e (no_slots w m (suc i))
  where
    go : (k : ℕ) → (not (eqb k 0) || any_slot w m (i + 1)) ≡ false → (any_slot w m (suc i) ≡ false → slots_from w (suc i) m ≡ [])
        → key_of (suc (suc i)) k ++ slots_from w (suc i) m ≡ []
    go zero e more = more (rw add-one at e)
    go (suc k) e more = absurd (false≢true (sym e ∙ rw (ne_eqb (suc k) 0 (λ q. omega arith))))

-- ---- what is around
-- of the rows of the word k before row p: where p is before `end`, one of them reaches to `end`; the outermost over p is `top`, and ends there
pub record Over (rows : List Row) (k p top end : ℕ) : Type 0 where
  pub some : p < end → (q : ℕ) × (q < p) × (word_in rows q ≡ k) × (end ≤ end_in rows q)
  pub all : (c : ℕ) → word_in rows c ≡ k → Free rows k c → c < p → p < end_in rows c → (c ≡ top) × (end_in rows c ≡ end)

pub over_start : {rows : List Row} {k p : ℕ} → Free rows k p → Over rows k p 0 0
over_start f = record { some = λ l. absurd (omega arith); all = λ c e _ l m. absurd (omega (arith, f.before c l e)) }

-- a row of that word that is not taken is not past the end
not_taken : (a b k : ℕ) {end p : ℕ} → a ≡ b → (eqb a k && leb end p) ≡ false → b ≡ k → p < end
not_taken a b k {end} {p} e f d = leb-false end p (ap (λ t. t && leb end p) (sym (eq-eqb a k (e ∙ d))) ∙ f)

over_next : {rows : List Row} {k p top end : ℕ} (a e : ℕ) → a ≡ word_in rows p → e ≡ end_in rows p → Over rows k p top end
    → Over rows k (suc p) (cond (eqb a k && leb end p) p top) (cond (eqb a k && leb end p) e end)
over_next {rows} {k} {p} {top} {end} a e word last o = go (eqb a k && leb end p) refl
  where
    go : (b : Bool) → (eqb a k && leb end p) ≡ b → Over rows k (suc p) (cond b p top) (cond b e end)
    go true t = record { some = λ l. (p, omega arith, sym word ∙ here, omega arith); all = λ c d f l m. at c d f l m (ℕ_discrete c p) }
      where
        here : a ≡ k
        here = eqb-true a k (and_split (eqb a k) (leb end p) t).0

        out : end ≤ p
        out = leb-true end p (and_split (eqb a k) (leb end p) t).1

        at : (c : ℕ) → word_in rows c ≡ k → Free rows k c → c < suc p → suc p < end_in rows c → Dec (c ≡ p) → (c ≡ p) × (end_in rows c ≡ e)
        at c d f l m (yes s) = (s, ap (end_in rows) s ∙ sym last)
        at c d f l m (no n) = absurd (omega (arith, (o.all c d f (omega arith) (omega arith)).1, out))
    go false t = record { some = λ l. let q = o.some (omega arith) in (q.0, omega (arith, q.1), q.2, q.3); all = λ c d f l m. at c d f l m (ℕ_discrete c p) }
      where
        at : (c : ℕ) → word_in rows c ≡ k → Free rows k c → c < suc p → suc p < end_in rows c → Dec (c ≡ p) → (c ≡ top) × (end_in rows c ≡ end)
        at c d f l m (yes s) =
            let l : p < end = not_taken a (word_in rows p) k word t (ap (word_in rows) (sym s) ∙ d) in
            let q = o.some l in
            absurd (omega (arith, f.before q.0 (omega (arith, q.1)) q.2, q.3))
        at c d f l m (no n) = o.all c d f (omega arith) (omega arith)

-- ---- one for one
pairs_append : {A B : Type 0} {R : A → B → Type 0} {a b : List A} {c d : List B} → Pairs R a c → Pairs R b d → Pairs R (a ++ b) (c ++ d)
pairs_append Pairs.none q = q
pairs_append (Pairs.pair h p) q = Pairs.pair h (pairs_append p q)

module _ {rows : List Row} where
  -- an entry, if it is listed where its fault is kept
  one_more_lem : {f : Fault} {fs : List Fault} {e : ℕ} {es : List ℕ} (t u : Bool) → t ≡ u → (u ≡ true → Shows rows e f) → Pairs (Shows rows) es fs
      → Pairs (Shows rows) (cond t (e ∷ []) [] ++ es) (cond u (f ∷ fs) fs)
  one_more_lem t true q s p = rw q (Pairs.pair (s refl) p)
  one_more_lem t false q s p = rw q p

  shows_as : {f : Fault} (r : Right rows f) (k o i : ℕ) → k ≡ f.kind → o ≡ r.of → i ≡ r.row → Shows rows (entry k o i) f
  shows_as {f} r k o i a b c = subst (λ e. Shows rows e f) (let e : entry f.kind r.of r.row ≡ entry k o i = omega arith in e) r.shows

  -- a fault that is not on row p has its place there only if p is its call or its outermost lambda
  away : (p : ℕ) {f : Fault} (r : Right rows f) → p < r.row → (word_in rows p ≡ 21 → r.row ≡ suc p → ⊥) → (Outer rows 28 p r.row → ⊥)
      → eqb (suc (suc p)) f.place ≡ false
  away p {f} r l call lam = ne_eqb (suc (suc p)) f.place (λ e. go r.way (omega (arith, r.place)))
    where
      go : {k o a : ℕ} → Way rows k o r.row a → a ≡ p → ⊥
      go (at_row t b c) e = omega arith
      go (at_call t b c d) e = call (ap (word_in rows) (sym e) ∙ d) (omega arith)
      go (at_lambda t b u) e = lam (subst (λ a. Outer rows 28 a r.row) e u)
      go (in_class t b c u) e = omega arith

  none_placed : {w : List ℕ} {i m : ℕ} {fs : List Fault} (p : ℕ) → p < i → (word_in rows p ≡ 21 → suc p < i) → ((j : ℕ) → i ≤ j → Outer rows 28 p j → ⊥)
      → Slotted w i m fs → All (Right rows) fs → placed (suc (suc p)) fs ≡ []
  none_placed p l call lam end none = refl
  none_placed p l call lam (free e s) r = none_placed p (omega arith) (λ d. omega (arith, call d)) (λ j h. lam j (omega arith)) s r
  none_placed p l call lam (held {i} q k s) (also r rs) =
      let at : r.row ≡ i = omega (arith, r.line) in
      rw (away p r (omega arith) (λ d e. omega (arith, call d)) (lam r.row (omega arith)))
      (none_placed p (omega arith) (λ d. omega (arith, call d)) (λ j h. lam j (omega arith)) s rs)

-- ---- where a fault is placed, and what the tests of its kind say
-- a test of its kind says whether its place is row p, and if so it shows p's span
record Told (test : Bool) (p o a : ℕ) : Type 0 where
  same : test ≡ eqb (suc (suc p)) (suc (suc a))
  span : test ≡ true → p ≡ o

told_no : (t : Bool) {p o a : ℕ} → t ≡ false → (a ≡ p → ⊥) → Told t p o a
told_no t {p} {o} {a} e d = record { same = e ∙ sym (ne_eqb (suc (suc p)) (suc (suc a)) (λ q. d (omega arith))); span = λ q. absurd (false≢true (sym e ∙ q)) }

told_yes : (t : Bool) {p o a : ℕ} → t ≡ true → a ≡ p → o ≡ a → Told t p o a
told_yes t {p} {o} {a} e d s = record { same = e ∙ sym (eq-eqb (suc (suc p)) (suc (suc a)) (omega arith)); span = λ q. omega arith }

module _ {rows : List Row} where
  told_captured : {k o i a : ℕ} (p : ℕ) → word_in rows p ≡ 28 → ((c : ℕ) → Outer rows 28 c i → c ≡ p) → p < i → Way rows k o i a → Told (capture k) p o a
  told_captured {k} p word top l (at_row t b c) = told_no (capture k) t.capture (λ e. omega arith)
  told_captured {k} p word top l (at_call t b c d) = told_no (capture k) t.capture (λ e. omega (arith, ap (word_in rows) e))
  told_captured {k} {a} p word top l (at_lambda t b u) = told_yes (capture k) t.capture (top a u) b
  told_captured {k} p word top l (in_class t b c u) = told_no (capture k) t.capture (λ e. omega arith)

  told_called : {k o i a : ℕ} (p : ℕ) → word_in rows p ≡ 21 → i ≡ suc p → Way rows k o i a → Told (eqb k 9 || eqb k 12) p o a
  told_called {k} p word l (at_row t b c) = told_no (eqb k 9 || eqb k 12) t.callee (λ e. omega arith)
  told_called {k} p word l (at_call t b c d) = told_yes (eqb k 9 || eqb k 12) t.callee (omega arith) b
  told_called {k} p word l (at_lambda t b u) = told_no (eqb k 9 || eqb k 12) t.callee (λ e. omega (arith, ap (word_in rows) e, u.word))
  told_called {k} p word l (in_class t b c u) = told_no (eqb k 9 || eqb k 12) t.callee (λ e. omega arith)

  -- one fault more, if the test of its kind tells its place
  told_more : {f : Fault} (r : Right rows f) {fs : List Fault} {es : List ℕ} (p i : ℕ) (t : Bool) → Told t p r.of r.at → r.row ≡ i → Pairs (Shows rows) es fs
      → Pairs (Shows rows) (cond t (entry f.kind p i ∷ []) [] ++ es) (cond (eqb (suc (suc p)) f.place) (f ∷ fs) fs)
  told_more {f} r p i t d e s =
      one_more_lem t (eqb (suc (suc p)) f.place) (d.same ∙ ap (eqb (suc (suc p))) (sym r.place))
      (λ q. shows_as r f.kind p i refl (d.span (d.same ∙ ap (eqb (suc (suc p))) (sym r.place) ∙ q)) (sym e)) s

-- ---- the rows
module _ (rows : List Row) (w : List ℕ) where
  -- the captures of the lambda at row p, which is the outermost of those over the rows below it
  captures_shown : (p : ℕ) → word_in rows p ≡ 28 → ((c i : ℕ) → p < i → i < end_in rows p → Outer rows 28 c i → c ≡ p) → (n : ℕ) {i m : ℕ} {fs : List Fault}
      → i + n ≡ end_in rows p → p < i → n ≤ m → Slotted w i m fs → All (Right rows) fs → Pairs (Shows rows) (captures w p n i) (placed (suc (suc p)) fs)
  unfolding captures captured
  captures_shown p word top zero e l z s r = rw (none_placed p l (λ d. absurd (omega arith)) (λ j h u. omega (arith, u.over)) s r) Pairs.none
  captures_shown p word top (suc n) e l z end r = absurd (omega arith)
  captures_shown p word top (suc n) {i} e l z (free q s) r = rw (q, add-one i) (captures_shown p word top n (omega arith) (omega arith) (omega arith) s r)
  captures_shown p word top (suc n) {i} e l z (held {f} q k s) (also r rs) =
      let at : r.row ≡ i = omega (arith, r.line) in
      rw (k, add-one i) (told_more r p i (capture f.kind) (told_captured p word (λ c. top c r.row (omega arith) (omega arith)) (omega arith) r.way) at
      (captures_shown p word top n (omega arith) (omega arith) (omega arith) s rs))

  -- the callee of the call at row p
  called_shown : (p : ℕ) → word_in rows p ≡ 21 → {m : ℕ} {fs : List Fault} → 0 < m → Slotted w (suc p) m fs → All (Right rows) fs
      → Pairs (Shows rows) (called w p) (placed (suc (suc p)) fs)
  unfolding called
  called_shown p word z end r = absurd (omega arith)
  called_shown p word z (free q s) r =
      rw (add-one p, q, none_placed p (omega arith) (λ d. omega arith) (λ j h u. omega (arith, u.word)) s r) Pairs.none
  called_shown p word z (held {f} {fs} q k s) (also r rs) =
      let at : r.row ≡ suc p = omega (arith, r.line) in
      let rest : Pairs (Shows rows) [] (placed (suc (suc p)) fs) =
      rw (none_placed p (omega arith) (λ d. omega arith) (λ j h u. omega (arith, u.word)) s rs) Pairs.none in
      rw (add-one p, k) (rw append-nil at (told_more r p (suc p) (eqb f.kind 9 || eqb f.kind 12) (told_called p word at r.way) at rest))

  -- row p itself; c is the class around a method
  itself_shown : (p c : ℕ) {f : Fault} (r : Right rows f) {fs : List Fault} {es : List ℕ} → r.row ≡ p → slot_in w p ≡ f.kind
      → (word_in rows p ≡ 14 → (o : ℕ) → Outer rows 13 o p → c ≡ o) → Pairs (Shows rows) es fs
      → Pairs (Shows rows) (itself w c p ++ es) (cond (eqb (suc (suc p)) f.place) (f ∷ fs) fs)
  unfolding itself
  itself_shown p c {f} r {fs} {es} at k cls s = rw k (go r.way refl refl refl refl)
    where
      go : {k o i a : ℕ} → Way rows k o i a → k ≡ f.kind → o ≡ r.of → i ≡ r.row → a ≡ r.at
          → Pairs (Shows rows) (cond (eqb k 8 || (eqb k 11 || eqb k 14)) (entry k p p ∷ []) (cond (eqb k 15) (entry 15 c p ∷ []) []) ++ es)
          (cond (eqb (suc (suc p)) f.place) (f ∷ fs) fs)
      go {k} (at_row t b d) e g h j =
          rw (t.own, eq-eqb (suc (suc p)) f.place (omega (arith, r.place))) (Pairs.pair (shows_as r k p p e (omega arith) (omega arith)) s)
      go (at_call t b d u) e g h j = rw (t.own, t.selfless, ne_eqb (suc (suc p)) f.place (λ q. omega (arith, r.place))) s
      go (at_lambda t b u) e g h j = rw (t.own, t.selfless, ne_eqb (suc (suc p)) f.place (λ q. omega (arith, r.place, u.before))) s
      go {k} {o} (in_class t b d u) e g h j =
          let v : c ≡ o = cls (ap (word_in rows) (sym (h ∙ at) ∙ b) ∙ d) o (subst (Outer rows 13 o) (h ∙ at) u) in
          rw (t.own, t.selfless, eq-eqb (suc (suc p)) f.place (omega (arith, r.place)))
          (Pairs.pair (shows_as r 15 c p (sym (eqb-true k 15 t.selfless) ∙ e) (v ∙ g) (omega arith)) s)

  -- the rows below row p
  below_shown : (p : ℕ) (x : Around) {top m : ℕ} {fs : List Fault} → kind_at w p ≡ word_in rows p → lines_below w p ≡ (get_or rows p no_row).below
      → end_in rows p ≤ suc p + m → (word_in rows p ≡ 21 → 0 < m) → Over rows 28 p top x.lambda → Slotted w (suc p) m fs → All (Right rows) fs
      → Pairs (Shows rows) (cond (new_lambda w x p) (captures w p (lines_below w p) (p + 1)) [] ++ cond (eqb (kind_at w p) 21) (called w p) []) (placed (suc (suc p)) fs)
  below_shown p x {top} {m} {fs} word below room call o s r = go (new_lambda w x p) refl (eqb (kind_at w p) 21) refl
    where
      outermost : word_in rows p ≡ 28 → x.lambda ≤ p → (c i : ℕ) → p < i → i < end_in rows p → Outer rows 28 c i → c ≡ p
      outermost e l c i h k u = at (dec_lt c p) (dec_lt p c)
        where
          at : Dec (c < p) → Dec (p < c) → c ≡ p
          at (yes a) d = absurd (omega (arith, (o.all c u.word u.free a (omega (arith, u.over))).1, u.over))
          at (no a) (yes b) = absurd (omega (arith, u.free.before p b e, u.before))
          at (no a) (no b) = omega arith

      no_lambda : new_lambda w x p ≡ false → word_in rows p ≡ 28 → Free rows 28 p → ⊥
      no_lambda d e f =
          let l : p < x.lambda = not_taken (kind_at w p) (word_in rows p) 28 word d e in
          let q = o.some l in
          omega (arith, f.before q.0 q.1 q.2, q.3)

      go : (b : Bool) → new_lambda w x p ≡ b → (c : Bool) → eqb (kind_at w p) 21 ≡ c
          → Pairs (Shows rows) (cond b (captures w p (lines_below w p) (p + 1)) [] ++ cond c (called w p) []) (placed (suc (suc p)) fs)
      go true d true e =
          let t = and_split (eqb (kind_at w p) 28) (leb x.lambda p) d in
          absurd (omega (arith, eqb-true (kind_at w p) 28 t.0, eqb-true (kind_at w p) 21 e))
      go true d false e =
          let t = and_split (eqb (kind_at w p) 28) (leb x.lambda p) d in
          let a : word_in rows p ≡ 28 = sym word ∙ eqb-true (kind_at w p) 28 t.0 in
          rw (append-nil, add-one)
          (captures_shown p a (outermost a (leb-true x.lambda p t.1)) (lines_below w p) (omega arith) (omega arith) (omega arith) s r)
      go false d true e = called_shown p (sym word ∙ eqb-true (kind_at w p) 21 e) (call (sym word ∙ eqb-true (kind_at w p) 21 e)) s r
      go false d false e =
          rw (none_placed p (omega arith) (λ q. absurd (eqb-false (kind_at w p) 21 e (word ∙ q))) (λ j h u. no_lambda d u.word u.free) s r) Pairs.none

-- ---- all rows
-- a fault placed before line n is not among those listed from there on
by_place_past : (f : Fault) (fs : List Fault) (n m : ℕ) → f.place < n → by_place n m (f ∷ fs) ≡ by_place n m fs
by_place_past f fs n zero l = refl
by_place_past f fs n (suc m) l =
    rw (ne_eqb n f.place (λ e. omega arith)) (ap (λ gs. placed n fs ++ gs) (by_place_past f fs (suc n) m (omega arith)))

-- a fault's place is not after its row
not_after : {rows : List Row} {k o i a : ℕ} → Way rows k o i a → a ≤ i
not_after (at_row t b c) = omega arith
not_after (at_call t b c d) = omega arith
not_after (at_lambda t b u) = omega (arith, u.before)
not_after (in_class t b c u) = omega arith

module _ (rows : List Row) (w : List ℕ) (kind : (i : ℕ) → i < length rows → kind_at w i ≡ word_in rows i)
    (below : (i : ℕ) → i < length rows → lines_below w i ≡ (get_or rows i no_row).below)
    (fit : (q : ℕ) → q < length rows → (end_in rows q ≤ length rows) × (word_in rows q ≡ 21 → suc q < end_in rows q)) where
  module _ (p : ℕ) (x : Around) where
    -- the class around a method
    class_around : word_in rows p ≡ 14 → p < length rows → (around w x p).class ≡ x.class
    unfolding around
    class_around e l = rw (kind p l ∙ e)

    next_lambda : {top : ℕ} → p < length rows → Over rows 28 p top x.lambda → Over rows 28 (suc p) (cond (new_lambda w x p) p top) (around w x p).lambda
    unfolding around
    next_lambda l o = over_next (kind_at w p) (after_row w p) (kind p l) (omega (arith, below p l)) o

    next_class : p < length rows → Over rows 13 p x.class x.end → Over rows 13 (suc p) (around w x p).class (around w x p).end
    unfolding around
    next_class l o = over_next (kind_at w p) (after_row w p) (kind p l) (omega (arith, below p l)) o

  pub listed : {p m : ℕ} {fs : List Fault} (x : Around) (top : ℕ) → p + m ≡ length rows → Over rows 28 p top x.lambda → Over rows 13 p x.class x.end
      → Slotted w p m fs → All (Right rows) fs → Pairs (Shows rows) (entries_from w x m p) (by_place (suc (suc p)) m fs)
  unfolding entries_from placed_at itself
  listed x top e a b end r = Pairs.none
  listed x top e a b (free {i = p} k s) r =
      let l : p < length rows = omega arith in
      rw k
      (pairs_append (below_shown rows w p x (kind p l) (below p l) (omega (arith, (fit p l).0)) (λ d. omega (arith, (fit p l).1 d, (fit p l).0)) a s r)
      (rw add-one (listed (around w x p) (cond (new_lambda w x p) p top) (omega arith) (next_lambda p x l a) (next_class p x l b) s r)))
  listed x top e a b (held {i = p} {m} {f} {fs} q k s) (also r rs) =
      let l : p < length rows = omega arith in
      let at : r.row ≡ p = omega (arith, r.line) in
      pairs_append
      (itself_shown rows w p (around w x p).class r at k
      (λ d o u. class_around p x d l ∙ sym (b.all o u.word u.free u.before u.over).0)
      (below_shown rows w p x (kind p l) (below p l) (omega (arith, (fit p l).0)) (λ d. omega (arith, (fit p l).1 d, (fit p l).0)) a s rs))
      (rw (add-one, by_place_past f fs (suc (suc (suc p))) m (omega (arith, r.place, not_after r.way)))
      (listed (around w x p) (cond (new_lambda w x p) p top) (omega arith) (next_lambda p x l a) (next_class p x l b) s rs))
