-- The report of every tree lists its faults: each fault, nothing else, each once, by place and then by line; at most one for each line.
-- To sort by place is to rearrange: every test passes as often after as before, for all places lie within the lines sorted.
-- Before that, the faults ascend by line, so that a kind, a place and a read are those of one fault at most.
use Rattle.std.proofs.Common.{ℕ, zero, suc, ◌+◌, ◌≤◌, ◌<◌, arith, le_refl, ◌≡◌, refl, sym, ap, ap₂, ◌∙◌, Bool, true, false, cond, not, ◌&&◌, ◌||◌, List, [], ◌∷◌, ◌++◌, eqb, length, eqb-true, eq-eqb, ne_eqb, lt-ltb}
use Rattle.std.proofs.Math.Bool.{or-true}
use Rattle.std.proofs.lemmas.Bool.{eqb-false}
use Rattle.spec_text.specs.Bytes.{any, all}
use Rattle.spec_text.specs.Tree.{Tree, len_ss, first_line}
use Rattle.spec_faults.specs.Position.{visited}
use Rattle.spec_faults.specs.Bindings.{bindings}
use Rattle.spec_faults.specs.Faults.{Fault, is, judge, repeated, keep, by_place, faults, is_fault, before, ordered}
use Rattle.spec_faults.proofs.Lists.{and_split, any_judge, none, also, all_map, all_two, keep_all, all_keep, keep_keep, keep_every, count, count_append, count_none, count_any}
use Rattle.spec_faults.proofs.Ascending.{end, next, ascend_length, ascend_keep, ascend_above, Lined, faults_ascend}
use Rattle.spec_faults.proofs.Once.{placed}
use Rattle.spec_faults.proofs.Places.{PlacedWithin, faults_within}

-- ---- to sort by place is to rearrange
place_below : (n m : ℕ) (f : Fault) (fs : List Fault) → f.place < n → by_place n m (f ∷ fs) ≡ by_place n m fs
place_below n zero f fs h = refl
place_below n (suc m) f fs h = rw (ne_eqb n f.place (λ e. omega arith)) (ap (λ l. placed n fs ++ l) (place_below (suc n) m f fs (omega arith)))

place_one : (q : Fault → Bool) (n m : ℕ) (f : Fault) (fs : List Fault) → n ≤ f.place → f.place < n + m → count q (by_place n m (f ∷ fs)) ≡ count q (f ∷ []) + count q (by_place n m fs)
place_one q n zero f fs h i = absurd (omega arith)
place_one q n (suc m) f fs h i = go (eqb n f.place) refl (place_one q (suc n) m f fs)
  where
    go : (b : Bool) → eqb n f.place ≡ b → (suc n ≤ f.place → f.place < suc n + m → count q (by_place (suc n) m (f ∷ fs)) ≡ count q (f ∷ []) + count q (by_place (suc n) m fs))
        → count q (by_place n (suc m) (f ∷ fs)) ≡ count q (f ∷ []) + count q (by_place n (suc m) fs)
    go true e k =
        let p : f.place < suc n = omega (arith, eqb-true n f.place e) in
        rw (e, place_below (suc n) m f fs p) (count_append q (f ∷ []) (placed n fs ++ by_place (suc n) m fs))
    go false e k =
        let p : suc n ≤ f.place = omega (arith, eqb-false n f.place e) in
        rw (e, count_append q (placed n fs) (by_place (suc n) m (f ∷ fs)), count_append q (placed n fs) (by_place (suc n) m fs), k p (omega arith)) (omega arith)

pub by_place-nil : (n m : ℕ) → by_place n m [] ≡ []
by_place-nil n zero = refl
by_place-nil n (suc m) = by_place-nil (suc n) m

by_place-count : (q : Fault → Bool) (n m : ℕ) {fs : List Fault} → PlacedWithin n (n + m) fs → count q (by_place n m fs) ≡ count q fs
by_place-count q n m none = rw (by_place-nil n m)
by_place-count q n m (also {a = f} {l = fs} h r) = place_one q n m f fs h.0 h.1 ∙ rw (by_place-count q n m r) (sym (count_append q (f ∷ []) fs))

-- ---- the order
before_place : (f g : Fault) → f.place < g.place → before f g ≡ true
before_place f g h = rw (lt-ltb f.place g.place h)

before_line : (f g : Fault) → f.place ≡ g.place → f.line < g.line → before f g ≡ true
before_line f g e h = rw (eq-eqb f.place g.place e, lt-ltb f.line g.line h, or-true)

ordered_append : (l m : List Fault) → ordered l ≡ true → ordered m ≡ true → all (λ (f : Fault). all (before f) m) l ≡ true → ordered (l ++ m) ≡ true
ordered_append [] m p q h = q
ordered_append (f ∷ l) m p q h =
    let a : (all (before f) l ≡ true) × (ordered l ≡ true) = and_split (all (before f) l) (ordered l) p in
    let b : (all (before f) m ≡ true) × (all (λ (g : Fault). all (before g) m) l ≡ true) = and_split (all (before f) m) (all (λ (g : Fault). all (before g) m) l) h in
    ap₂ ◌&&◌ (all_two (before f) l m a.0 b.0) (ordered_append l m a.1 q b.1)

placed_ordered : (n : ℕ) {lo hi : ℕ} {fs : List Fault} → Lined lo hi fs → ordered (placed n fs) ≡ true
placed_ordered n (end h) = refl
placed_ordered n (next {a = f} {as' = fs} h r) = go (eqb n f.place) refl (placed_ordered n r)
  where
    go : (b : Bool) → eqb n f.place ≡ b → ordered (placed n fs) ≡ true → ordered (cond b (f ∷ placed n fs) (placed n fs)) ≡ true
    go true e k =
        ap₂ ◌&&◌ (keep_all (λ (g : Fault). eqb n g.place) (before f) (ascend_above (le_refl (suc f.line)) r)
        (λ g l d. before_line f g (sym (eqb-true n f.place e) ∙ eqb-true n g.place d) l)) k
    go false e k = k

by_place-above : (f : Fault) (n m : ℕ) {lo hi : ℕ} {fs : List Fault} → Lined lo hi fs → f.place < n → all (before f) (by_place n m fs) ≡ true
by_place-above f n zero a h = refl
by_place-above f n (suc m) {fs} a h =
    all_two (before f) (placed n fs) (by_place (suc n) m fs)
    (keep_all (λ (g : Fault). eqb n g.place) (before f) (ascend_above (le_refl _) a) (λ g l d. before_place f g (omega (arith, eqb-true n g.place d))))
    (by_place-above f (suc n) m a (omega arith))

by_place-ordered : (n m : ℕ) {lo hi : ℕ} {fs : List Fault} → Lined lo hi fs → ordered (by_place n m fs) ≡ true
by_place-ordered n zero a = refl
by_place-ordered n (suc m) {fs} a =
    ordered_append (placed n fs) (by_place (suc n) m fs) (placed_ordered n a) (by_place-ordered (suc n) m a)
    (keep_all (λ (g : Fault). eqb n g.place) (λ (f : Fault). all (before f) (by_place (suc n) m fs)) (ascend_above (le_refl _) a)
    (λ f l d. by_place-above f (suc n) m a (omega (arith, eqb-true n f.place d))))

-- ---- at most one on a line
one_on_line : (q : Fault → Bool) (r : ℕ) → ((f : Fault) → q f ≡ true → f.line ≡ r) → {lo hi : ℕ} {fs : List Fault} → Lined lo hi fs → count q fs ≡ cond (any q fs) 1 0
one_on_line q r h (end i) = refl
one_on_line q r h (next {a = f} {as' = fs} i l) = go (q f) refl (one_on_line q r h l)
  where
    other : (g : Fault) → q f ≡ true → suc f.line ≤ g.line → (b : Bool) → q g ≡ b → b ≡ false
    other g e j true d = absurd (omega (arith, h f e, h g d))
    other g e j false d = refl

    go : (b : Bool) → q f ≡ b → count q fs ≡ cond (any q fs) 1 0 → length (cond b (f ∷ keep q fs) (keep q fs)) ≡ cond (b || any q fs) 1 0
    go true e k = ap suc (count_none q (all_map (λ g j. other g e j (q g) refl) (ascend_above (le_refl (suc f.line)) l)))
    go false e k = k

-- ---- the theorem
-- the faults that repeat none, in the text's order
abbrev fresh : Tree → Fault → Bool
fresh t f = not (repeated (bindings t) (visited t) f)

abbrev unsorted : Tree → List Fault
unsorted t = keep (fresh t) (judge (bindings t) (visited t))

unsorted_count : (t : Tree) (q : Fault → Bool) → count q (faults t) ≡ count q (unsorted t)
unsorted_count t q = by_place-count q (first_line t) (len_ss t.body) (all_keep (fresh t) (faults_within t))

-- each fault is listed once, and nothing else is listed
pub listed_once : (t : Tree) (k p r : ℕ) → length (keep (is k p r) (faults t)) ≡ cond (is_fault t k p r) 1 0
listed_once t k p r =
    unsorted_count t (is k p r)
    ∙ ap length (keep_keep (fresh t) (is k p r) fault (λ f. refl) (judge (bindings t) (visited t)))
    ∙ one_on_line fault r on_line (faults_ascend t)
    ∙ ap (λ b. cond b 1 0) (sym (any_judge fault (bindings t) (visited t)))
  where
    fault : Fault → Bool
    fault f = is k p r f && fresh t f

    on_line : (f : Fault) → fault f ≡ true → f.line ≡ r
    on_line f e =
        let a = and_split (is k p r f) (fresh t f) e in
        let b = and_split (eqb k f.kind) (eqb p f.place && eqb r f.line) a.0 in
        sym (eqb-true r f.line (and_split (eqb p f.place) (eqb r f.line) b.1).1)

pub faults_are_listed : (t : Tree) (k p r : ℕ) → is_fault t k p r ≡ true → any (is k p r) (faults t) ≡ true
faults_are_listed t k p r e = count_any (is k p r) (faults t) (let h : count (is k p r) (faults t) ≡ 1 = listed_once t k p r ∙ ap (λ b. cond b 1 0) e in omega arith)

is_itself : (f : Fault) → is f.kind f.place f.line f ≡ true
is_itself f = rw (eq-eqb f.kind f.kind refl, eq-eqb f.place f.place refl, eq-eqb f.line f.line refl)

listed_from : (t : Tree) (l : List Fault) → ((k p r : ℕ) → count (is k p r) l ≤ count (is k p r) (faults t)) → all (λ (f : Fault). is_fault t f.kind f.place f.line) l ≡ true
listed_from t [] h = refl
listed_from t (f ∷ l) h =
    ap₂ ◌&&◌ (go (is_fault t f.kind f.place f.line) (listed_once t f.kind f.place f.line) (h f.kind f.place f.line))
    (listed_from t l (λ k p r. omega (arith, h k p r, count_append (is k p r) (f ∷ []) l)))
  where
    go : (b : Bool) → count (is f.kind f.place f.line) (faults t) ≡ cond b 1 0
        → count (is f.kind f.place f.line) (f ∷ l) ≤ count (is f.kind f.place f.line) (faults t) → b ≡ true
    go true e i = refl
    go false e i = absurd (omega (arith, e, rw (is_itself f) at i))

pub listed_are_faults : (t : Tree) → all (λ (f : Fault). is_fault t f.kind f.place f.line) (faults t) ≡ true
listed_are_faults t = listed_from t (faults t) (λ k p r. le_refl _)

pub listed_in_order : (t : Tree) → ordered (faults t) ≡ true
listed_in_order t = by_place-ordered (first_line t) (len_ss t.body) (ascend_keep (fresh t) (faults_ascend t))

pub faults_at_most_lines : (t : Tree) → length (faults t) ≤ len_ss t.body
faults_at_most_lines t =
    omega (arith, ap length (keep_every (faults t)), unsorted_count t (λ (f : Fault). true), ap length (keep_every (unsorted t)), ascend_length (ascend_keep (fresh t) (faults_ascend t)))
