-- The rule "once for a lambda and a name", as a walk through the text meets it: of the captures placed at a line, the first with each name.
-- The rule asks whether any fault precedes; as the faults ascend by line, those that precede are those met before.
-- By induction over the faults: a fault's question is asked of the names seen so far and of the faults yet to come, and of these none precedes.
use Rattle.std.proofs.Common.{ℕ, zero, suc, ◌≤◌, arith, le_refl, ◌≡◌, refl, sym, ap, ap₂, ◌∙◌, Bool, true, false, not, ◌&&◌, ◌||◌, List, [], ◌∷◌, ◌++◌, eqb, eqb-true, eq-eqb, ne_eqb, lt-ltb, le-ltb}
use Rattle.std.proofs.Math.Bool.{and-false, or_assoc, or_comm, or-false}
use Rattle.std.proofs.lemmas.Bool.{eqb-false}
use Rattle.spec_text.specs.Bytes.{Bytes, same, Part, mem, any}
use Rattle.spec_text.specs.Tree.{Tree, len_ss, first_line}
use Rattle.spec_faults.specs.Position.{Visited, visited}
use Rattle.spec_faults.specs.Bindings.{Binding, bindings}
use Rattle.spec_faults.specs.Faults.{Fault, fault_of, judge, capture, precedes, repeated, keep, by_place, faults}
use Rattle.spec_faults.proofs.Lists.{same_sym, same_eq, any_judge}
use Rattle.spec_faults.proofs.ListingWalk.{once}
use Rattle.spec_faults.proofs.Ascending.{end, next, ascend_here, Lined, faults_ascend}

abbrev pub placed : ℕ → List Fault → List Fault
placed n fs = keep (λ (f : Fault). eqb n f.place) fs

abbrev pub by_place_once : ℕ → ℕ → List Fault → List Fault
by_place_once n zero fs = []
by_place_once n (suc m) fs = once [] (placed n fs) ++ by_place_once (suc n) m fs

abbrev without : (Fault → Bool) → List Fault → List Fault
without t fs = keep (λ (f : Fault). not (t f)) fs

-- of faults further down, none precedes
none_precedes : (f : Fault) {lo hi : ℕ} {fs : List Fault} → f.line ≤ lo → Lined lo hi fs → any (λ (g : Fault). precedes g f) fs ≡ false
none_precedes f h (end i) = refl
none_precedes f h (next {a = g} i r) = rw (le-ltb g.line f.line (omega arith), and-false, and-false) (none_precedes f (omega arith) r)

-- a capture precedes those of its name that are placed at its line and come later
precedes_same : (n : ℕ) (f g : Fault) → capture f.kind ≡ true → eqb n f.place ≡ true → eqb n g.place ≡ true → suc f.line ≤ g.line
    → precedes f g ≡ same g.name.bytes f.name.bytes
precedes_same n f g c e d h =
    rw (c, eq-eqb f.place g.place (sym (eqb-true n f.place e) ∙ eqb-true n g.place d), lt-ltb f.line g.line h) (same_sym f.name.bytes g.name.bytes)

precedes_not : (n : ℕ) (f g : Fault) → eqb n f.place ≡ false → eqb n g.place ≡ true → precedes f g ≡ false
precedes_not n f g e d = rw (ne_eqb f.place g.place (λ q. eqb-false n f.place e (eqb-true n g.place d ∙ sym q)), and-false)

-- a name seen before adds nothing
mem_seen : (x y : Bytes) (seen : List Part) → mem y seen ≡ true → (same x y || mem x seen) ≡ mem x seen
mem_seen x y seen h = go (same x y) refl
  where
    go : (b : Bool) → same x y ≡ b → (b || mem x seen) ≡ mem x seen
    go true e = sym (ap (λ z. mem z seen) (same_eq x y e) ∙ h)
    go false e = refl

-- what a test answers for the faults placed at line n, from line lo on
abbrev Answers : ℕ → (Fault → Bool) → ℕ → List Part → List Fault → Type 0
Answers n t lo seen fs =
    (f : Fault) → eqb n f.place ≡ true → lo ≤ f.line → t f ≡ (capture f.kind && (mem f.name.bytes seen || any (λ (g : Fault). precedes g f) fs))

-- one fault more: it is listed or not, and the names seen after it answer for it
module _ (n : ℕ) (t : Fault → Bool) (seen : List Part) (f : Fault) (fs : List Fault) (now : Answers n t f.line seen (f ∷ fs)) where
  later : (s : List Part) → ((g : Fault) → eqb n g.place ≡ true → suc f.line ≤ g.line → (mem g.name.bytes seen || precedes f g) ≡ mem g.name.bytes s)
      → Answers n t (suc f.line) s fs
  later s h g d l = rw (now g d (omega arith), ← or_assoc (mem g.name.bytes seen) (precedes f g), h g d l)

  step : any (λ (g : Fault). precedes g f) (f ∷ fs) ≡ false
      → ((s : List Part) → Answers n t (suc f.line) s fs → placed n (without t fs) ≡ once s (placed n fs))
      → (e c m u : Bool) → eqb n f.place ≡ e → capture f.kind ≡ c → mem f.name.bytes seen ≡ m → t f ≡ u
      → placed n (without t (f ∷ fs)) ≡ once seen (placed n (f ∷ fs))
  step first ih false c m true p q r i = rw (i, p) (ih seen (later seen (λ g d l. rw (precedes_not n f g p d, or-false))))
  step first ih false c m false p q r i = rw (i, p) (ih seen (later seen (λ g d l. rw (precedes_not n f g p d, or-false))))
  step first ih true false m u p q r i =
      let listed : t f ≡ false = now f p (omega arith) ∙ rw q in
      rw (listed, p, q) (ap (λ l. f ∷ l) (ih seen (later seen (λ g d l. rw (q, or-false)))))
  step first ih true true true u p q r i =
      let left : t f ≡ true = now f p (omega arith) ∙ rw (q, r) in
      rw (left, p, q, r) (ih seen (later seen (λ g d l. rw (precedes_same n f g q p d l, or_comm) (mem_seen g.name.bytes f.name.bytes seen r))))
  step first ih true true false u p q r i =
      let listed : t f ≡ false = now f p (omega arith) ∙ rw (first, q, r) in
      rw (listed, p, q, r) (ap (λ l. f ∷ l) (ih (f.name ∷ seen) (later (f.name ∷ seen) (λ g d l. rw (precedes_same n f g q p d l) (or_comm (mem g.name.bytes seen) _)))))

once_from : (n : ℕ) (t : Fault → Bool) (seen : List Part) {lo hi : ℕ} {fs : List Fault} → Lined lo hi fs → Answers n t lo seen fs
    → placed n (without t fs) ≡ once seen (placed n fs)
once_from n t seen (end h) a = refl
once_from n t seen (next {a = f} {as' = fs} h l) a =
    step n t seen f fs (λ g d i. a g d (omega arith)) (none_precedes f (le_refl f.line) (ascend_here f l)) (λ s. once_from n t s l) (eqb n f.place)
    (capture f.kind) (mem f.name.bytes seen) (t f) refl refl refl refl

-- ---- the faults of a tree
pub by_place_lem : (gs fs : List Fault) → ((n : ℕ) → placed n gs ≡ once [] (placed n fs)) → (n m : ℕ) → by_place n m gs ≡ by_place_once n m fs
by_place_lem gs fs h n zero = refl
by_place_lem gs fs h n (suc m) = ap₂ ◌++◌ (h n) (by_place_lem gs fs h (suc n) m)

repeated_any : (bs : List Binding) (vs : List Visited) (f : Fault) → repeated bs vs f ≡ (capture f.kind && any (λ (g : Fault). precedes g f) (judge bs vs))
repeated_any bs vs f = go (capture f.kind)
  where
    go : (c : Bool) → (elim c as (λ c. Bool) [ true ↦ any (λ (v : Visited). any (λ (g : Fault). precedes g f) (fault_of bs v)) vs | false ↦ false ]) ≡ (c && any (λ (g : Fault). precedes g f) (judge bs vs))
    go true = any_judge (λ (g : Fault). precedes g f) bs vs
    go false = refl

pub faults_once : (t : Tree) → faults t ≡ by_place_once (first_line t) (len_ss t.body) (judge (bindings t) (visited t))
faults_once t =
    let again : Fault → Bool = repeated (bindings t) (visited t) in
    by_place_lem (without again (judge (bindings t) (visited t))) (judge (bindings t) (visited t))
    (λ n. once_from n again [] (faults_ascend t) (λ f e l. repeated_any (bindings t) (visited t) f)) (first_line t) (len_ss t.body)
