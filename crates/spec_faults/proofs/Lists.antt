-- Laws of tests, names and lists that the theorems about faults share.
use Rattle.std.proofs.Common.{ℕ, ◌+◌, ◌≤◌, arith, ◌≡◌, refl, sym, ap, ap₂, ◌∙◌, ◌⊎◌, inl, inr, ⊎_elim, Bool, true, false, cond, ◌&&◌, ◌||◌, List, [], ◌∷◌, ◌++◌, map, eqb, length, get_or, length-append, eq-eqb}
use Rattle.std.proofs.Math.Bool.{or_assoc, or-true}
use Rattle.std.proofs.lemmas.List.Elements.{filter-append}
use Rattle.std.proofs.lemmas.List.Folds.{list_all-append, list_any_none}
use Rattle.std.proofs.lemmas.Bool.{false≢true}
use Rattle.spec_text.specs.Bytes.{Bytes, Part, same, mem, any, all, In, here, there}
pub use Rattle.std.specs.List.{AllByRecursion as Each}
pub use Rattle.std.proofs.lemmas.List.Folds.{list_any-append as any_append}
pub use Rattle.spec_text.proofs.Lists.{and_split, eqb_sym, same_refl, same_eq, All, all_nil as none, all_cons as also}
use Rattle.spec_faults.specs.Position.{Visited}
use Rattle.spec_faults.specs.Bindings.{Binding}
use Rattle.spec_faults.specs.Faults.{Fault, fault_of, judge, keep}

-- ---- tests
pub eqb_same : (k : ℕ) → eqb k k ≡ true
eqb_same k = eq-eqb k k refl

-- ---- names
pub same_sym : (x y : Bytes) → same x y ≡ same y x
same_sym [] [] = refl
same_sym [] (b ∷ y) = refl
same_sym (a ∷ x) [] = refl
same_sym (a ∷ x) (b ∷ y) = ap₂ ◌&&◌ (eqb_sym a b) (same_sym x y)

pub mem_append : (x : Bytes) (a b : List Part) → mem x (a ++ b) ≡ (mem x a || mem x b)
mem_append x [] b = refl
mem_append x (y ∷ a) b = ap (λ t. same x y.bytes || t) (mem_append x a b) ∙ sym (or_assoc (same x y.bytes) (mem x a) (mem x b))

pub mem_here : (x : Part) (xs : List Part) → mem x.bytes (x ∷ xs) ≡ true
mem_here x xs = ap (λ t. t || mem x.bytes xs) (same_refl x.bytes)

pub mem_there : (y : Bytes) (x : Part) (xs : List Part) → mem y xs ≡ true → mem y (x ∷ xs) ≡ true
mem_there y x xs m = ap (λ t. same y x.bytes || t) m ∙ or-true (same y x.bytes)

-- ---- any
or_swap : (a b c d : Bool) → (a || b || (c || d)) ≡ (a || c || (b || d))
or_swap true b c d = refl
or_swap false b true d = or-true b
or_swap false b false d = refl

module _ {A : Type 0} where
  pub any_same : (f g : A → Bool) → ((a : A) → f a ≡ g a) → (l : List A) → any f l ≡ any g l
  any_same f g h [] = refl
  any_same f g h (a ∷ l) = ap₂ ◌||◌ (h a) (any_same f g h l)

  pub any_or : (f g : A → Bool) (l : List A) → any (λ a. f a || g a) l ≡ (any f l || any g l)
  any_or f g [] = refl
  any_or f g (a ∷ l) = ap (λ t. f a || g a || t) (any_or f g l) ∙ or_swap (f a) (g a) (any f l) (any g l)

  pub any_none : (f : A → Bool) → ((a : A) → f a ≡ false) → (l : List A) → any f l ≡ false
  any_none f h l = list_any_none f l (λ i d k. h (get_or l i d))

-- ---- one of a list
pub in_left : {A : Type 0} {a : A} {l : List A} (m : List A) → In a l → In a (l ++ m)
in_left m here = here
in_left m (there i) = there (in_left m i)

pub in_right : {A : Type 0} {a : A} (l : List A) {m : List A} → In a m → In a (l ++ m)
in_right [] i = i
in_right (b ∷ l) i = there (in_right l i)

pub in_either : {A : Type 0} {a : A} (l : List A) {m : List A} → In a (l ++ m) → In a l ⊎ In a m
in_either [] i = inr i
in_either (b ∷ l) here = inl here
in_either (b ∷ l) (there i) = ⊎_elim (λ j. inl (there j)) inr (in_either l i)

pub in_map : {A B : Type 0} (f : A → B) {a : A} {l : List A} → In a l → In (f a) (map f l)
in_map f here = here
in_map f (there i) = there (in_map f i)

pub map_in : {A B : Type 0} (f : A → B) (l : List A) {b : B} → In b (map f l) → (a : A) × In a l × (f a ≡ b)
map_in f [] i = elim i [ ]
map_in f (a ∷ l) here = (a, here, refl)
map_in f (a ∷ l) (there i) = let p = map_in f l i in (p.0, there p.1, p.2)

-- a test that some element passes, and that element
module _ {A : Type 0} (f : A → Bool) where
  pub any_in : (l : List A) → any f l ≡ true → (a : A) × In a l × (f a ≡ true)
  any_in [] e = absurd (false≢true e)
  any_in (a ∷ l) e = go (f a) refl e (any_in l)
    where
      go : (b : Bool) → f a ≡ b → (b || any f l) ≡ true → (any f l ≡ true → (c : A) × In c l × (f c ≡ true)) → (c : A) × In c (a ∷ l) × (f c ≡ true)
      go true d e next = (a, here, d)
      go false d e next = let n = next e in (n.0, there n.1, n.2)

  pub in_any : {a : A} {l : List A} → In a l → f a ≡ true → any f l ≡ true
  in_any (here {l}) e = ap (λ b. b || any f l) e
  in_any (there {b} {l} i) e = ap (λ c. f b || c) (in_any i e) ∙ or-true (f b)

-- some visited line has such a fault: such a fault is among theirs
pub any_judge : (p : Fault → Bool) (bs : List Binding) (vs : List Visited) → any (λ (v : Visited). any p (fault_of bs v)) vs ≡ any p (judge bs vs)
any_judge p bs [] = refl
any_judge p bs (v ∷ vs) = ap (λ b. any p (fault_of bs v) || b) (any_judge p bs vs) ∙ sym (any_append p (fault_of bs v) (judge bs vs))

-- ---- all
pub all_append : {A : Type 0} {P : A → Type 0} {l m : List A} → All P l → All P m → All P (l ++ m)
all_append none b = b
all_append (also h a) b = also h (all_append a b)

pub all_map : {A : Type 0} {P Q : A → Type 0} {l : List A} → ((a : A) → P a → Q a) → All P l → All Q l
all_map f none = none
all_map f (also {a} h r) = also (f a h) (all_map f r)

pub all_in : {A : Type 0} {P : A → Type 0} {a : A} {l : List A} → All P l → In a l → P a
all_in none i = elim i [ ]
all_in (also h r) here = h
all_in (also h r) (there i) = all_in r i

pub all_two : {A : Type 0} (p : A → Bool) (l m : List A) → all p l ≡ true → all p m ≡ true → all p (l ++ m) ≡ true
all_two p l m h i = list_all-append p l m ∙ ap₂ ◌&&◌ h i

-- a property of each element, by the list's shape
module _ {A : Type 0} where
  pub each_append : (P : A → Type 0) (a b : List A) → Each P a → Each P b → Each P (a ++ b)
  each_append P [] b p q = q
  each_append P (x ∷ a) b p q = (p.0, each_append P a b p.1 q)

  pub each_map : (P Q : A → Type 0) → ((a : A) → P a → Q a) → (l : List A) → Each P l → Each Q l
  each_map P Q h [] p = tt
  each_map P Q h (a ∷ l) p = (h a p.0, each_map P Q h l p.1)

  pub any_each : (f g : A → Bool) (l : List A) → Each (λ a. f a ≡ g a) l → any f l ≡ any g l
  any_each f g [] p = refl
  any_each f g (a ∷ l) p = ap₂ ◌||◌ p.0 (any_each f g l p.1)

  pub any_quiet : (f : A → Bool) (l : List A) → Each (λ a. f a ≡ false) l → any f l ≡ false
  any_quiet f [] p = refl
  any_quiet f (a ∷ l) p = ap₂ ◌||◌ p.0 (any_quiet f l p.1)

-- ---- keep
-- of what is kept, the test is true
pub keep_all : {A : Type 0} {R : A → Type 0} (q p : A → Bool) {l : List A} → All R l → ((a : A) → R a → q a ≡ true → p a ≡ true) → all p (keep q l) ≡ true
keep_all q p none h = refl
keep_all q p (also {a} {l} r s) h = go (q a) refl (keep_all q p s h)
  where
    go : (b : Bool) → q a ≡ b → all p (keep q l) ≡ true → all p (cond b (a ∷ keep q l) (keep q l)) ≡ true
    go true e k = ap₂ ◌&&◌ (h a r e) k
    go false e k = k

pub all_keep : {A : Type 0} {R : A → Type 0} (q : A → Bool) {l : List A} → All R l → All R (keep q l)
all_keep q none = none
all_keep {R} q (also {a} {l} r s) = go (q a) (all_keep q s)
  where
    go : (b : Bool) → All R (keep q l) → All R (cond b (a ∷ keep q l) (keep q l))
    go true k = also r k
    go false k = k

pub keep_keep : {A : Type 0} (p q r : A → Bool) → ((a : A) → r a ≡ (q a && p a)) → (l : List A) → keep q (keep p l) ≡ keep r l
keep_keep p q r h [] = refl
keep_keep p q r h (a ∷ l) = go (p a) (q a) refl refl (keep_keep p q r h l)
  where
    go : (b c : Bool) → p a ≡ b → q a ≡ c → keep q (keep p l) ≡ keep r l → keep q (keep p (a ∷ l)) ≡ keep r (a ∷ l)
    go true true d e k = rw (h a, d, e) (ap (λ m. a ∷ m) k)
    go true false d e k = rw (h a, d, e) k
    go false true d e k = rw (h a, d, e) k
    go false false d e k = rw (h a, d, e) k

pub keep_every : {A : Type 0} (l : List A) → keep (λ (a : A). true) l ≡ l
keep_every [] = refl
keep_every (a ∷ l) = ap (λ m. a ∷ m) (keep_every l)

-- ---- how many pass a test
abbrev pub count : {A : Type 0} → (A → Bool) → List A → ℕ
count q l = length (keep q l)

pub count_append : {A : Type 0} (q : A → Bool) (l m : List A) → count q (l ++ m) ≡ count q l + count q m
count_append q l m = ap length (filter-append q l m) ∙ length-append (keep q l) (keep q m)

pub count_none : {A : Type 0} (q : A → Bool) {l : List A} → All (λ (a : A). q a ≡ false) l → count q l ≡ 0
count_none q none = refl
count_none q (also h r) = rw h (count_none q r)

pub count_any : {A : Type 0} (q : A → Bool) (l : List A) → 1 ≤ count q l → any q l ≡ true
count_any q [] h = absurd (omega arith)
count_any q (a ∷ l) h = go (q a) h (count_any q l)
  where
    go : (b : Bool) → 1 ≤ length (cond b (a ∷ keep q l) (keep q l)) → (1 ≤ count q l → any q l ≡ true) → (b || any q l) ≡ true
    go true h k = refl
    go false h k = k h
