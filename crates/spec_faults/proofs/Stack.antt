-- The Rust's stack of scopes against one list of names in view: which names are known, and which stack lies below the top scope.
-- A name that is defined is put in front of the list; the order of a scope's names does not matter, as only membership is asked.
use Rattle.std.proofs.Common.{◌≡◌, refl, sym, ap, ◌∙◌, Bool, true, false, cond, ◌||◌, List, [], ◌∷◌, ◌++◌}
use Rattle.std.proofs.Math.Bool.{or_assoc, or_comm, or_self}
use Rattle.spec_text.specs.Bytes.{Bytes, Part, mem, same}
use Rattle.spec_faults.proofs.Lists.{same_eq, mem_append}
use Rattle.spec_faults.specs.Builtins.{builtin_names}
use Rattle.spec_faults.specs.Rust.{ScopeStack, new, push, pop, define, define_all, define_new, is_defined, known}

or_swap : (a b c : Bool) → (a || (b || c)) ≡ (b || a || c)
or_swap a b c = sym (or_assoc a b c) ∙ ap (λ t. t || c) (or_comm a b)

-- ---- the stack
-- the stack has a top scope, and b lies below it
abbrev pub Open : ScopeStack → ScopeStack → Type 0
Open [] b = ⊥
Open (t ∷ st) b = st ≡ b

pub open_pop : (st b : ScopeStack) → Open st b → pop st ≡ b
open_pop [] b o = absurd o
open_pop (t ∷ st) b o = o

open_define : (y : Part) (st b : ScopeStack) → Open st b → Open (define y st) b
open_define y [] b o = o
open_define y (t ∷ st) b o = o

known_define : (x : Bytes) (y : Part) (st b : ScopeStack) → Open st b → known (define y st) x ≡ (same x y.bytes || known st x)
known_define x y [] b o = absurd o
known_define x y (t ∷ st) b o =
    ap (λ c. c || mem x builtin_names) (or_assoc (same x y.bytes) (mem x t) (is_defined x st))
    ∙ or_assoc (same x y.bytes) (is_defined x (t ∷ st)) (mem x builtin_names)

open_all : (ps : List Part) (st b : ScopeStack) → Open st b → Open (define_all ps st) b
open_all [] st b o = o
open_all (y ∷ ps) st b o = open_all ps (define y st) b (open_define y st b o)

known_all : (x : Bytes) (ps : List Part) (st b : ScopeStack) → Open st b → known (define_all ps st) x ≡ (mem x ps || known st x)
known_all x [] st b o = refl
known_all x (y ∷ ps) st b o =
    known_all x ps (define y st) b (open_define y st b o)
    ∙ ap (λ c. mem x ps || c) (known_define x y st b o)
    ∙ or_swap (mem x ps) (same x y.bytes) (known st x)

-- the stack in a block with these parameters
abbrev pub pushed : List Part → ScopeStack → ScopeStack
pushed ps st = define_all ps (push st)

pub known_enter : (x : Bytes) (ps : List Part) (st : ScopeStack) → known (pushed ps st) x ≡ (mem x ps || known st x)
known_enter x ps st = known_all x ps (push st) st refl

-- ---- the names in view
pub record View (b st : ScopeStack) (names : List Part) : Type 0 where
  pub opened : Open st b
  pub seen : (x : Bytes) → known st x ≡ mem x names

pub view_define : (y : Part) {b st : ScopeStack} {names : List Part} → View b st names → View b (define y st) (y ∷ names)
view_define y {b} {st} h =
    record {
      opened = open_define y st b h.opened;
      seen = λ x. known_define x y st b h.opened ∙ ap (λ c. same x y.bytes || c) (h.seen x);
    }

-- a name that is defined already is in view already
pub view_new : (y : Part) {b st : ScopeStack} {names : List Part} → View b st names → View b (define_new y st) (y ∷ names)
view_new y {b} {st} {names} h = go (is_defined y.bytes st) refl
  where
    again : is_defined y.bytes st ≡ true → (x : Bytes) (t : Bool) → same x y.bytes ≡ t → known st x ≡ (t || mem x names)
    again e x true f = rw (same_eq x y.bytes f, e)
    again e x false f = h.seen x

    go : (t : Bool) → is_defined y.bytes st ≡ t → View b (cond t st (define y st)) (y ∷ names)
    go true e = record { opened = h.opened; seen = λ x. again e x (same x y.bytes) refl }
    go false e = view_define y h

pub view_enter : (ps : List Part) {b st : ScopeStack} {names : List Part} → View b st names → View st (pushed ps st) (ps ++ names)
view_enter ps {b} {st} {names} h =
    record {
      opened = open_all ps (push st) st refl;
      seen = λ x. known_enter x ps st ∙ ap (λ c. mem x ps || c) (h.seen x) ∙ sym (mem_append x ps names);
    }

pub view_start : (gs : List Part) → View [] (define_all gs (define_all builtin_names new)) (builtin_names ++ gs)
view_start gs =
    let o : Open (define_all builtin_names new) [] = open_all builtin_names new [] refl in
    record {
      opened = open_all gs (define_all builtin_names new) [] o;
      seen = λ x.
          known_all x gs (define_all builtin_names new) [] o
          ∙ ap (λ c. mem x gs || c) (known_all x builtin_names new [] refl ∙ or_self (mem x builtin_names))
          ∙ or_comm (mem x gs) (mem x builtin_names)
          ∙ sym (mem_append x builtin_names gs);
    }
