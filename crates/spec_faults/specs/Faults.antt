-- Faults by position: the rules for reads, faults, the full report, the messages. No stack of scopes, and no walk.
use Rattle.std.specs.Prelude.{ℕ, zero, suc, Bool, true, false, not, ◌&&◌, ◌||◌, List, [], ◌∷◌, ◌++◌, eqb, leb, ltb, length}
use Rattle.std.specs.List.{list_any as any, list_all as all}
pub use Rattle.std.specs.List.{filter as keep}
use Prim.Native.String.{String}
use Rattle.spec_text.specs.Bytes.{Bytes, bytes, same, Part, no_part}
use Rattle.spec_text.specs.Tree.{Line, Tree, len_ss, first_line}
use Rattle.spec_faults.specs.Bindings.{Binding, bindings, counts}
use Rattle.spec_faults.specs.Position.{Placed, Home, in_module, in_def, in_method, Where, numbers, blocks, Use, value, callee, Role, is_read, is_target, is_refused, is_def, is_class, is_lambda, is_other, is_for, is_method, Visited, visited}

-- ---- the rules
-- a binding stands earlier than line n
abbrev pub earlier : ℕ → Binding → Bool
earlier n b = leb b.from n

abbrev pub among : ℕ → List ℕ → Bool
among k [] = false
among k (j ∷ js) = eqb j k || among k js

-- a binding of x stands earlier than line n, in one of these blocks
abbrev pub bound : Bytes → List ℕ → ℕ → List Binding → Bool
bound x ks n bs = any (λ (b : Binding). earlier n b && (among b.block ks && same x b.name.bytes)) bs

-- "Its name is *in view* when a binding of it stands earlier in its block or in one around that."
abbrev pub in_view : Bytes → ℕ → Where → List Binding → Bool
in_view x n w bs = bound x (blocks w) n bs

-- "a parameter of a lambda between it and its home": nothing else is bound in a lambda's block (`lambda_param_lem`)
abbrev pub lambda_param : Bytes → ℕ → Where → List Binding → Bool
lambda_param x n w bs = bound x (numbers w.lambdas) n bs

-- "The *own names* of a def are all names bound in its block, early or late; of a method, its parameters": these are in view in all of
-- its body, and the rules ask for the own names of a def alone.
abbrev pub own : Home → Bytes → ℕ → List Binding → Bool
own in_module x k bs = false
own in_def x k bs = any (λ (b : Binding). eqb k b.block && same x b.name.bytes) bs
own in_method x k bs = false

-- "An own name of a def is *assigned* when an earlier binding in that block is a parameter, `for` name or target."
abbrev pub assigned : Bytes → ℕ → ℕ → List Binding → Bool
assigned x k n bs = any (λ (b : Binding). earlier n b && (eqb k b.block && (same x b.name.bytes && counts b.how))) bs

-- ---- faults
-- "A fault is its kind, its place and, for 8 to 13, its read". `line` is the read; for 14 and 15, which have none, the place.
-- With it stands what its record shows: span, name, class name.
pub record Fault : Type 0 where
  pub kind : ℕ
  pub place : ℕ
  pub line : ℕ
  pub start : ℕ
  pub end : ℕ
  pub name : Part
  pub in_class : Part

-- the fault of this kind, place and read
abbrev pub is : ℕ → ℕ → ℕ → Fault → Bool
is k p r f = eqb k f.kind && (eqb p f.place && eqb r f.line)

-- the fault of a read at a place; "For 8 to 13 the name is the one that stands in the fault's read."
abbrev pub fault_at : ℕ → Placed → Placed → Fault
fault_at k p r =
    record { kind = k; place = p.number; line = r.number; start = p.line.start; end = p.line.end; name = r.line.name; in_class = no_part }

-- "10 and 13, the outermost lambda between read and home"
abbrev pub outermost : Placed → List Placed → Placed
outermost p [] = p
outermost p (q ∷ qs) = outermost q qs

-- "9 and 12, the call"; "else the line itself"
abbrev pub unbound_here : Use → Placed → Fault
unbound_here value r = fault_at 11 r r
unbound_here (callee c) r = fault_at 12 c r

abbrev pub undefined_here : Use → Placed → Fault
undefined_here value r = fault_at 8 r r
undefined_here (callee c) r = fault_at 9 c r

-- "Kind 12 if it is a callee, else 11; under a lambda, 13."
abbrev pub unbound : List Placed → Use → Placed → Fault
unbound [] u r = unbound_here u r
unbound (p ∷ ps) u r = fault_at 13 (outermost p ps) r

-- "Under a lambda with the module as home, 10; else 9 for a callee, 8 for the rest."
abbrev pub undefined : Home → List Placed → Use → Placed → Fault
undefined h [] u r = undefined_here u r
undefined in_module (p ∷ ps) u r = fault_at 10 (outermost p ps) r
undefined in_def (p ∷ ps) u r = undefined_here u r
undefined in_method (p ∷ ps) u r = undefined_here u r

abbrev pub unless : Bool → Fault → List Fault
unless true f = []
unless false f = f ∷ []

-- "A read whose name is a parameter of a lambda between it and its home has no fault. [..] Home a def, name own: faulty when not
-- assigned. [..] Otherwise: faulty when not in view." The four tests in this order: such a parameter, own, assigned, in view.
abbrev pub judge_read : Home → List Placed → Use → Placed → Bool → Bool → Bool → Bool → List Fault
judge_read h ls u r true o a v = []
judge_read h ls u r false true a v = unless a (unbound ls u r)
judge_read h ls u r false false a v = unless v (undefined h ls u r)

-- "a visited method without parameters or whose first is not `self`"
abbrev pub lacks_self : List Part → Bool
lacks_self [] = true
lacks_self (p ∷ ps) = not (same p.bytes (bytes "self"))

-- "14, a visited line in target position other than var, get, index or tuple"
abbrev pub refused_at : ℕ → Line → Fault
refused_at n l = record { kind = 14; place = n; line = n; start = l.start; end = l.end; name = no_part; in_class = no_part }

-- "15, the class's span, the method line as place"
abbrev pub selfless : ℕ → Line → Line → Fault
selfless n l c = record { kind = 15; place = n; line = n; start = c.start; end = c.end; name = l.name; in_class = c.name }

-- the fault of a visited line, among the bindings of its tree: none or one
abbrev pub judged : List Binding → Role → ℕ → Line → Where → List Fault
judged bs (is_read u) n l w =
    judge_read w.home w.lambdas u (record { number = n; line = l }) (lambda_param l.name.bytes n w bs)
    (own w.home l.name.bytes w.block bs) (assigned l.name.bytes w.block n bs) (in_view l.name.bytes n w bs)
judged bs is_target n l w = []
judged bs is_refused n l w = refused_at n l ∷ []
judged bs is_def n l w = []
judged bs is_class n l w = []
judged bs is_lambda n l w = []
judged bs is_other n l w = []
judged bs (is_for m) n l w = []
judged bs (is_method c) n l w = unless (not (lacks_self l.params)) (selfless n l c)

abbrev pub fault_of : List Binding → Visited → List Fault
fault_of bs v = judged bs v.role v.number v.line v.at

-- in the text's order
abbrev pub judge : List Binding → List Visited → List Fault
judge bs [] = []
judge bs (v ∷ vs) = fault_of bs v ++ judge bs vs

-- ---- the full report
-- "A 10 or 13 is listed once for a lambda and a name, at the first faulty read; other kinds at each read."
abbrev pub capture : ℕ → Bool
capture k = eqb k 10 || eqb k 13

-- g comes before f, for the same lambda and name
abbrev pub precedes : Fault → Fault → Bool
precedes g f = capture g.kind && (eqb g.place f.place && (ltb g.line f.line && same g.name.bytes f.name.bytes))

abbrev pub repeated : List Binding → List Visited → Fault → Bool
repeated bs vs f =
    elim (capture f.kind) [ true ↦ any (λ (v : Visited). any (λ (g : Fault). precedes g f) (fault_of bs v)) vs | false ↦ false ]

-- "The order is by line of place, then by line of that read." From line n on, m lines:
abbrev pub by_place : ℕ → ℕ → List Fault → List Fault
by_place n zero fs = []
by_place n (suc m) fs = keep (λ (f : Fault). eqb n f.place) fs ++ by_place (suc n) m fs

abbrev pub faults : Tree → List Fault
faults t =
    let vs = visited t in
    let bs = bindings t in
    by_place (first_line t) (len_ss t.body) (keep (λ (f : Fault). not (repeated bs vs f)) (judge bs vs))

-- A fault by itself: some visited line has it, with this kind, place and read, and it repeats none.
abbrev pub is_fault : Tree → ℕ → ℕ → ℕ → Bool
is_fault t k p r =
    any (λ (v : Visited). any (λ (f : Fault). is k p r f && not (repeated (bindings t) (visited t) f)) (fault_of (bindings t) v)) (visited t)

-- the strict order: by place, then by read; a list in which each stands before all that follow
abbrev pub before : Fault → Fault → Bool
before f g = ltb f.place g.place || (eqb f.place g.place && ltb f.line g.line)

abbrev pub ordered : List Fault → Bool
ordered [] = true
ordered (f ∷ fs) = all (before f) fs && ordered fs

-- "A record is seven 32-bit numbers: kind, start, end, offset and length of the name in the text [..], offset and length of the class name."
abbrev pub record_length : ℕ
record_length = 7

abbrev pub record7 : Fault → List ℕ
record7 f =
    f.kind ∷ f.start ∷ f.end ∷ f.name.offset ∷ length f.name.bytes ∷ f.in_class.offset ∷ length f.in_class.bytes ∷ []

abbrev pub records : List Fault → List ℕ
records [] = []
records (f ∷ fs) = record7 f ++ records fs

-- "The full report is the records of all faults in the order above"
abbrev pub full_report : Tree → List ℕ
full_report t = records (faults t)

-- ---- messages, in the Rust's words: N stands after `before`, and for 15 the method's name there and the class's after `between`
pub record Words : Type 0 where
  pub kind : ℕ
  pub before : Bytes
  pub between : Bytes
  pub after : Bytes

abbrev words : ℕ → String → String → String → Words
words k b m a = record { kind = k; before = bytes b; between = bytes m; after = bytes a }

abbrev pub eight_texts : List Words
eight_texts =
    words 8 "Undefined variable: " "" ""
    ∷ words 9 "Undefined function: " "" ""
    ∷ words 10 "Undefined variable '" "' captured by lambda" ""
    ∷ words 11 "Unbound local variable: " "" ""
    ∷ words 12 "Unbound local function: " "" ""
    ∷ words 13 "Unbound local variable '" "' captured by lambda" ""
    ∷ words 14 "Invalid assignment target: cannot assign to literal, call, or expression" "" ""
    ∷ words 15 "Method '" "' in class '" "' must have 'self' as first parameter"
    ∷ []

abbrev pub written : Words → Bytes → Bytes → Bytes
written w x c = w.before ++ (x ++ (w.between ++ (c ++ w.after)))

abbrev pub message_from : List Words → ℕ → Bytes → Bytes → Bytes
message_from [] k x c = []
message_from (w ∷ ws) k x c = elim (eqb k w.kind) [ true ↦ written w x c | false ↦ message_from ws k x c ]

-- the message of a kind, a name and a class name
abbrev pub message : ℕ → Bytes → Bytes → Bytes
message k x c = message_from eight_texts k x c

abbrev pub message_of : Fault → Bytes
message_of f = message f.kind f.name.bytes f.in_class.bytes
