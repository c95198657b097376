-- Scripts a to k as one theorem, a table: from the bytes of a tree text to its full report, and to the Rust walk's answer in the order of the reads.
use Rattle.std.proofs.Common.{ℕ, ◌≡◌, refl, sym, ap, ◌∙◌, ◌||◌, List, [], ◌∷◌, map, length}
use Rattle.std.proofs.Math.Bool.{or_assoc, or_comm}
use Rattle.std.proofs.Math.Option.{none, some}
use Prim.Native.String.{String}
use Rattle.spec_text.specs.Bytes.{same, bytes, mem}
use Rattle.spec_text.specs.Reading.{Reading, tree, refusal, read_tree}
use Rattle.spec_faults.specs.Builtins.{Builtin, builtins}
use Rattle.spec_faults.specs.Faults.{full_report}
use Rattle.spec_faults.specs.Rust.{Checked, Order, Rearranges, as_read, analyze_with_globals}

-- a text's full report and the Rust's answer, or its refusal and line
pub data Outcome : Type 0 where
  judged : List ℕ → Checked → Outcome
  refused : ℕ → ℕ → Outcome

abbrev outcome_of : Reading → Outcome
outcome_of (tree t) = judged (full_report t) (analyze_with_globals as_read t)
outcome_of (refusal k n) = refused k n

abbrev pub outcome : String → Outcome
outcome s = outcome_of (read_tree (bytes s))

abbrev rust : ℕ → ℕ → ℕ → String → Checked
rust k s e m = some (record { kind = k; message = bytes m; start = s; end = e })

pub record Script : Type 0 where
  pub text : String
  pub is : Outcome

abbrev script : String → List ℕ → Checked → Script
script s r c = record { text = s; is = judged r c }

pub data Letter : Type 0 where
  a : Letter
  b : Letter
  c : Letter
  d : Letter
  e : Letter
  f : Letter
  g : Letter
  h : Letter
  i : Letter
  j : Letter
  k : Letter

abbrev pub scripts : Letter → Script
-- a: the empty tree
scripts a =
    script "tree\t0\t0\n" [] none
-- b: x = x
scripts b =
    script "tree\t0\t1\nassign\t0\t5\nvar\t4\t5\tx\nvar\t0\t1\tx\n" (8 ∷ 4 ∷ 5 ∷ 28 ∷ 1 ∷ 0 ∷ 0 ∷ []) (rust 8 4 5 "Undefined variable: x")
-- c: (a, a[0]) = 1
scripts c =
    script "tree\t0\t1\nassign\t0\t13\nlit\t12\t13\ntuple\t0\t9\t2\nvar\t1\t2\ta\nindex\t4\t8\nvar\t4\t5\ta\nlit\t6\t7\n" [] none
-- d: for i in i: pass
scripts d =
    script "tree\t0\t1\nfor\t0\t16\ti\t1\nvar\t9\t10\ti\npass\t12\t16\n" (8 ∷ 9 ∷ 10 ∷ 31 ∷ 1 ∷ 0 ∷ 0 ∷ []) (rust 8 9 10 "Undefined variable: i")
-- e: in a def, def g(): pass, then g()
scripts e =
    script "tree\t0\t1\ndef\t0\t40\tf\t2\ndef\t10\t25\tg\t1\npass\t20\t24\nexpr\t30\t33\ncall\t30\t33\t0\nvar\t30\t31\tg\n"
    (12 ∷ 30 ∷ 33 ∷ 81 ∷ 1 ∷ 0 ∷ 0 ∷ []) (rust 12 30 33 "Unbound local function: g")
-- f: the same in a method with self
scripts f =
    script "tree\t0\t1\nclass\t0\t50\tC\t1\t0\nmethod\tm\t2\tself\ndef\t10\t25\tg\t1\npass\t20\t24\nexpr\t30\t33\ncall\t30\t33\t0\nvar\t30\t31\tg\n" [] none
-- g: in a def, lambda: q + x, then x = 1
scripts g =
    script "tree\t0\t1\ndef\t0\t40\tf\t2\nexpr\t10\t23\nlambda\t10\t23\nbin\t18\t23\nvar\t18\t19\tq\nvar\t22\t23\tx\nassign\t30\t35\nlit\t34\t35\nvar\t30\t31\tx\n"
    (13 ∷ 10 ∷ 23 ∷ 78 ∷ 1 ∷ 0 ∷ 0 ∷ 8 ∷ 18 ∷ 19 ∷ 66 ∷ 1 ∷ 0 ∷ 0 ∷ []) (rust 13 10 23 "Unbound local variable 'x' captured by lambda")
-- h: lambda: p + q
scripts h =
    script "tree\t0\t1\nexpr\t0\t13\nlambda\t0\t13\nbin\t8\t13\nvar\t8\t9\tp\nvar\t12\t13\tq\n"
    (10 ∷ 0 ∷ 13 ∷ 48 ∷ 1 ∷ 0 ∷ 0 ∷ 10 ∷ 0 ∷ 13 ∷ 60 ∷ 1 ∷ 0 ∷ 0 ∷ []) (rust 10 0 13 "Undefined variable 'p' captured by lambda")
-- i: lambda: (lambda p: p + q)
scripts i =
    script "tree\t0\t1\nexpr\t0\t24\nlambda\t0\t24\nlambda\t9\t24\tp\nbin\t19\t24\nvar\t19\t20\tp\nvar\t23\t24\tq\n"
    (10 ∷ 0 ∷ 24 ∷ 77 ∷ 1 ∷ 0 ∷ 0 ∷ []) (rust 10 0 24 "Undefined variable 'q' captured by lambda")
-- j: f(u) = v
scripts j =
    script "tree\t0\t1\nassign\t0\t8\nvar\t7\t8\tv\ncall\t0\t4\t1\nvar\t0\t1\tf\nvar\t2\t3\tu\n"
    (8 ∷ 7 ∷ 8 ∷ 28 ∷ 1 ∷ 0 ∷ 0 ∷ 14 ∷ 0 ∷ 4 ∷ 0 ∷ 0 ∷ 0 ∷ 0 ∷ []) (rust 8 7 8 "Undefined variable: v")
-- k: def f(n): holding def g(): return n
scripts k =
    script "tree\t0\t1\ndef\t0\t40\tf\t1\tn\ndef\t12\t36\tg\t1\nreturn\t24\t32\nvar\t31\t32\tn\n" [] none

-- where one fails, its line is named
pub scripts_hold : (l : Letter) → outcome (scripts l).text ≡ (scripts l).is
scripts_hold a = refl
scripts_hold b = refl
scripts_hold c = refl
scripts_hold d = refl
scripts_hold e = refl
scripts_hold f = refl
scripts_hold g = refl
scripts_hold h = refl
scripts_hold i = refl
scripts_hold j = refl
scripts_hold k = refl

-- ---- further scripts: a rule each that a to k do not touch
data Further : Type 0 where
  for_assigned : Further
  def_does_not_count : Further
  captured_once : Further
  under_attr_lem : Further
  class_in_def : Further
  class_in_method : Further
  without_self : Further
  under_refused_lem : Further
  callees : Further
  unbound : Further
  given : Further
  module_before_def : Further
  params_between : Further
  lambda_in_method : Further
  if_is_no_block : Further
  inner_hides : Further

abbrev further : Further → Script
-- in a def, a `for` name is assigned
further for_assigned =
    script "tree\t1\t1\nglobal\tr\ndef\t0\t30\tf\t1\nfor\t9\t29\ti\t1\nvar\t18\t19\tr\nexpr\t25\t26\nvar\t25\t26\ti\n" [] none
-- a name bound by def in a def's block does not count, and is own before and after
further def_does_not_count =
    script "tree\t0\t1\ndef\t0\t40\tf\t2\nexpr\t10\t11\nvar\t10\t11\tg\ndef\t14\t30\tg\t0\n" (11 ∷ 10 ∷ 11 ∷ 43 ∷ 1 ∷ 0 ∷ 0 ∷ []) (rust 11 10 11 "Unbound local variable: g")
-- one capture for a lambda and a name: lambda: p + p
further captured_once =
    script "tree\t0\t1\nexpr\t0\t13\nlambda\t0\t13\nbin\t8\t13\nvar\t8\t9\tp\nvar\t12\t13\tp\n" (10 ∷ 0 ∷ 13 ∷ 48 ∷ 1 ∷ 0 ∷ 0 ∷ []) (rust 10 0 13 "Undefined variable 'p' captured by lambda")
-- unvisited: under an attr
further under_attr_lem =
    script "tree\t0\t1\nclass\t0\t20\tC\t0\t1\nattr\ta\nvar\t9\t10\tq\n" [] none
-- unvisited: under a class in a def, also under an if; its name is bound there, and own
further class_in_def =
    script "tree\t0\t1\ndef\t0\t60\tf\t2\nif\t9\t40\t1\t0\t0\nlit\t12\t13\nclass\t15\t40\tC\t1\t0\nmethod\tm\t1\nexpr\t30\t31\nvar\t30\t31\tq\nexpr\t50\t51\nvar\t50\t51\tC\n" (11 ∷ 50 ∷ 51 ∷ 119 ∷ 1 ∷ 0 ∷ 0 ∷ []) (rust 11 50 51 "Unbound local variable: C")
-- the same in a method, where the name is in view
further class_in_method =
    script "tree\t0\t1\nclass\t0\t60\tD\t1\t0\nmethod\tk\t2\tself\nclass\t15\t40\tC\t1\t0\nmethod\tm\t1\nexpr\t30\t31\nvar\t30\t31\tq\nexpr\t50\t51\nvar\t50\t51\tC\n" [] none
-- a method without self, then its body
further without_self =
    script "tree\t0\t1\nclass\t0\t30\tC\t2\t0\nmethod\tm\t1\nexpr\t20\t21\nvar\t20\t21\tq\nmethod\tn\t0\tthis\tself\n" (15 ∷ 0 ∷ 30 ∷ 33 ∷ 1 ∷ 20 ∷ 1 ∷ 8 ∷ 20 ∷ 21 ∷ 58 ∷ 1 ∷ 0 ∷ 0 ∷ 15 ∷ 0 ∷ 30 ∷ 67 ∷ 1 ∷ 20 ∷ 1 ∷ []) (rust 15 0 30 "Method 'm' in class 'C' must have 'self' as first parameter")
-- unvisited: under a refused target, in a tuple; the reads of get and index are judged
further under_refused_lem =
    script "tree\t0\t1\nassign\t0\t30\nlit\t28\t29\ntuple\t0\t20\t4\nbin\t1\t4\nvar\t1\t2\tu\nvar\t3\t4\tv\nget\t6\t9\tm\nvar\t6\t7\ty\nindex\t11\t15\nvar\t11\t12\tb\nvar\t13\t14\tc\nvar\t17\t18\tw\n" (14 ∷ 1 ∷ 4 ∷ 0 ∷ 0 ∷ 0 ∷ 0 ∷ 8 ∷ 6 ∷ 7 ∷ 90 ∷ 1 ∷ 0 ∷ 0 ∷ 8 ∷ 11 ∷ 12 ∷ 114 ∷ 1 ∷ 0 ∷ 0 ∷ 8 ∷ 13 ∷ 14 ∷ 126 ∷ 1 ∷ 0 ∷ 0 ∷ []) (rust 14 1 4 "Invalid assignment target: cannot assign to literal, call, or expression")
-- a callee is a var that is the first child of a call: y() and y.m()
further callees =
    script "tree\t0\t2\nexpr\t0\t3\ncall\t0\t3\t0\nvar\t0\t1\ty\nexpr\t5\t10\ncall\t5\t10\t0\nget\t5\t8\tm\nvar\t5\t6\ty\n" (9 ∷ 0 ∷ 3 ∷ 37 ∷ 1 ∷ 0 ∷ 0 ∷ 8 ∷ 5 ∷ 6 ∷ 79 ∷ 1 ∷ 0 ∷ 0 ∷ []) (rust 9 0 3 "Undefined function: y")
-- in a def: x(), x, then x = 1
further unbound =
    script "tree\t0\t1\ndef\t0\t40\tf\t3\nexpr\t10\t13\ncall\t10\t13\t0\nvar\t10\t11\tx\nexpr\t15\t16\nvar\t15\t16\tx\nassign\t20\t25\nlit\t24\t25\nvar\t20\t21\tx\n" (12 ∷ 10 ∷ 13 ∷ 56 ∷ 1 ∷ 0 ∷ 0 ∷ 11 ∷ 15 ∷ 16 ∷ 79 ∷ 1 ∷ 0 ∷ 0 ∷ []) (rust 12 10 13 "Unbound local function: x")
-- globals and built-ins are given; list is no built-in
further given =
    script "tree\t1\t1\nglobal\tg\nexpr\t0\t20\ntuple\t0\t20\t3\nvar\t1\t2\tg\nvar\t4\t9\tprint\nvar\t11\t15\tlist\n" (8 ∷ 11 ∷ 15 ∷ 75 ∷ 4 ∷ 0 ∷ 0 ∷ []) (rust 8 11 15 "Undefined variable: list")
-- a def reads what the module binds before it, and not what it binds after
further module_before_def =
    script "tree\t0\t3\nassign\t0\t5\nlit\t4\t5\nvar\t0\t1\ta\ndef\t6\t30\tf\t1\nreturn\t15\t23\nbin\t20\t25\nvar\t20\t21\ta\nvar\t24\t25\tz\nassign\t31\t36\nlit\t35\t36\nvar\t31\t32\tz\n" (8 ∷ 24 ∷ 25 ∷ 96 ∷ 1 ∷ 0 ∷ 0 ∷ []) (rust 8 24 25 "Undefined variable: z")
-- parameters of the lambdas between: lambda p: (lambda: p + q)
further params_between =
    script "tree\t0\t1\nexpr\t0\t25\nlambda\t0\t25\tp\nlambda\t10\t25\nbin\t18\t23\nvar\t18\t19\tp\nvar\t22\t23\tq\n" (10 ∷ 0 ∷ 25 ∷ 78 ∷ 1 ∷ 0 ∷ 0 ∷ []) (rust 10 0 25 "Undefined variable 'q' captured by lambda")
-- under a lambda in a method, where it stands: lambda: q() + r
further lambda_in_method =
    script "tree\t0\t1\nclass\t0\t50\tC\t1\t0\nmethod\tm\t1\tself\nexpr\t20\t35\nlambda\t20\t35\nbin\t28\t35\ncall\t28\t31\t0\nvar\t28\t29\tq\nvar\t34\t35\tr\n" (9 ∷ 28 ∷ 31 ∷ 99 ∷ 1 ∷ 0 ∷ 0 ∷ 8 ∷ 34 ∷ 35 ∷ 111 ∷ 1 ∷ 0 ∷ 0 ∷ []) (rust 9 28 31 "Undefined function: q")
-- an if is no block: if .. elif: x = 1 else: x
further if_is_no_block =
    script "tree\t0\t1\nif\t0\t40\t0\t1\t1\nlit\t3\t4\nelif\t1\nlit\t11\t12\nassign\t15\t20\nlit\t19\t20\nvar\t15\t16\tx\nexpr\t30\t31\nvar\t30\t31\tx\n" [] none
-- two defs in each other: the inner one's own name hides the outer's
further inner_hides =
    script "tree\t0\t1\ndef\t0\t60\tf\t1\tn\ndef\t10\t50\tg\t2\nexpr\t20\t21\nvar\t20\t21\tn\nassign\t30\t35\nlit\t34\t35\nvar\t30\t31\tn\n" (11 ∷ 20 ∷ 21 ∷ 59 ∷ 1 ∷ 0 ∷ 0 ∷ []) (rust 11 20 21 "Unbound local variable: n")

further_hold : (f : Further) → outcome (further f).text ≡ (further f).is
further_hold for_assigned = refl
further_hold def_does_not_count = refl
further_hold captured_once = refl
further_hold under_attr_lem = refl
further_hold class_in_def = refl
further_hold class_in_method = refl
further_hold without_self = refl
further_hold under_refused_lem = refl
further_hold callees = refl
further_hold unbound = refl
further_hold given = refl
further_hold module_before_def = refl
further_hold params_between = refl
further_hold lambda_in_method = refl
further_hold if_is_no_block = refl
further_hold inner_hides = refl

-- ---- another order of a lambda's captured names: the second before the first. Of the two captures of h the Rust names the other.
abbrev exchanged : Order
exchanged l [] = []
exchanged l (x ∷ []) = x ∷ []
exchanged l (x ∷ y ∷ xs) = y ∷ x ∷ xs

exchanged_rearranges : Rearranges exchanged
exchanged_rearranges l [] z = refl
exchanged_rearranges l (x ∷ []) z = refl
exchanged_rearranges l (x ∷ y ∷ xs) z =
    sym (or_assoc (same z y.bytes) (same z x.bytes) (mem z xs))
    ∙ ap (λ t. t || mem z xs) (or_comm (same z y.bytes) (same z x.bytes))
    ∙ or_assoc (same z x.bytes) (same z y.bytes) (mem z xs)

abbrev answer_in : Order → Reading → Checked
answer_in order (tree t) = analyze_with_globals order t
answer_in order (refusal m n) = none

h_exchanged : answer_in exchanged (read_tree (bytes (scripts h).text)) ≡ rust 10 0 13 "Undefined variable 'q' captured by lambda"
h_exchanged = refl

-- ---- the table of built-in names: thirteen, each with its length
builtin_lengths : map (λ (b : Builtin). b.len) builtins ≡ map (λ (b : Builtin). length b.name) builtins
builtin_lengths = refl

thirteen : length builtins ≡ 13
thirteen = refl
