-- What a line is: the 29 words, the fields of each, where each is due, and its children. FORMAT.md's table, row by row.
use Rattle.std.specs.Prelude.{ℕ, suc, ◌+◌, Bool, true, false, cond, ◌&&◌, List, [], ◌∷◌, map, eqb, leb, length, take, drop, get_or}
use Prim.Native.String.{String}
use Rattle.std.specs.List.{list_all as all}
use Rattle.std.proofs.Math.Option.{Option, none, some}
use Rattle.spec_text.specs.Bytes.{Bytes, bytes, same, Part, no_part, is_name, is_number, value_of, largest_span, largest_count}
use Rattle.spec_text.specs.Tree.{Line}

-- ---- where a line is due, and its children
-- a statement's children; `plain k` has k expressions
pub data StmtForm : Type 0 where
  plain : ℕ → StmtForm
  assign while if for def class : StmtForm

-- an expression's children: `fixed k` has k, `counted k` has k for each of its count; `access k` has k (get, index)
pub data ExprForm : Type 0 where
  fixed counted access : ℕ → ExprForm
  var tuple call lambda : ExprForm

pub data Form : Type 0 where
  tree global elif method attr : Form
  stmt : StmtForm → Form
  expr : ExprForm → Form

-- a word: its spelling; whether a span follows it, then whether a name, how many counts, and whether parameters; its form
pub record Word : Type 0 where
  pub spelling : Bytes
  pub spanned : Bool
  pub named : Bool
  pub counts : ℕ
  pub params : Bool
  pub form : Form

abbrev row : String → Bool → Bool → ℕ → Bool → Form → Word
row s sp nm k ps f = record { spelling = bytes s; spanned = sp; named = nm; counts = k; params = ps; form = f }

--   word        s|e   NAME  counts P..  children
abbrev pub words : List Word
words =
    row "tree" false false 2 false tree
    ∷ row "global" false true 0 false global
    ∷ row "break" true false 0 false (stmt (plain 0))
    ∷ row "continue" true false 0 false (stmt (plain 0))
    ∷ row "pass" true false 0 false (stmt (plain 0))
    ∷ row "def" true true 1 true (stmt def)
    ∷ row "assign" true false 0 false (stmt assign)
    ∷ row "if" true false 3 false (stmt if)
    ∷ row "elif" false false 1 false elif
    ∷ row "while" true false 1 false (stmt while)
    ∷ row "for" true true 1 false (stmt for)
    ∷ row "return" true false 0 false (stmt (plain 1))
    ∷ row "expr" true false 0 false (stmt (plain 1))
    ∷ row "class" true true 2 false (stmt class)
    ∷ row "method" false true 1 true method
    ∷ row "attr" false true 0 false attr
    ∷ row "lit" true false 0 false (expr (fixed 0))
    ∷ row "var" true true 0 false (expr var)
    ∷ row "un" true false 0 false (expr (fixed 1))
    ∷ row "bin" true false 0 false (expr (fixed 2))
    ∷ row "index" true false 0 false (expr (access 2))
    ∷ row "call" true false 1 false (expr call)
    ∷ row "get" true true 0 false (expr (access 1))
    ∷ row "list" true false 1 false (expr (counted 1))
    ∷ row "tuple" true false 1 false (expr tuple)
    ∷ row "set" true false 1 false (expr (counted 1))
    ∷ row "treeset" true false 1 false (expr (counted 1))
    ∷ row "dict" true false 1 false (expr (counted 2))
    ∷ row "lambda" true false 0 true (expr lambda)
    ∷ []

-- ---- the fields of a line
-- A line ends in LF; tabs stand between its fields. What stands up to the first LF of a text that begins at an offset:
pub record Cut : Type 0 where
  pub fields : List Part
  pub ended : Bool
  pub rest : Bytes
  pub next : ℕ

abbrev last_field : ℕ → Bool → Bytes → ℕ → Cut
last_field o e bs n = record { fields = record { offset = o; bytes = [] } ∷ []; ended = e; rest = bs; next = n }

abbrev next_field : ℕ → Cut → Cut
next_field o c = record { fields = record { offset = o; bytes = [] } ∷ c.fields; ended = c.ended; rest = c.rest; next = c.next }

abbrev one_more : ℕ → ℕ → List Part → List Part
one_more o b [] = []
one_more o b (f ∷ fs) = record { offset = o; bytes = b ∷ f.bytes } ∷ fs

abbrev in_field : ℕ → ℕ → Cut → Cut
in_field o b c = record { fields = one_more o b c.fields; ended = c.ended; rest = c.rest; next = c.next }

abbrev pub cut : ℕ → Bytes → Cut
cut o [] = last_field o false [] o
cut o (b ∷ bs) =
    elim (eqb b 10) [
      | true ↦ last_field o true bs (suc o)
      | false ↦ elim (eqb b 9) [ true ↦ next_field o (cut (suc o) bs) | false ↦ in_field o b (cut (suc o) bs) ]
    ]

-- ---- a line from its fields
-- a line as it is read: its word, the line that the tree keeps, and its counts
pub record Parsed : Type 0 where
  pub form : Form
  pub line : Line
  pub counts : List ℕ

abbrev holds : (Bytes → Bool) → Part → Bool
holds p f = p f.bytes

-- the fields after the word, from the i-th on, k of them
abbrev fields_at : ℕ → ℕ → List Part → List Part
fields_at i k fs = take k (drop i fs)

abbrev spans : Word → ℕ
spans w = cond w.spanned 2 0

abbrev names : Word → ℕ
names w = cond w.named 1 0

abbrev fixed_fields : Word → ℕ
fixed_fields w = spans w + names w + w.counts

-- "P.. is 0 to 16 names": more than 16 are well-formed here, and refused as 7
abbrev pub well_formed : Word → List Part → Bool
well_formed w fs =
    cond w.params (leb (fixed_fields w) (length fs)) (eqb (fixed_fields w) (length fs))
    && (all (holds (is_number largest_span)) (fields_at 0 (spans w) fs)
    && (all (holds is_name) (fields_at (spans w) (names w) fs)
    && (all (holds (is_number largest_count)) (fields_at (spans w + names w) w.counts fs) && all (holds is_name) (drop (fixed_fields w) fs))))

abbrev number_at : ℕ → List Part → ℕ
number_at i fs = value_of (get_or fs i no_part).bytes

abbrev pub parsed : ℕ → Word → List Part → Parsed
parsed n w fs =
    record {
      form = w.form;
      line = record {
        word = n;
        start = cond w.spanned (number_at 0 fs) 0;
        end = cond w.spanned (number_at 1 fs) 0;
        name = cond w.named (get_or fs (spans w) no_part) no_part;
        params = drop (fixed_fields w) fs;
      };
      counts = map (λ (f : Part). value_of f.bytes) (fields_at (spans w + names w) w.counts fs);
    }

-- the line of a word and the fields after it, by the table from its n-th row on; none: refusal 5
abbrev pub line_of : ℕ → List Word → Bytes → List Part → Option Parsed
line_of n [] x fs = none
line_of n (w ∷ ws) x fs =
    elim (same x w.spelling) [ true ↦ elim (well_formed w fs) [ true ↦ some (parsed n w fs) | false ↦ none ] | false ↦ line_of (suc n) ws x fs ]

abbrev pub parse : List Part → Option Parsed
parse [] = none
parse (f ∷ fs) = line_of 0 words f.bytes fs

-- the i-th count of a line
abbrev pub count_at : ℕ → Parsed → ℕ
count_at i p = get_or p.counts i 0

-- "An empty `else` and none read alike": both are the count 0.
-- which sort of line is due: the forms that fit
abbrev pub sort_of : Form → ℕ
sort_of tree = 0
sort_of global = 1
sort_of elif = 2
sort_of method = 3
sort_of attr = 4
sort_of (stmt f) = 5
sort_of (expr f) = 6

abbrev pub as_stmt : Form → Option StmtForm
as_stmt tree = none
as_stmt global = none
as_stmt elif = none
as_stmt method = none
as_stmt attr = none
as_stmt (stmt f) = some f
as_stmt (expr f) = none

abbrev pub as_expr : Form → Option ExprForm
as_expr tree = none
as_expr global = none
as_expr elif = none
as_expr method = none
as_expr attr = none
as_expr (stmt f) = none
as_expr (expr f) = some f

abbrev pub as_sort : Form → Form → Option Form
as_sort d f = cond (eqb (sort_of d) (sort_of f)) (some f) none
