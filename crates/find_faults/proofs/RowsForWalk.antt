-- A work buffer that holds the rows of a tree has what the walk reads of them: kinds, lines below, parameters, and a number for each name, the
-- earliest row that has it. What leads back from the buffer to a line is crate `read_row`'s; that two names have two numbers is that a row has one name.
use Rattle.std.proofs.Common.{ℕ, ◌+◌, ◌%◌, ◌<◌, arith, ◌≡◌, sym, ap, ◌∙◌, subst, ◌⊎◌, inl, inr, List, [], map, length, get_or}
use Rattle.std.proofs.lemmas.Bool.{false≢true}
use Rattle.std.proofs.lemmas.List.{length-map}
use Rattle.spec_text.specs.Bytes.{Bytes, Part, is_name}
use Rattle.spec_text.specs.Tree.{Tree}
use Rattle.spec_text.specs.Reading.{tree, reading}
use Rattle.spec_text.proofs.Lists.{All, all_nil, all_cons}
use Rattle.spec_text.proofs.LineParts.{IsNameOf}
use Rattle.spec_text.proofs.Theorems.{tree_parts}
use Rattle.read_names.specs.Names.{earliest}
use Rattle.read_names.proofs.Earliest.{First, Absent, sought, earliest_first, earliest_absent}
use Rattle.work_rows.specs.Rows.{rows_t}
use Rattle.read_tree.specs.Laid.{Holds, name_in}
use Rattle.read_tree.proofs.Theorems.{row_of_name}
use Rattle.work_marks.specs.MarksModel.{lambda_end}
use Rattle.read_row.specs.Worded.{Somes}
use Rattle.read_row.proofs.Tails.{ParamWord as ParamKind}
use Rattle.read_row.proofs.Kept.{first_number}
use Rattle.read_row.proofs.Theorems.{below_inside, kind_again, below_again, params_again, number_again}
use Rattle.proof_walk.specs.Table.{Table, ParamWord, def, method, lambda}

-- the number of a name
abbrev pub numbers : Tree → Bytes → ℕ
numbers t x = earliest (map name_in (rows_t t)) x

-- ---- a number below 4,096 is a row that has the name
first_row : (names : List Bytes) (x : Bytes) → earliest names x < 4_096 → First names x (earliest names x)
first_row names x l = go (sought names x)
  where
    go : ((j : ℕ) × First names x j) ⊎ Absent names x → First names x (earliest names x)
    go (inl (j, f)) = subst (First names x) (sym (earliest_first f)) f
    go (inr a) = absurd (omega (arith, earliest_absent names x a))

names_apart : (names : List Bytes) (x y : Bytes) → earliest names x < 4_096 → earliest names x ≡ earliest names y → x ≡ y
names_apart names x y l e =
    sym (first_row names x l).is ∙ (ap (λ (j : ℕ). get_or names j []) e ∙ (first_row names y (omega arith)).is)

pub numbers_rows : (t : Tree) (x : Bytes) → numbers t x < 4_096 → numbers t x < length (rows_t t)
numbers_rows t x l = omega (arith, (first_row (map name_in (rows_t t)) x l).low, length-map (rows_t t) name_in)

-- ---- the words that have parameters
param_kind : {k : ℕ} → ParamWord k → ParamKind k
param_kind def = ParamKind.def
param_kind method = ParamKind.method
param_kind lambda = ParamKind.lambda

-- ---- names have bytes
somes : {text : Bytes} {ps : List Part} → All (IsNameOf text) ps → Somes ps
somes all_nil = tt
somes (all_cons h a) = (λ e. false≢true (sym (ap is_name e) ∙ h.1), somes a)

pub globals_named : (text : Bytes) (work : ℕ) (t : Tree) → reading text work ≡ tree t → Somes t.globals
globals_named text work t e = somes (tree_parts text work t e).0

-- ---- the buffer
module _ (text : Bytes) (work : ℕ) (t : Tree) (e : reading text work ≡ tree t) (w : List ℕ) (h : Holds text (rows_t t) w) where
  pub table_held : Table text (rows_t t) (numbers t) w
  table_held = record {
    room = h.names.room;
    few = omega (arith, h.names.few, length-map (rows_t t) name_in);
    kind = kind_again text work t e w h;
    below = below_again text work t e w h;
    number = number_again text work t e w h;
    params = λ i l k. params_again text work t e w h i l (param_kind k);
    heads = λ k. omega (arith, ap (λ (j : ℕ). get_or w (8_192 + j) 0 % 8_192) (twice k), (h.names.heads (k % 4_096) (omega arith)).low, h.names.few);
    found = row_of_name h;
    apart = names_apart (map name_in (rows_t t));
  }
    where
      twice : (k : ℕ) → k % 4_096 % 4_096 ≡ k % 4_096
      twice k = omega arith

  -- no name is marked as a lambda's parameter
  pub no_lambdas_lem : (a : ℕ) → a < length (rows_t t) → lambda_end w a ≡ 0
  no_lambdas_lem a l = omega (arith, first_number h a l, kind_again text work t e w h a l, below_inside text work t e a l, table_held.few)
