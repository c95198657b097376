-- The theorems about reading, for every text and every length of the work buffer, in one place.
use Rattle.std.proofs.Common.{ℕ, ◌+◌, ◌<◌, ◌≤◌, ◌≡◌, subst, ◌↔◌, true, length}
use Rattle.spec_text.specs.Bytes.{Bytes}
use Rattle.spec_text.specs.Tree.{Tree, len_ss}
use Rattle.spec_text.specs.Reading.{longest_text, shortest_work, tree, refusal, reading}
use Rattle.spec_text.proofs.Lists.{All}
use Rattle.spec_text.proofs.LineParts.{IsNameOf, LineIn}
use Rattle.spec_text.proofs.Shape.{depth_ss, EachSs}
use Rattle.spec_text.proofs.Refusals.{refusal_ok, TreeFits, ReadingFits, reading_fits, refused_1, refused_2}

-- ---- A text has one tree or one refusal: reading is a function, and a tree is no refusal.
pub determined : (text : Bytes) (work k n : ℕ) (t : Tree) → reading text work ≡ tree t → reading text work ≡ refusal k n → ⊥
determined text work k n t e f = cc

-- ---- A refusal has a number from 1 to 7, and a line: 0 for 1 and 2, else from 1 on.
pub refusal_numbers : (text : Bytes) (work k n : ℕ) → reading text work ≡ refusal k n → refusal_ok k n ≡ true
refusal_numbers text work k n e = subst (ReadingFits text) e (reading_fits text work)

-- ---- 1 and 2 come exactly where the text is too long, and where it is not and the work buffer is too short.
pub first_refusal : (text : Bytes) (work n : ℕ) → (reading text work ≡ refusal 1 n) ↔ ((longest_text < length text) × (n ≡ 0))
first_refusal = refused_1

pub second_refusal : (text : Bytes) (work n : ℕ) → (reading text work ≡ refusal 2 n) ↔ ((length text ≤ longest_text) × (work < shortest_work) × (n ≡ 0))
second_refusal = refused_2

-- ---- A tree that was read keeps the limits, and its names are parts of the text.
module _ (text : Bytes) (work : ℕ) (t : Tree) (e : reading text work ≡ tree t) where
  fits : TreeFits text t × (length text ≤ 65_536)
  fits = subst (ReadingFits text) e (reading_fits text work)

  -- "4,096 lines after the first"
  pub tree_lines : length t.globals + len_ss t.body ≤ 4_096
  tree_lines = fits.0.count

  -- "depth 64"
  pub tree_depth : depth_ss t.body ≤ 64
  tree_depth = fits.0.deep

  -- each global is a name and a part of the text; each line's span is within its limit, and its name and parameters are names and parts of the text
  pub tree_parts : All (IsNameOf text) t.globals × EachSs (LineIn text) t.body
  tree_parts = (fits.0.globals, fits.0.lines)

  -- "65,536 bytes"
  pub text_length : length text ≤ 65_536
  text_length = fits.1
