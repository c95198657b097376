-- What the code needs of a line that is taken, by what is known of a line that is read.
use Rattle.std.proofs.Common.{ℕ, ◌≤◌, ◌<◌, arith, ◌≡◌, sym, ap, subst, ◌∙◌, length, Ok, Err}
use Rattle.spec_text.specs.Bytes.{Bytes}
use Rattle.spec_text.specs.Lines.{count_at}
use Rattle.read_line.specs.declared.Line.{Line}
use Rattle.read_line.specs.LineModel.{numbers_of}
use Rattle.read_tree.specs.MachineModel.{due_at}
use Rattle.read_words.specs.ChildrenModel.{children_by, Few}
use Rattle.read_words.proofs.Few.{few_by}
use Rattle.read_tree.proofs.Same.{Same, read, refuse, same}

-- what the code needs of line n, which starts at an offset
pub record Fresh (text : Bytes) (at n : ℕ) (l : Line) : Type 0 where
  pub few : n ≤ 4_097
  pub onward : at < l.next
  pub inside : l.next ≤ length text
  pub name : (l.name.len ≡ 0 → ⊥) → l.name.offset < length text
  pub below : Few (children_by l.kind l.count0 l.count1 l.count2)

pub fresh : (text : Bytes) (at s n d : ℕ) {l : Line} → due_at text at s n d ≡ Ok l → Fresh text at n l
fresh text at s n d {l} z = go (same text at s n d)
  where
    go : Same text at s n d → Fresh text at n l
    go (read f p next e m x k) =
        let q : numbers_of p next ≡ l = cc in
        subst (Fresh text at n) q (record {
          few = m;
          onward = k.onward;
          inside = k.inside;
          name = λ h. k.offset (λ b. h (ap length b));
          below = few_by (count_at 0 p) (count_at 1 p) (count_at 2 p) (k.counts 0) (k.counts 1) (k.counts 2) p.line.word k.kind;
        })
    go (refuse r e x) = absurd (never (sym e ∙ z))
      where
        never : Err r ≡ Ok l → ⊥
        never h = let o : ◌≡◌ {A = ℕ} 0 1 = cc in omega arith
