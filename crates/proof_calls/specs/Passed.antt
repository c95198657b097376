-- What is true of every script that check passes: its text is a tree, and the rule holds of that tree. Nothing else passes.
use Rattle.std.specs.Prelude.{ℕ, ◌≤◌, ◌≡◌, ◌↔◌, Option, None, Some, Result, Ok}
use Rattle.spec_text.specs.Bytes.{Bytes}
use Rattle.spec_text.specs.Tree.{Tree}
use Rattle.spec_text.specs.Reading.{tree, refusal, reading}
use Rattle.spec_faults.specs.Rule.{Rule}
use Rattle.spec_faults.specs.Kinds.{kind_number}
use Rattle.report_records.specs.declared.Record.{Record}
use Rattle.spec_text.specs.declared.refusal.Refused.{Refused}
use Rattle.spec_answers.specs.Answers.{refused_at}
use Rattle.serduzhap.specs.Calls.{check_says}

-- the text is a tree, and the rule holds of it
pub record Passes (text : Bytes) (work : ℕ) : Type 0 where
  pub is : Tree
  pub read : reading text work ≡ tree is
  pub rule : Rule is

-- what check answers of a text, with a work buffer of so many numbers
pub record Passed (text : Bytes) (work : ℕ) (c : Result (Option Record) Refused) : Type 0 where
  -- "The check accepts a text exactly when it is a tree of which the four rules hold."
  pub accepted : (c ≡ Ok None) ↔ Passes text work
  -- "A refused text is not passed."
  pub refused : (k n : ℕ) → (check_says c ≡ refused_at k n) ↔ (reading text work ≡ refusal k n)
  pub not_passed : (k n : ℕ) → reading text work ≡ refusal k n → Passes text work → ⊥
  -- "A refusal has a number from 1 to 7, a fault a kind from 8 to 15."
  pub numbers : (k n : ℕ) → check_says c ≡ refused_at k n → (1 ≤ k) × (k ≤ 7)
  pub kinds : (r : Record) → c ≡ Ok (Some r) → (8 ≤ kind_number r.kind) × (kind_number r.kind ≤ 15)
