-- The theorems about what is found, in one place: of each fault of a tree, name and class name are parts of its text, and short.
use Rattle.std.proofs.Common.{ℕ, ◌≤◌, ◌≡◌, length}
use Rattle.std.proofs.Math.Option.{some}
use Rattle.spec_text.specs.Bytes.{Bytes, no_part}
use Rattle.spec_text.specs.Tree.{Tree}
use Rattle.spec_text.specs.Reading.{tree, reading}
use Rattle.spec_faults.specs.Faults.{Fault, faults}
use Rattle.spec_answers.specs.Answers.{nth_fault}
use Rattle.find_faults.specs.Found.{Shown}
use Rattle.find_faults.proofs.Fitting.{Fits, fault_of_lem, faults_fit}

module _ (text : Bytes) (work : ℕ) (t : Tree) (e : reading text work ≡ tree t) (j : ℕ) (f : Fault) (at : nth_fault (faults t) j ≡ some f) where
  fits : Fits text f
  fits = fault_of_lem (faults_fit text work t e) j f at

  pub faults_shown : Shown text f.name × Shown text f.in_class
  faults_shown = (fits.name.shown, fits.class.shown)

  pub faults_short : (length f.name.bytes ≤ 63) × (length f.in_class.bytes ≤ 63)
  faults_short = (fits.name.short, fits.class.short)

  -- only kind 15 has a class name
  pub faults_classless : (f.kind ≡ 15 → ⊥) → f.in_class ≡ no_part
  faults_classless = fits.no_class
