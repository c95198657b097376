-- A test that holds of each number of a list holds of each word of that kind: one law, where each test would be a table of the words.
use Rattle.std.proofs.Common.{ℕ, ◌≡◌, refl, sym, ap, ◌∙◌, Bool, true, false, ◌||◌, List, [], ◌∷◌, eqb, eqb-true}
use Rattle.std.proofs.lemmas.Bool.{false≢true}
use Rattle.spec_text.specs.Bytes.{all}
use Rattle.spec_text.proofs.Lists.{and_split}
use Rattle.spec_faults.specs.Faults.{among}
use Rattle.read_row.specs.Worded.{NodeWord, lit, un, bin, list, set, treeset, dict, AccessWord, index, get, SimpleWord, break, continue, pass, return, expr, BlockWord, elif, while}

abbrev pub node_words : List ℕ
node_words = 16 ∷ 18 ∷ 19 ∷ 23 ∷ 25 ∷ 26 ∷ 27 ∷ []

abbrev pub access_words : List ℕ
access_words = 20 ∷ 22 ∷ []

abbrev pub simple_words : List ℕ
simple_words = 2 ∷ 3 ∷ 4 ∷ 11 ∷ 12 ∷ []

abbrev pub block_words : List ℕ
block_words = 8 ∷ 9 ∷ []

module _ (p : ℕ → Bool) where
  -- it holds of each number of the list ns, and so of k, which is one of them
  listed : (k : ℕ) (ns : List ℕ) → all p ns ≡ true → among k ns ≡ true → p k ≡ true
  listed k [] a m = absurd (false≢true m)
  listed k (n ∷ ns) a m = let h = and_split (p n) (all p ns) a in go (eqb n k) refl h.0 (listed k ns h.1) m
    where
      go : (b : Bool) → eqb n k ≡ b → p n ≡ true → (among k ns ≡ true → p k ≡ true) → (b || among k ns) ≡ true → p k ≡ true
      go true e h rest m = ap p (sym (eqb-true n k e)) ∙ h
      go false e h rest m = rest m

  pub node_test : all p node_words ≡ true → {k : ℕ} → NodeWord k → p k ≡ true
  node_test a lit = listed 16 node_words a refl
  node_test a un = listed 18 node_words a refl
  node_test a bin = listed 19 node_words a refl
  node_test a list = listed 23 node_words a refl
  node_test a set = listed 25 node_words a refl
  node_test a treeset = listed 26 node_words a refl
  node_test a dict = listed 27 node_words a refl

  pub access_test : all p access_words ≡ true → {k : ℕ} → AccessWord k → p k ≡ true
  access_test a index = listed 20 access_words a refl
  access_test a get = listed 22 access_words a refl

  pub simple_test : all p simple_words ≡ true → {k : ℕ} → SimpleWord k → p k ≡ true
  simple_test a break = listed 2 simple_words a refl
  simple_test a continue = listed 3 simple_words a refl
  simple_test a pass = listed 4 simple_words a refl
  simple_test a return = listed 11 simple_words a refl
  simple_test a expr = listed 12 simple_words a refl

  pub block_test : all p block_words ≡ true → {k : ℕ} → BlockWord k → p k ≡ true
  block_test a elif = listed 8 block_words a refl
  block_test a while = listed 9 block_words a refl
