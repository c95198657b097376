-- The free names of a lambda's body, and the Rust's check of them: all pass, or one fails, in any order of the names.
-- Names are judged by one test g; under a lambda with parameters ps the test becomes `bound ps g`.
use Rattle.std.proofs.Common.{ℕ, ◌≡◌, refl, sym, ap, ◌∙◌, Bool, true, false, cond, not, ◌||◌, true≢false, List, [], ◌∷◌, ◌++◌}
use Rattle.std.proofs.Math.Bool.{or-true}
use Rattle.std.proofs.lemmas.Bool.{false≢true}
use Rattle.std.proofs.Math.Option.{none, some}
use Rattle.spec_text.specs.Bytes.{Bytes, Part, same, mem}
use Rattle.spec_text.specs.Tree.{Line}
use Rattle.spec_text.proofs.Lists.{other_same}
use Rattle.spec_faults.specs.Faults.{keep}
use Rattle.spec_faults.specs.Rust.{error, Checked, check, and_then, check_captured, Order, Rearranges}
use Rattle.spec_faults.proofs.Lists.{same_eq, mem_append, mem_here, mem_there}

-- ---- names that pass a test
abbrev pub Fine : (Bytes → Bool) → List Part → Type 0
Fine g xs = (x : Bytes) → mem x xs ≡ true → g x ≡ true

-- a name is a parameter, or passes the test
abbrev pub bound : List Part → (Bytes → Bool) → Bytes → Bool
bound ps g x = mem x ps || g x

abbrev pub free : List Part → List Part → List Part
free ps xs = keep (λ (x : Part). not (mem x.bytes ps)) xs

mem_free : (x : Bytes) (ps xs : List Part) → mem x ps ≡ false → mem x (free ps xs) ≡ mem x xs
mem_free x ps [] e = refl
mem_free x ps (y ∷ xs) e = go (mem y.bytes ps) refl (mem_free x ps xs e)
  where
    go : (b : Bool) → mem y.bytes ps ≡ b → mem x (free ps xs) ≡ mem x xs
        → mem x (cond (not b) (y ∷ free ps xs) (free ps xs)) ≡ (same x y.bytes || mem x xs)
    go true p h = rw (other_same x y.bytes (λ q. true≢false (sym p ∙ ap (λ z. mem z ps) (sym q) ∙ e))) h
    go false p h = ap (λ t. same x y.bytes || t) h

module _ (g : Bytes → Bool) where
  fine_more : (x : Part) (xs : List Part) → g x.bytes ≡ true → Fine g xs → Fine g (x ∷ xs)
  fine_more x xs e f y = go (same y x.bytes) refl
    where
      go : (t : Bool) → same y x.bytes ≡ t → (t || mem y xs) ≡ true → g y ≡ true
      go true s m = ap g (same_eq y x.bytes s) ∙ e
      go false s m = f y m

  pub fine_append : (a b : List Part) → Fine g (a ++ b) → Fine g a × Fine g b
  fine_append a b f = (
    λ x m. f x (mem_append x a b ∙ ap (λ t. t || mem x b) m),
    λ x m. f x (mem_append x a b ∙ ap (λ t. mem x a || t) m ∙ or-true (mem x a)),
  )

  pub fine_one : (ps : List Part) (x : Part) → Fine g (cond (mem x.bytes ps) [] (x ∷ [])) → bound ps g x.bytes ≡ true
  fine_one ps x = go (mem x.bytes ps)
    where
      go : (b : Bool) → Fine g (cond b [] (x ∷ [])) → (b || g x.bytes) ≡ true
      go true f = refl
      go false f = f x.bytes (mem_here x [])

  pub fine_free : (ps xs : List Part) → Fine g (free ps xs) → Fine (bound ps g) xs
  fine_free ps xs f x m = go (mem x ps) refl
    where
      go : (b : Bool) → mem x ps ≡ b → (b || g x) ≡ true
      go true e = refl
      go false e = f x (mem_free x ps xs e ∙ m)

-- ---- what the check of captured names finds
pub data Looked (i : ℕ) (l : Line) (g : Bytes → Bool) (xs : List Part) : Checked → Type 0 where
  pass : Fine g xs → Looked i l g xs none
  fail : (y : Bytes) → mem y xs ≡ true → g y ≡ false → Looked i l g xs (some (error i y [] l))

module _ (i : ℕ) (l : Line) (g : Bytes → Bool) where
  looked : (xs : List Part) → Looked i l g xs (check_captured i l g xs)
  looked [] = pass (λ x m. absurd (false≢true m))
  looked (x ∷ xs) = go (g x.bytes) refl (looked xs)
    where
      go : {c : Checked} (t : Bool) → g x.bytes ≡ t → Looked i l g xs c
          → Looked i l g (x ∷ xs) (and_then (check t (error i x.bytes [] l)) c)
      go true e (pass f) = pass (fine_more g x xs e f)
      go true e (fail y m n) = fail y (mem_there y x xs m) n
      go false e k = fail x.bytes (mem_here x xs) e

  looked_as : {xs ys : List Part} {c : Checked} → ((x : Bytes) → mem x ys ≡ mem x xs) → Looked i l g ys c → Looked i l g xs c
  looked_as h (pass f) = pass (λ x m. f x (h x ∙ m))
  looked_as h (fail y m n) = fail y (sym (h y) ∙ m) n

-- whatever the order
pub looked_through : (order : Order) → Rearranges order → (i : ℕ) (l : Line) (g : Bytes → Bool) (xs : List Part) → Looked i l g xs (check_captured i l g (order l xs))
looked_through order same_names i l g xs = looked_as i l g (same_names l xs) (looked i l g (order l xs))
