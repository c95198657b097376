-- Tests over bindings: whether one stands earlier, in a block or in one of some blocks.
-- A part of the tree binds nothing in a block that is neither around it nor in it, and nothing before its first line: there each test fails.
use Rattle.std.proofs.Common.{ℕ, suc, ◌≤◌, ◌<◌, arith, ◌≡◌, refl, sym, ap, ap₂, ◌∙◌, ◌≢◌, Bool, true, false, ◌&&◌, ◌||◌, List, [], ◌∷◌, ◌++◌, map, eqb, ne_eqb, le-leb}
use Rattle.std.proofs.Math.Bool.{or_assoc, and-false}
use Rattle.std.proofs.lemmas.Bool.{false≢true, lt-leb}
use Rattle.spec_text.specs.Bytes.{Bytes, Part, same, mem, any}
use Rattle.spec_faults.specs.Position.{Placed, Home, Use}
use Rattle.spec_faults.specs.Bindings.{by_param, Binding, bind}
use Rattle.spec_faults.specs.Faults.{earlier, among, bound, judge_read}
use Rattle.spec_faults.proofs.Lists.{eqb_same, any_same, any_or, any_none, Each, each_map, any_each, any_quiet}
use Rattle.spec_faults.proofs.Bound.{In, Range}

-- ---- tests over blocks
not_among : (k : ℕ) (js : List ℕ) → Each (λ j. j ≢ k) js → among k js ≡ false
not_among k [] p = refl
not_among k (j ∷ js) p = ap₂ ◌||◌ (ne_eqb j k p.0) (not_among k js p.1)

among_append : (k : ℕ) (a b : List ℕ) → among k (a ++ b) ≡ (among k a || among k b)
among_append k [] b = refl
among_append k (j ∷ a) b = ap (λ t. eqb j k || t) (among_append k a b) ∙ sym (or_assoc (eqb j k) (among k a) (among k b))

spread : (e p q g : Bool) → (e && ((p || q) && g)) ≡ (e && (p && g) || e && (q && g))
spread false p q g = refl
spread true false q g = refl
spread true true q false = sym (and-false q)
spread true true q true = refl

pub turn : (e p g : Bool) → (e && (p && g)) ≡ (p && (e && g))
turn false false g = refl
turn false true g = refl
turn true p g = refl

-- earlier bindings in one of two lists of blocks
pub bound_append : (B : List Binding) (x : Bytes) (a b : List ℕ) (r : ℕ) → bound x (a ++ b) r B ≡ (bound x a r B || bound x b r B)
bound_append B x a b r =
    any_same _ (λ (c : Binding). earlier r c && (among c.block a && same x c.name.bytes) || earlier r c && (among c.block b && same x c.name.bytes))
    (λ c. ap (λ t. earlier r c && (t && same x c.name.bytes)) (among_append c.block a b)
    ∙ spread (earlier r c) (among c.block a) (among c.block b) (same x c.name.bytes)) B
    ∙ any_or _ _ B

pub bound_nil : (B : List Binding) (x : Bytes) (r : ℕ) → bound x [] r B ≡ false
bound_nil B x r = any_none _ (λ b. and-false (earlier r b)) B

-- earlier bindings in a block k, and in the blocks ks
pub bound_cons : (B : List Binding) (x : Bytes) (k : ℕ) (ks : List ℕ) (r : ℕ)
    → bound x (k ∷ ks) r B ≡ (any (λ (b : Binding). eqb k b.block && (earlier r b && same x b.name.bytes)) B || bound x ks r B)
bound_cons B x k ks r =
    any_same _ (λ (b : Binding). eqb k b.block && (earlier r b && same x b.name.bytes) || earlier r b && (among b.block ks && same x b.name.bytes))
    (λ b. spread (earlier r b) (eqb k b.block) (among b.block ks) (same x b.name.bytes)
    ∙ ap (λ t. t || earlier r b && (among b.block ks && same x b.name.bytes)) (turn (earlier r b) (eqb k b.block) (same x b.name.bytes))) B
    ∙ any_or _ _ B

-- ---- bindings that bind nothing in a block, or nothing yet
pub quiet : (k n m h j : ℕ) (D : List Binding) → j ≢ k → (n ≤ j → j < m → ⊥) → Range k n m h D → (g : Binding → Bool) → any (λ b. eqb j b.block && g b) D ≡ false
quiet k n m h j D d o r g = any_quiet _ D (each_map (In k n m h) _ (λ b i. rw (ne_eqb j b.block (i.block j d o))) D r)

-- at line r nothing of it stands earlier in a block before line n
abbrev pub Still : ℕ → ℕ → Binding → Type 0
Still n r b = (j : ℕ) → j < n → earlier r b ≡ true → j ≢ b.block

pub still_blocks : (n m h r : ℕ) (D : List Binding) → ((k : ℕ) → Range k n m h D) → (i : ℕ) → i ≤ n → Each (Still i r) D
still_blocks n m h r D g i l = each_map (In n n m h) (Still i r) (λ b a j p q. a.block j (λ e. omega arith) (λ s t. omega arith)) D (g n)

pub still_later : (k n m h r i : ℕ) (D : List Binding) → r ≤ n → Range k n m h D → Each (Still i r) D
still_later k n m h r i D l g =
    each_map (In k n m h) (Still i r) (λ b a j p q. let lo : n < b.from = a.low in let f : false ≡ true = sym (lt-leb b.from r (omega arith)) ∙ q in λ e. absurd (false≢true f)) D g

-- a test p that asks for a block before line n
pub still_none : (n r : ℕ) (p : Binding → Bool) (D : List Binding) → ((b : Binding) → ((j : ℕ) → j < n → j ≢ b.block) → p b ≡ false) → Each (Still n r) D
    → any (λ b. earlier r b && p b) D ≡ false
still_none n r p D h q = any_quiet _ D (each_map (Still n r) _ (λ b s. go b (earlier r b) s) D q)
  where
    go : (b : Binding) (t : Bool) → ((j : ℕ) → j < n → t ≡ true → j ≢ b.block) → (t && p b) ≡ false
    go b false s = refl
    go b true s = h b (λ j l. s j l refl)

pub in_path : (n : ℕ) (ks : List ℕ) (x : Bytes) → Each (λ j. j < n) ks → (b : Binding) → ((j : ℕ) → j < n → j ≢ b.block) → (among b.block ks && same x b.name.bytes) ≡ false
in_path n ks x p b d = rw (not_among b.block ks (each_map (λ j. j < n) (λ j. j ≢ b.block) d ks p))

pub in_block : (n k : ℕ) (g : Binding → Bool) → k < n → (b : Binding) → ((j : ℕ) → j < n → j ≢ b.block) → (eqb k b.block && g b) ≡ false
in_block n k g l b d = rw (ne_eqb k b.block (d k l))

-- the parameters of the block n
pub params_any : (n : ℕ) (x : Bytes) (g : Binding → Bool) (ps : List Part) → ((p : Part) → g (bind by_param n (suc n) p) ≡ same x p.bytes)
    → any (λ (b : Binding). eqb n b.block && g b) (map (bind by_param n (suc n)) ps) ≡ mem x ps
params_any n x g [] h = refl
params_any n x g (p ∷ ps) h = ap₂ ◌||◌ (ap (λ t. t && g (bind by_param n (suc n) p)) (eqb_same n) ∙ h p) (params_any n x g ps h)

pub not_yet : (k n m h r : ℕ) (D : List Binding) → r ≤ n → Range k n m h D → (f : Binding → Bool) → any (λ b. earlier r b && f b) D ≡ false
not_yet k n m h r D l g f = any_quiet _ D (each_map (In k n m h) _ (λ b i. let lo : n < b.from = i.low in rw (lt-leb b.from r (omega arith))) D g)

-- all of it stands earlier at r, as it does at q
pub all_there : (k n m h r q : ℕ) (D : List Binding) → h ≤ suc r → r ≤ q → Range k n m h D → (f : Binding → Bool) → any (λ b. earlier q b && f b) D ≡ any (λ b. earlier r b && f b) D
all_there k n m h r q D l p g f =
    any_each _ _ D (each_map (In k n m h) _ (λ b i. let hi : b.from < h = i.high in rw (le-leb b.from q (omega arith), le-leb b.from r (omega arith))) D g)

-- where a lambda's parameter hides the name, what else is in view does not matter
pub param_first : (h : Home) (ls : List Placed) (u : Use) (r : Placed) (p o a v : Bool) → judge_read h ls u r p o a (p || v) ≡ judge_read h ls u r p o a v
param_first h ls u r true o a v = refl
param_first h ls u r false o a v = refl
