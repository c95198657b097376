-- The rule "once for a lambda and a name" on the faults in the text's order: of the captures of one lambda and one name, the first stays.
-- To do this before sorting by place is to do it at each line alone: of the captures before, only those placed at a line count there.
-- By induction over the list, with the captures before it; what is left is a part of the list, in its order.
use Rattle.std.proofs.Common.{ℕ, ◌≡◌, refl, sym, ap, ◌∙◌, Bool, true, false, cond, ◌&&◌, ◌||◌, List, [], ◌∷◌, ◌++◌, map, eqb, eqb-true, eq-eqb, ne_eqb}
use Rattle.std.proofs.lemmas.Bool.{eqb-false}
use Rattle.spec_text.specs.Bytes.{Part, same, mem, any}
use Rattle.spec_text.specs.Tree.{Tree, len_ss, first_line}
use Rattle.spec_faults.specs.Faults.{Fault, capture, by_place, faults}
use Rattle.spec_faults.proofs.Lists.{All, also}
use Rattle.spec_faults.proofs.ListingWalk.{once, module_env, start_state}
use Rattle.spec_faults.proofs.Once.{placed, by_place_once, by_place_lem, faults_once}
use Rattle.spec_faults.proofs.TextWalk.{raw_ss}
use Rattle.spec_faults.proofs.InTextOrder.{raw_faults}

-- a capture that stands for the same lambda and name
abbrev pub same_capture : Fault → Fault → Bool
same_capture f g = eqb g.place f.place && same f.name.bytes g.name.bytes

-- of the captures of one lambda and one name, the first; seen are the captures before
abbrev pub dedupe : List Fault → List Fault → List Fault
dedupe seen [] = []
dedupe seen (f ∷ fs) = cond (capture f.kind) (cond (any (same_capture f) seen) (dedupe seen fs) (f ∷ dedupe (f ∷ seen) fs)) (f ∷ dedupe seen fs)

-- the captures seen after a list
abbrev pub seen_after : List Fault → List Fault → List Fault
seen_after seen [] = seen
seen_after seen (f ∷ fs) = cond (capture f.kind) (cond (any (same_capture f) seen) (seen_after seen fs) (seen_after (f ∷ seen) fs)) (seen_after seen fs)

-- ---- two lists, one after the other
pub seen_append : (seen a b : List Fault) → seen_after seen (a ++ b) ≡ seen_after (seen_after seen a) b
seen_append seen [] b = refl
seen_append seen (f ∷ a) b = go (capture f.kind) (any (same_capture f) seen) refl refl (λ s. seen_append s a b)
  where
    go : (c m : Bool) → capture f.kind ≡ c → any (same_capture f) seen ≡ m → ((s : List Fault) → seen_after s (a ++ b) ≡ seen_after (seen_after s a) b)
        → seen_after seen (f ∷ (a ++ b)) ≡ seen_after (seen_after seen (f ∷ a)) b
    go false m p q ih = rw p (ih seen)
    go true true p q ih = rw (p, q) (ih seen)
    go true false p q ih = rw (p, q) (ih (f ∷ seen))

pub dedupe_append : (seen a b : List Fault) → dedupe seen (a ++ b) ≡ dedupe seen a ++ dedupe (seen_after seen a) b
dedupe_append seen [] b = refl
dedupe_append seen (f ∷ a) b = go (capture f.kind) (any (same_capture f) seen) refl refl (λ s. dedupe_append s a b)
  where
    go : (c m : Bool) → capture f.kind ≡ c → any (same_capture f) seen ≡ m → ((s : List Fault) → dedupe s (a ++ b) ≡ dedupe s a ++ dedupe (seen_after s a) b)
        → dedupe seen (f ∷ (a ++ b)) ≡ dedupe seen (f ∷ a) ++ dedupe (seen_after seen (f ∷ a)) b
    go false m p q ih = rw p (ap (λ l. f ∷ l) (ih seen))
    go true true p q ih = rw (p, q) (ih seen)
    go true false p q ih = rw (p, q) (ap (λ l. f ∷ l) (ih (f ∷ seen)))

-- ---- at one line
-- the names of those placed at line n
abbrev names_at : ℕ → List Fault → List Part
names_at n fs = map (λ (f : Fault). f.name) (placed n fs)

-- for a fault placed at line n, the captures before are those placed there
seen_at : (n : ℕ) (f : Fault) → eqb n f.place ≡ true → (seen : List Fault) → any (same_capture f) seen ≡ mem f.name.bytes (names_at n seen)
seen_at n f e [] = refl
seen_at n f e (g ∷ seen) = go (eqb n g.place) refl (seen_at n f e seen)
  where
    go : (b : Bool) → eqb n g.place ≡ b → any (same_capture f) seen ≡ mem f.name.bytes (names_at n seen)
        → any (same_capture f) (g ∷ seen) ≡ mem f.name.bytes (names_at n (g ∷ seen))
    go true d h = rw (d, eq-eqb g.place f.place (sym (eqb-true n g.place d) ∙ eqb-true n f.place e)) (ap (λ b. same f.name.bytes g.name.bytes || b) h)
    go false d h = rw (d, ne_eqb g.place f.place (λ q. eqb-false n g.place d (eqb-true n f.place e ∙ sym q))) h

-- what is left at line n is what is left of the faults placed there
placed_dedupe : (n : ℕ) (seen fs : List Fault) → placed n (dedupe seen fs) ≡ once (names_at n seen) (placed n fs)
placed_dedupe n seen [] = refl
placed_dedupe n seen (f ∷ fs) = go (eqb n f.place) (capture f.kind) (any (same_capture f) seen) refl refl refl (λ s. placed_dedupe n s fs)
  where
    go : (e c m : Bool) → eqb n f.place ≡ e → capture f.kind ≡ c → any (same_capture f) seen ≡ m → ((s : List Fault) → placed n (dedupe s fs) ≡ once (names_at n s) (placed n fs))
        → placed n (dedupe seen (f ∷ fs)) ≡ once (names_at n seen) (placed n (f ∷ fs))
    go true false m p q r ih = rw (q, p, q) (ap (λ l. f ∷ l) (ih seen))
    go true true true p q r ih = rw (q, r, p, q, ← seen_at n f p seen, r) (ih seen)
    go true true false p q r ih = rw (q, r, p, q, ← seen_at n f p seen, r) (ap (λ l. f ∷ l) (rw p at (ih (f ∷ seen))))
    go false false m p q r ih = rw (q, p) (ih seen)
    go false true true p q r ih = rw (q, r, p) (ih seen)
    go false true false p q r ih = rw (q, r, p) (rw p at (ih (f ∷ seen)))

-- the faults of a tree: first once for a lambda and a name, then by place
pub faults_deduped : (t : Tree) → faults t ≡ by_place (first_line t) (len_ss t.body) (dedupe [] (raw_ss t.body (first_line t) [] module_env (start_state t)))
faults_deduped t =
    let raw : List Fault = raw_ss t.body (first_line t) [] module_env (start_state t) in
    faults_once t
    ∙ ap (by_place_once (first_line t) (len_ss t.body)) (raw_faults t)
    ∙ sym (by_place_lem (dedupe [] raw) raw (λ n. placed_dedupe n [] raw) (first_line t) (len_ss t.body))

-- ---- what is left of a list
-- a relation of a list to what is left of it: it has to hold of empty lists, and to stay when a fault is left out and when it is kept
dedupe_by : (P : List Fault → List Fault → Type 0) → P [] [] → ((f : Fault) (fs gs : List Fault) → P fs gs → P (f ∷ fs) gs)
    → ((f : Fault) (fs gs : List Fault) → P fs gs → P (f ∷ fs) (f ∷ gs)) → (seen fs : List Fault) → P fs (dedupe seen fs)
dedupe_by P z less more seen [] = z
dedupe_by P z less more seen (f ∷ fs) = go (capture f.kind) (any (same_capture f) seen) (λ s. dedupe_by P z less more s fs)
  where
    go : (c m : Bool) → ((s : List Fault) → P fs (dedupe s fs)) → P (f ∷ fs) (cond c (cond m (dedupe seen fs) (f ∷ dedupe (f ∷ seen) fs)) (f ∷ dedupe seen fs))
    go false m ih = more f fs (dedupe seen fs) (ih seen)
    go true true ih = less f fs (dedupe seen fs) (ih seen)
    go true false ih = more f fs (dedupe (f ∷ seen) fs) (ih (f ∷ seen))

-- what holds of each fault still does
pub dedupe_all : {P : Fault → Type 0} (seen : List Fault) {fs : List Fault} → All P fs → All P (dedupe seen fs)
dedupe_all {P} seen {fs} a = dedupe_by (λ l m. All P l → All P m) (λ a. a) (λ f l m k. less k) (λ f l m k. more k) seen fs a
  where
    less : {f : Fault} {l m : List Fault} → (All P l → All P m) → All P (f ∷ l) → All P m
    less k (also h r) = k r

    more : {f : Fault} {l m : List Fault} → (All P l → All P m) → All P (f ∷ l) → All P (f ∷ m)
    more k (also h r) = also h (k r)
