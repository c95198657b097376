-- Links of a chain: what a link says stays with one name more, and whoever follows the links of a name's hash ends at the earliest row
-- that has the name. All new rows from m on that have the name are passed, and a link skips only rows of other hashes.
use Rattle.std.proofs.Common.{ℕ, zero, suc, ◌+◌, ◌-◌, ◌≤◌, ◌<◌, eq-or-lt_of_le, arith, ◌≡◌, refl, sym, ap, ◌∙◌, subst, Bool, true, false, List, [], ◌∷◌, ◌⊎◌, inl, inr, ⊎_elim, below_more, cond, Option, None, Some, MatchOption, length, get_or}
use Rattle.std.proofs.lemmas.Bool.{cases_lt}
use Rattle.spec_text.specs.Bytes.{Bytes, same}
use Rattle.read_fields.specs.FieldsModel.{field_at, mix, hash_from, hash_of}
use Rattle.work_rows.specs.Layout.{rows_most, offset_at}
use Rattle.read_names.specs.Names.{earliest}
use Rattle.read_names.specs.ChainsModel.{head_at, link_at, follow, row_found, row_number, lookup, New, Link, Names}
use Rattle.read_names.proofs.Earliest.{more, First, Absent, sought, earliest_first, earliest_absent, more_old}
use Rattle.spec_text.proofs.Lists.{same_eq, same_false}

hash_from_lem : (h : ℕ) (x : Bytes) → h < 4_096 → hash_from h x < 4_096
unfolding hash_from
hash_from_lem h [] l = l
hash_from_lem h (b ∷ x) l = hash_from_lem (mix h b) x (omega arith)

pub hash_small : (x : Bytes) → hash_of x < 4_096
hash_small x = hash_from_lem 0 x (omega arith)

-- ---- the first row that has a name is new, and a new row is the first
pub first_is_new : {names : List Bytes} {x : Bytes} {j : ℕ} → (x ≡ [] → ⊥) → First names x j → New names j
first_is_new d f = (λ e. d (sym f.is ∙ e), λ k l e. f.before k l (e ∙ f.is))

new_is_first : {names : List Bytes} {x : Bytes} {j : ℕ} → j < length names → New names j → get_or names j [] ≡ x → First names x j
new_is_first l n e = record { low = l; is = e; before = λ k m q. n.1 k m (q ∙ sym e) }

-- ---- one name more
module _ (names : List Bytes) (x : Bytes) where
  pub new_less : (k : ℕ) → k < length names → New (more names x) k → New names k
  new_less k l n =
      let e : get_or (more names x) k [] ≡ get_or names k [] = more_old names x k l in
      (λ q. n.0 (e ∙ q), λ j m q. n.1 j m (more_old names x j (omega arith) ∙ (q ∙ sym e)))

  new_more : (k : ℕ) → k < length names → New names k → New (more names x) k
  new_more k l n =
      let e : get_or (more names x) k [] ≡ get_or names k [] = more_old names x k l in
      (λ q. n.0 (sym e ∙ q), λ j m q. n.1 j m (sym (more_old names x j (omega arith)) ∙ (q ∙ e)))

  pub link_more : (h n c : ℕ) → n ≤ length names → Link names h n c → Link (more names x) h n c
  link_more h n c s l = record {
    low = l.low;
    skip = λ k m o f e. l.skip k m o (new_less k (omega arith) f) (sym (hash k (omega arith)) ∙ e);
    top = λ p. (new_more (c - 1) (omega (arith, l.low)) (l.top p).0, hash (c - 1) (omega (arith, l.low)) ∙ (l.top p).1);
  }
    where
      hash : (k : ℕ) → k < length names → hash_of (get_or (more names x) k []) ≡ hash_of (get_or names k [])
      hash k m = ap hash_of (more_old names x k m)

-- ---- one row more: it is not of the chain, or it is its last
pub link_past : {names : List Bytes} (h n c : ℕ) → Link names h n c → (New names n → hash_of (get_or names n []) ≡ h → ⊥) → Link names h (n + 1) c
link_past h n c l out = record { low = omega (arith, l.low); skip = below_more _ n l.skip (λ _. out); top = l.top }

pub link_on : {names : List Bytes} (h n : ℕ) → New names n → hash_of (get_or names n []) ≡ h → Link names h (n + 1) (n + 1)
link_on {names} h n f e = record {
  low = omega arith;
  skip = λ k a b. absurd (omega arith);
  top = λ _. subst (λ z. New names z × (hash_of (get_or names z []) ≡ h)) (omega arith) (f, e);
}

link_top : {names : List Bytes} (h n j : ℕ) → Link names h n (suc j) → New names j × (hash_of (get_or names j []) ≡ h)
link_top {names} h n j l = subst (λ z. New names z × (hash_of (get_or names z []) ≡ h)) (omega arith) (l.top (omega arith))

-- ---- along the chain: no new row from m on has the name
abbrev Past : List Bytes → Bytes → ℕ → Type 0
Past names x m = (k : ℕ) → m ≤ k → k < length names → New names k → get_or names k [] ≡ x → ⊥

-- none is found where no row has the name, and else the earliest
abbrev pub Finds : List Bytes → Bytes → Option ℕ → Type 0
Finds names x r = MatchOption r (earliest names x ≡ rows_most) (λ j. (earliest names x ≡ j) × (j < rows_most))

finds_number : (names : List Bytes) (x : Bytes) (r : Option ℕ) → Finds names x r → row_number r ≡ earliest names x
finds_number names x None e = sym e
finds_number names x (Some j) e = sym e.0

module _ {text : Bytes} {names : List Bytes} {w : List ℕ} (s : Names text names w) (x : Bytes) (some : x ≡ [] → ⊥) where
  follow_end : (m : ℕ) → Link names (hash_of x) m 0 → Past names x m → Finds names x None
  follow_end m l past = go (sought names x)
    where
      go : ((j : ℕ) × First names x j) ⊎ Absent names x → earliest names x ≡ rows_most
      go (inr a) = earliest_absent names x a
      go (inl (j, f)) =
          let n = first_is_new some f in
          absurd (⊎_elim (λ a. l.skip j a (omega arith) n (ap hash_of f.is)) (λ a. past j a f.low n f.is) (cases_lt j m))

  -- at row j: it has the name, or the search goes on with the rows before it
  follow_step : (m j : ℕ) (rest : Option ℕ) → m ≤ length names → Link names (hash_of x) m (suc j) → Past names x m
      → (Past names x j → Finds names x rest) → Finds names x (cond (same (field_at text (offset_at w j)) x) (Some j) rest)
  follow_step m j rest b l past more = go (same (field_at text (offset_at w j)) x) refl
    where
      low : j < length names
      low = omega (arith, l.low)

      new : New names j
      new = (link_top (hash_of x) m j l).0

      name : field_at text (offset_at w j) ≡ get_or names j []
      name = s.offsets j low new.0

      go : (t : Bool) → same (field_at text (offset_at w j)) x ≡ t → Finds names x (cond t (Some j) rest)
      go true e = (earliest_first (new_is_first {names = names} {x = x} low new (sym name ∙ same_eq _ x e)), omega (arith, s.few))
      go false e = more (λ k a q n z. ⊎_elim (λ o. ⊎_elim
          (λ i. same_false _ x e (name ∙ (ap (λ r. get_or names r []) i ∙ z)))
          (λ i. l.skip k o i n (ap hash_of z)) (eq-or-lt_of_le a)) (λ o. past k o q n z) (cases_lt k m))

  follow_finds : (fuel m c : ℕ) → c ≤ fuel → m ≤ length names → Link names (hash_of x) m c → Past names x m → Finds names x (follow fuel text w c x)
  unfolding follow
  follow_finds zero m zero a b l past = follow_end m l past
  follow_finds zero m (suc j) a b l past = absurd (omega arith)
  follow_finds (suc fuel) m zero a b l past = follow_end m l past
  follow_finds (suc fuel) m (suc j) a b l past =
      let t = link_top (hash_of x) m j l in
      let k : Link names (hash_of x) j (link_at w j) = subst (λ h. Link names h j (link_at w j)) t.1 (s.links j (omega (arith, l.low)) t.0) in
      follow_step m j _ b l past (λ p. follow_finds fuel j (link_at w j) (omega (arith, k.low)) (omega (arith, l.low)) k p)

  -- what is found for a name is the earliest row that has it
  pub found_row : Finds names x (row_found text w x)
  found_row =
      let h : ℕ = head_at w (hash_of x) in
      follow_finds h (length names) h (omega arith) (omega arith) (s.heads (hash_of x) (hash_small x)) (λ k a b. absurd (omega arith))

  pub found_earliest : lookup text w x ≡ earliest names x
  found_earliest = finds_number names x (row_found text w x) found_row
