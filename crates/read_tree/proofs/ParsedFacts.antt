-- What is known of a line from its fields: its form is that of its row of the table, its counts are at most 4,096, and its name is one of its fields.
-- By the table, row by row.
use Rattle.std.proofs.Common.{ℕ, zero, suc, ◌+◌, ◌<◌, ◌≤◌, arith, ◌≡◌, refl, ap, subst, Bool, true, false, cond, List, [], ◌∷◌, map, eqb, leb, length, take, drop, get_or}
use Rattle.std.proofs.Math.Option.{Option, none, some}
use Rattle.spec_text.specs.Bytes.{Bytes, Part, no_part, all, is_name, is_number, value_of, largest_span, largest_count, same}
use Rattle.spec_text.specs.Lines.{Word, words, Parsed, well_formed, parsed, line_of, parse, count_at}
use Rattle.spec_text.proofs.Lists.{and_split, All, all_nil, all_cons, next_of, at_next}
use Rattle.spec_text.proofs.LineParts.{number_small}

-- a line, where P holds of each of its fields
pub record ParsedFacts (P : Part → Type 0) (p : Parsed) : Type 0 where
  pub kind : p.line.word < length words
  pub form : (w : Word) → (get_or words p.line.word w).form ≡ p.form
  pub counts : (i : ℕ) → count_at i p ≤ largest_count
  pub name : (p.line.name.bytes ≡ [] → ⊥) → P p.line.name

abbrev Facts : (Part → Type 0) → Option Parsed → Type 0
Facts P none = Unit
Facts P (some p) = ParsedFacts P p

-- ---- the counts
abbrev is_count : Part → Bool
is_count f = is_number largest_count f.bytes

abbrev value : Part → ℕ
value f = value_of f.bytes

counts_small : (fs : List Part) (i : ℕ) → all is_count fs ≡ true → get_or (map value fs) i 0 ≤ largest_count
counts_small [] i e = omega arith
counts_small (f ∷ fs) zero e = number_small largest_count f.bytes (and_split (is_count f) (all is_count fs) e).0
counts_small (f ∷ fs) (suc i) e = counts_small fs i (and_split (is_count f) (all is_count fs) e).1

module _ {P : Part → Type 0} where
  -- ---- the name
  field_at : {fs : List Part} → All P fs → (i : ℕ) → ((get_or fs i no_part).bytes ≡ [] → ⊥) → P (get_or fs i no_part)
  field_at all_nil i h = absurd (h refl)
  field_at (all_cons p a) zero h = p
  field_at (all_cons p a) (suc i) h = field_at a i h

  name_at_lem : {fs : List Part} → All P fs → (named : Bool) (i : ℕ) → ((cond named (get_or fs i no_part) no_part).bytes ≡ [] → ⊥) → P (cond named (get_or fs i no_part) no_part)
  name_at_lem a true i h = field_at a i h
  name_at_lem a false i h = absurd (h refl)

  -- ---- a row of the table
  module _ {fs : List Part} (each : All P fs) where
    of_row : (n : ℕ) (w : Word) (ws : List Word) → drop n words ≡ w ∷ ws → well_formed w fs ≡ true → ParsedFacts P (parsed n w fs)
    of_row n w ws e h =
        let s : ℕ = cond w.spanned 2 0 in
        let m : ℕ = cond w.named 1 0 in
        let t : ℕ = s + m + w.counts in
        let a = and_split (cond w.params (leb t (length fs)) (eqb t (length fs))) _ h in
        let b = and_split (all (λ (f : Part). is_number largest_span f.bytes) (take s fs)) _ a.1 in
        let c = and_split (all (λ (f : Part). is_name f.bytes) (take m (drop s fs))) _ b.1 in
        let d = and_split (all is_count (take w.counts (drop (s + m) fs))) _ c.1 in
        record {
          kind = (next_of words n w ws e).2;
          form = λ v. ap (λ (x : Word). x.form) (at_next words n w ws v e);
          counts = λ i. counts_small (take w.counts (drop (s + m) fs)) i d.0;
          name = name_at_lem each w.named s;
        }

    of_rows_lem : (n : ℕ) (ws : List Word) (x : Bytes) → drop n words ≡ ws → Facts P (line_of n ws x fs)
    of_rows_lem n [] x e = tt
    of_rows_lem n (w ∷ ws) x e = go (same x w.spelling) (well_formed w fs) refl (of_rows_lem (suc n) ws x (next_of words n w ws e).1)
      where
        go : (a b : Bool) → well_formed w fs ≡ b → Facts P (line_of (suc n) ws x fs)
            → Facts P (elim a [ true ↦ elim b [ true ↦ some (parsed n w fs) | false ↦ none ] | false ↦ line_of (suc n) ws x fs ])
        go true true d k = of_row n w ws e d
        go true false d k = tt
        go false b d k = k

  of_parse : {fs : List Part} → All P fs → Facts P (parse fs)
  of_parse all_nil = tt
  of_parse (all_cons {a = f} p a) = of_rows_lem a 0 words f.bytes refl

  pub parsed_facts : {fs : List Part} {p : Parsed} → All P fs → parse fs ≡ some p → ParsedFacts P p
  parsed_facts a e = subst (Facts P) e (of_parse a)
