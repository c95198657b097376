-- All notes of a def, noted one after the other: the stamp of each own name is the first row from which it is assigned; nothing else changes.
-- The idea: what the notes do to one name's stamp is a fold over the notes with that name, and each of them takes the least of the rows. A
-- stamp that does not come after the def's row is an old one, and counts for nothing. And the notes are forgotten again.
use Rattle.std.proofs.Common.{ℕ, suc, ◌≤◌, ◌<◌, arith, ◌≡◌, refl, sym, ap, ◌∙◌, subst, Bool, true, false, cond, ◌&&◌, ◌||◌, true≢false, List, [], ◌∷◌, ◌++◌, map, leb, ltb, length, lt-ltb, le-ltb, ltb-true, le-leb, leb-true, leb-false}
use Rattle.std.proofs.Math.Bool.{and-true, and-false, or_assoc, or-false}
use Rattle.std.proofs.lemmas.Bool.{false≢true, lt-leb}
use Rattle.spec_text.specs.Bytes.{Bytes, Part, same}
use Rattle.spec_text.proofs.Lists.{same_eq, same_false}
use Rattle.work_rows.specs.Layout.{rows_most}
use Rattle.spec_faults.proofs.Lists.{All, none, also}
use Rattle.work_marks.specs.MarksModel.{stamp_at, flag_at, put_stamp}
use Rattle.work_marks.proofs.Writes.{Words, stamp_same, stamp_other, stamp_flag}
use Rattle.walk_own_names.specs.OwnNamesModel.{noted, forgot, flag_for}
use Rattle.proof_walk.proofs.Fourths.{Fourths, fourths_refl, fourths_trans, fourths_put}
use Rattle.proof_walk.specs.Notes.{Note, note, note_of, assigned_by, flag_of}

-- ---- a change of stamps
-- no flag and no link changes, and nothing else
pub record Restamped (w v : List ℕ) : Type 0 where
  pub others : Fourths w v
  pub flag : Words w → (i : ℕ) → flag_at v i ≡ flag_at w i

restamped_refl : (w : List ℕ) → Restamped w w
restamped_refl w = record { others = fourths_refl w; flag = λ _ _. refl }

restamped_trans : {w v z : List ℕ} → Restamped w v → Restamped v z → Restamped w z
restamped_trans p q = record { others = fourths_trans p.others q.others; flag = λ h i. q.flag (p.others.words h) i ∙ p.flag h i }

restamped_put : (w : List ℕ) (a v : ℕ) → Restamped w (put_stamp w a v)
restamped_put w a v = record { others = fourths_put w a _; flag = stamp_flag w a v }

-- ---- one note
-- the stamp of the name
abbrev restamp : ℕ → ℕ → ℕ → ℕ
restamp b from v = cond (ltb b v && leb v from) v from

module _ (b from v : ℕ) where
  restamp_own : b < from → b < restamp b from v
  restamp_own l = go (ltb b v) refl (leb v from)
    where
      go : (s : Bool) → ltb b v ≡ s → (t : Bool) → b < cond (s && t) v from
      go true e true = ltb-true b v e
      go true e false = l
      go false e t = l

  -- the def has it already
  restamp_least : b < v → (r : ℕ) → leb (restamp b from v) r ≡ (leb v r || leb from r)
  restamp_least e r = rw (lt-ltb b v e) (go (leb v from) refl)
    where
      go : (t : Bool) → leb v from ≡ t → leb (cond t v from) r ≡ (leb v r || leb from r)
      go true p = least (leb from r) refl
        where
          least : (t : Bool) → leb from r ≡ t → leb v r ≡ (leb v r || t)
          least true q = let i : v ≤ r = omega (arith, leb-true v from p, leb-true from r q) in rw (le-leb v r i)
          least false q = sym (or-false (leb v r))
      go false p = least (leb v r) refl
        where
          least : (t : Bool) → leb v r ≡ t → leb from r ≡ (t || leb from r)
          least true q = le-leb from r (omega (arith, leb-false v from p, leb-true v r q))
          least false q = refl

  restamp_new : v ≤ b → restamp b from v ≡ from
  restamp_new d = rw (le-ltb b v d)

-- where the buffer stays, and where the stamp is written
noted_has : (b a from : ℕ) (w : List ℕ) (P : List ℕ → Type 0) → P w → P (put_stamp w a from) → P (noted b a from w)
unfolding noted
noted_has b a from w P stays writes = go (ltb a rows_most) (ltb b (stamp_at w a) && leb (stamp_at w a) from)
  where
    go : (s t : Bool) → P (cond s (cond t w (put_stamp w a from)) w)
    go true true = stays
    go true false = writes
    go false t = stays

module _ (b a from : ℕ) (w : List ℕ) where
  noted_same : 16_384 ≤ length w → from ≤ 8_191 → a < 4_096 → stamp_at (noted b a from w) a ≡ restamp b from (stamp_at w a)
  unfolding noted
  noted_same room m l = rw (lt-ltb a rows_most l) (go (ltb b (stamp_at w a) && leb (stamp_at w a) from))
    where
      go : (t : Bool) → stamp_at (cond t w (put_stamp w a from)) a ≡ cond t (stamp_at w a) from
      go true = refl
      go false = stamp_same w a from room l (omega arith)

  noted_other : (c : ℕ) → (c ≡ a → ⊥) → stamp_at (noted b a from w) c ≡ stamp_at w c
  noted_other c d = noted_has b a from w (λ v. stamp_at v c ≡ stamp_at w c) refl (stamp_other w a from c d)

  pub restamped_noted : Restamped w (noted b a from w)
  restamped_noted = noted_has b a from w (Restamped w) (restamped_refl w) (restamped_put w a from)

pub restamped_forgot : (a from : ℕ) (w : List ℕ) → Restamped w (forgot a from w)
restamped_forgot a from w = restamped_put w a 0

-- ---- all notes
-- the rows from which the names of the def at row b are assigned
pub record Later (b : ℕ) (n : Note) : Type 0 where
  pub low : b < n.from
  pub high : n.from ≤ 8_191

-- what they do to the stamp v of the name x
abbrev stamp_by : ℕ → Bytes → List Note → ℕ → ℕ
stamp_by b x [] v = v
stamp_by b x (n ∷ ns) v = stamp_by b x ns (cond (same x n.name.bytes) (restamp b n.from v) v)

module _ (b : ℕ) (x : Bytes) where
  -- a stamp v of the def is there before, z after; the notes assign the name at these rows
  record Again (assigned : ℕ → Bool) (v z : ℕ) : Type 0 where
    own : b < z
    least : (r : ℕ) → leb z r ≡ (leb v r || assigned r)

  again : (ns : List Note) → All (Later b) ns → (v : ℕ) → b < v → Again (assigned_by ns x) v (stamp_by b x ns v)
  again [] none v e = record { own = e; least = λ r. sym (or-false _) }
  again (n ∷ ns) (also m ms) v e = go (again ns ms) (same x n.name.bytes)
    where
      go : ((z : ℕ) → b < z → Again (assigned_by ns x) z (stamp_by b x ns z)) → (t : Bool)
          → Again (λ r. leb n.from r && t || assigned_by ns x r) v (stamp_by b x ns (cond t (restamp b n.from v) v))
      go rest true =
          let i : Again (assigned_by ns x) (restamp b n.from v) (stamp_by b x ns (restamp b n.from v)) =
          rest (restamp b n.from v) (restamp_own b n.from v m.low) in
          record {
            own = i.own;
            least = λ r.
                i.least r ∙ ap (λ k. k || assigned_by ns x r) (restamp_least b n.from v e r) ∙ or_assoc (leb v r) (leb n.from r) (assigned_by ns x r)
                ∙ ap (λ k. leb v r || (k || assigned_by ns x r)) (sym (and-true (leb n.from r)));
          }
      go rest false =
          let i : Again (assigned_by ns x) v (stamp_by b x ns v) = rest v e in
          record { own = i.own; least = λ r. i.least r ∙ ap (λ k. leb v r || (k || assigned_by ns x r)) (sym (and-false (leb n.from r))) }

  -- no stamp of the def is there before
  record Anew (o : Bool) (assigned : ℕ → Bool) (v z : ℕ) : Type 0 where
    none : o ≡ false → z ≡ v
    own : o ≡ true → b < z
    least : o ≡ true → (r : ℕ) → leb z r ≡ assigned r

  anew : (ns : List Note) → All (Later b) ns → (v : ℕ) → v ≤ b → Anew (note_of ns x) (assigned_by ns x) v (stamp_by b x ns v)
  anew [] none v d = record { none = λ _. refl; own = λ p. absurd (false≢true p); least = λ p. absurd (false≢true p) }
  anew (n ∷ ns) (also m ms) v d = go (anew ns ms v d) (same x n.name.bytes)
    where
      go : Anew (note_of ns x) (assigned_by ns x) v (stamp_by b x ns v) → (t : Bool)
          → Anew (t || note_of ns x) (λ r. leb n.from r && t || assigned_by ns x r) v (stamp_by b x ns (cond t (restamp b n.from v) v))
      go _ true =
          let i : Again (assigned_by ns x) (restamp b n.from v) (stamp_by b x ns (restamp b n.from v)) =
          again ns ms (restamp b n.from v) (restamp_own b n.from v m.low) in
          record {
            none = λ p. absurd (true≢false p);
            own = λ _. i.own;
            least = λ _ r. i.least r ∙ ap (λ k. leb k r || assigned_by ns x r) (restamp_new b n.from v d) ∙ ap (λ k. k || assigned_by ns x r) (sym (and-true (leb n.from r)));
          }
      go i false = record { none = i.none; own = i.own; least = λ p r. i.least p r ∙ ap (λ k. k || assigned_by ns x r) (sym (and-false (leb n.from r))) }

  -- the flag that such a stamp gives at row r
  flag_by : {o : Bool} {assigned : ℕ → Bool} {v z : ℕ} → v ≤ b → Anew o assigned v z → (r : ℕ) → flag_for b r z ≡ cond o (cond (assigned r) 1 2) 0
  flag_by {o} {assigned} {v} {z} d n r = go o refl
    where
      late : (t : Bool) → leb z r ≡ t → ◌≡◌ {A = ℕ} (cond (ltb r z) 2 1) (cond t 1 2)
      late true e = rw (le-ltb r z (leb-true z r e))
      late false e = rw (lt-ltb r z (leb-false z r e))

      go : (t : Bool) → o ≡ t → flag_for b r z ≡ cond t (cond (assigned r) 1 2) 0
      go true e = rw (lt-leb z b (n.own e)) (late (leb z r) refl ∙ ap (λ t. cond t 1 2) (n.least e r))
      go false e = rw (le-leb z b (omega (arith, n.none e)))

-- `op` is done for each note, to the number of its name
module _ (num : Bytes → ℕ) (op : ℕ → ℕ → List ℕ → List ℕ) where
  abbrev pub do_all : List Note → List ℕ → List ℕ
  do_all [] w = w
  do_all (n ∷ ns) w = do_all ns (op (num n.name.bytes) n.from w)

  pub do_all-two : (ms ns : List Note) (w : List ℕ) → do_all (ms ++ ns) w ≡ do_all ns (do_all ms w)
  do_all-two [] ns w = refl
  do_all-two (m ∷ ms) ns w = do_all-two ms ns (op (num m.name.bytes) m.from w)

  module _ (one : (a from : ℕ) (w : List ℕ) → Restamped w (op a from w)) where
    pub restamped_all : (ns : List Note) (w : List ℕ) → Restamped w (do_all ns w)
    restamped_all [] w = restamped_refl w
    restamped_all (n ∷ ns) w =
        restamped_trans (one (num n.name.bytes) n.from w) (restamped_all ns (op (num n.name.bytes) n.from w))

module _ (num : Bytes → ℕ) (apart : (x y : Bytes) → num x < 4_096 → num x ≡ num y → x ≡ y) (x : Bytes) (l : num x < 4_096) where
  -- ---- the notes are noted
  module _ (b : ℕ) where
    stamp_all : (ns : List Note) → All (Later b) ns → (w : List ℕ) → 16_384 ≤ length w → stamp_at (do_all num (noted b) ns w) (num x) ≡ stamp_by b x ns (stamp_at w (num x))
    stamp_all [] none w room = refl
    stamp_all (n ∷ ns) (also m ms) w room =
        stamp_all ns ms (noted b (num n.name.bytes) n.from w) (omega (arith, (restamped_noted b (num n.name.bytes) n.from w).others.kept.long))
        ∙ ap (stamp_by b x ns) (go (same x n.name.bytes) refl)
      where
        go : (t : Bool) → same x n.name.bytes ≡ t → stamp_at (noted b (num n.name.bytes) n.from w) (num x) ≡ cond t (restamp b n.from (stamp_at w (num x))) (stamp_at w (num x))
        go true e = subst (λ y. stamp_at (noted b (num y) n.from w) (num x) ≡ restamp b n.from (stamp_at w (num x))) (same_eq x n.name.bytes e) (noted_same b (num x) n.from w room m.high l)
        go false e = noted_other b (num n.name.bytes) n.from w (num x) (λ q. same_false x n.name.bytes e (apart x n.name.bytes l q))

    -- each name's stamp gives its flag, where no stamp comes after the def's row before
    pub noted_all : (ns : List Note) → All (Later b) ns → (w : List ℕ) → 16_384 ≤ length w → stamp_at w (num x) ≤ b → (r : ℕ)
        → flag_for b r (stamp_at (do_all num (noted b) ns w) (num x)) ≡ flag_of ns x r
    noted_all ns m w room old r = ap (flag_for b r) (stamp_all ns m w room) ∙ flag_by b x old (anew b x ns m (stamp_at w (num x)) old) r

    -- the notes ps are those of the parameters: their stamps come no later than the row after the def's
    params_low : (ps : List Part) (v : ℕ) → v ≤ suc b → stamp_by b x (map (note (suc b)) ps) v ≤ suc b
    params_low [] v d = d
    params_low (p ∷ ps) v d = params_low ps (cond (same x p.bytes) (restamp b (suc b) v) v) (go (same x p.bytes) (ltb b v && leb v (suc b)))
      where
        go : (s t : Bool) → cond s (cond t v (suc b)) v ≤ suc b
        go true true = d
        go true false = omega arith
        go false t = d

    -- notes that have not this name
    stamp_none : (ns : List Note) (v : ℕ) → note_of ns x ≡ false → stamp_by b x ns v ≡ v
    stamp_none [] v e = refl
    stamp_none (n ∷ ns) v e = go (same x n.name.bytes) e (stamp_none ns v)
      where
        go : (t : Bool) → (t || note_of ns x) ≡ false → (note_of ns x ≡ false → stamp_by b x ns v ≡ v) → stamp_by b x ns (cond t (restamp b n.from v) v) ≡ v
        go true p rest = absurd (true≢false p)
        go false p rest = rest p

    stamp_by-two : (ms ns : List Note) (v : ℕ) → stamp_by b x (ms ++ ns) v ≡ stamp_by b x ns (stamp_by b x ms v)
    stamp_by-two [] ns v = refl
    stamp_by-two (m ∷ ms) ns v = stamp_by-two ms ns (cond (same x m.name.bytes) (restamp b m.from v) v)

  -- ---- and forgotten
  forgot_all : (ns : List Note) (w : List ℕ) → 16_384 ≤ length w → stamp_at (do_all num forgot ns w) (num x) ≡ cond (note_of ns x) 0 (stamp_at w (num x))
  forgot_all [] w room = refl
  forgot_all (n ∷ ns) w room =
      forgot_all ns (forgot (num n.name.bytes) n.from w) (omega (arith, (restamped_forgot (num n.name.bytes) n.from w).others.kept.long))
      ∙ go (same x n.name.bytes) refl (note_of ns x)
    where
      u : List ℕ
      u = forgot (num n.name.bytes) n.from w

      go : (t : Bool) → same x n.name.bytes ≡ t → (o : Bool) → cond o 0 (stamp_at u (num x)) ≡ cond (t || o) 0 (stamp_at w (num x))
      go t e true = gone t
        where
          gone : (t : Bool) → ◌≡◌ {A = ℕ} 0 (cond (t || true) 0 (stamp_at w (num x)))
          gone true = refl
          gone false = refl
      go true e false = subst (λ y. stamp_at (forgot (num y) n.from w) (num x) ≡ 0) (same_eq x n.name.bytes e) (stamp_same w (num x) 0 room l (omega arith))
      go false e false = stamp_other w (num n.name.bytes) 0 (num x) (λ q. same_false x n.name.bytes e (apart x n.name.bytes l q))

  -- after both, no stamp comes later than the row after the def's; v is the buffer between, with the same stamps
  pub low_again : (b : ℕ) (ps : List Part) (ns : List Note) → All (Later b) (map (note (suc b)) ps ++ ns) → (w v : List ℕ) → 16_384 ≤ length w → 16_384 ≤ length v → stamp_at w (num x) ≤ b
      → stamp_at v (num x) ≡ stamp_at (do_all num (noted b) (map (note (suc b)) ps ++ ns) w) (num x) → stamp_at (do_all num forgot ns v) (num x) ≤ suc b
  low_again b ps ns m w v room room₂ old e = subst (λ k. k ≤ suc b) (sym (forgot_all ns v room₂)) (go (note_of ns x) refl)
    where
      go : (t : Bool) → note_of ns x ≡ t → cond t 0 (stamp_at v (num x)) ≤ suc b
      go true p = omega arith
      go false p =
          subst (λ k. k ≤ suc b) (sym (e ∙ stamp_all b (map (note (suc b)) ps ++ ns) m w room ∙ stamp_by-two b (map (note (suc b)) ps) ns _ ∙ stamp_none b ns _ p))
          (params_low b ps (stamp_at w (num x)) (omega arith))
