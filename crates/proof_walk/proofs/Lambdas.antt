-- The way into a lambda and out of it: its parameters are marked up to its end, and the rows of its body, which it ends with, are a step of the
-- rows around. Where it is the outermost one, no name is blamed at its line before it, and all that its rows marked is closed after it.
use Rattle.std.proofs.Common.{ℕ, suc, ◌+◌, ◌/◌, ◌≤◌, ◌<◌, max, arith, ◌≡◌, refl, sym, ap, ap₂, ◌∙◌, subst, Bool, true, false, cond, ◌&&◌, ◌||◌, true≢false, List, [], ◌∷◌, eqb, get_or, eq-eqb, ne_eqb}
use Rattle.std.proofs.Math.Bool.{and-false, or_assoc}
use Rattle.std.proofs.lemmas.Bool.{false≢true}
use Rattle.spec_text.specs.Bytes.{Bytes, Part, mem, same}
use Rattle.spec_text.specs.Tree.{Line}
use Rattle.spec_text.proofs.Lists.{same_eq, same_false}
use Rattle.spec_faults.specs.Position.{Placed}
use Rattle.spec_faults.specs.Faults.{Fault}
use Rattle.spec_faults.proofs.Lists.{mem_append}
use Rattle.spec_faults.proofs.ListingWalk.{State, Env, with_params}
use Rattle.spec_faults.proofs.Deduped.{seen_after}
use Rattle.read_names.specs.ChainsModel.{lookup}
use Rattle.work_rows.specs.Rows.{Row}
use Rattle.work_marks.specs.MarksModel.{stamp_base, lambda_end, block_end, slot_at, raised_block, raised_lambda}
use Rattle.work_marks.proofs.Writes.{Words, Kept, kept_refl, kept_trans, raised_lambda_same, raised_lambda_other, raised_lambda_block, raised_lambda_slot, raised_lambda_fourth, kept_raised_lambda, words_raised_lambda}
use Rattle.walk_scopes.specs.ScopesModel.{Scope, a_def, in_lambda, owns, defined}
use Rattle.walk_own_names.specs.OwnNamesModel.{noted, flagged}
use Rattle.read_row.specs.RowModel.{params_of}
use Rattle.read_row.specs.Worded.{Some, Somes}
use Rattle.walk_blocks.specs.BlocksModel.{entered_one, entered, opened}
use Rattle.proof_walk.specs.Table.{Table}
use Rattle.proof_walk.specs.Notes.{OwnNames}
use Rattle.proof_walk.proofs.State.{Open, Raised, blamed, place_of, Places}
use Rattle.proof_walk.proofs.PartRows.{table_kept}
use Rattle.proof_walk.proofs.InExprs.{places_on, none_blamed, later_blamed, Stands, Step, open_on, step_below}
use Rattle.proof_walk.proofs.OneRead.{Under, flat, under, Around, read_at}

-- ---- the parameters
-- names were marked up to the row end
pub record Bound (num : Bytes → ℕ) (end : ℕ) (ps : List Part) (w z : List ℕ) : Type 0 where
  pub kept : Kept w z
  pub words : Words w → Words z
  pub slots : (i : ℕ) → slot_at z i ≡ slot_at w i
  pub blocks : (a : ℕ) → block_end z a ≡ block_end w a
  pub fourths : (a : ℕ) → get_or z (stamp_base + a) 0 ≡ get_or w (stamp_base + a) 0
  pub marked : (x : Bytes) → num x < 4_096 → mem x ps ≡ true → lambda_end z (num x) ≡ max (lambda_end w (num x)) end
  pub others : (x : Bytes) → num x < 4_096 → mem x ps ≡ false → lambda_end z (num x) ≡ lambda_end w (num x)

module _ (text : Bytes) (s : Scope) (i : ℕ) (deep : 0 < s.inner) where
  owns_none : owns s ≡ false
  owns_none = ap (λ t. eqb s.home a_def && t) (ne_eqb s.inner 0 (λ e. omega arith)) ∙ and-false (eqb s.home a_def)

  entered_one_lem : (x : Bytes) (w : List ℕ) → entered_one text s i x w ≡ raised_lambda w (lookup text w x) s.inner
  unfolding entered_one defined
  entered_one_lem x w =
      ap (λ t. cond t (noted i (lookup text w x) (i + 1) (defined s w (lookup text w x))) (defined s w (lookup text w x))) owns_none
      ∙ ap (λ t. cond t (raised_block w (lookup text w x) s.end) (raised_lambda w (lookup text w x) s.inner)) (ne_eqb s.inner 0 (λ e. omega arith))

  -- one parameter, and then the others
  bound_one : {num : Bytes → ℕ} {rows : List Row} (few : s.inner < 8_192) (p : Part) (ps : List Part) (w z : List ℕ) → Table text rows num w → Some p
      → Bound num s.inner ps (raised_lambda w (num p.bytes) s.inner) z → Bound num s.inner (p ∷ ps) w z
  bound_one {num} few p ps w z t so b = record {
    kept = kept_trans (kept_raised_lambda w _ _) b.kept;
    words = λ h. b.words (words_raised_lambda w _ _ h);
    slots = λ i. b.slots i ∙ raised_lambda_slot w _ _ i;
    blocks = λ a. b.blocks a ∙ raised_lambda_block w _ _ a;
    fourths = λ a. b.fourths a ∙ raised_lambda_fourth w _ _ a;
    marked = λ x l m. there x l (same x p.bytes) (mem x ps) refl refl m;
    others = λ x l m. none x l (same x p.bytes) (mem x ps) refl refl m;
  }
    where
      first : (x : Bytes) → num x < 4_096 → same x p.bytes ≡ true → lambda_end (raised_lambda w (num p.bytes) s.inner) (num x) ≡ max (lambda_end w (num x)) s.inner
      first x l e =
          let d : x ≡ p.bytes = same_eq x p.bytes e in
          ap (λ y. lambda_end (raised_lambda w (num y) s.inner) (num x)) (sym d) ∙ raised_lambda_same w (num x) s.inner t.room l few

      other : (x : Bytes) → num x < 4_096 → same x p.bytes ≡ false → lambda_end (raised_lambda w (num p.bytes) s.inner) (num x) ≡ lambda_end w (num x)
      other x l e = raised_lambda_other w (num p.bytes) s.inner (num x) (λ d. same_false x p.bytes e (t.apart x p.bytes l d))

      there : (x : Bytes) → num x < 4_096 → (a m : Bool) → same x p.bytes ≡ a → mem x ps ≡ m → (same x p.bytes || mem x ps) ≡ true
          → lambda_end z (num x) ≡ max (lambda_end w (num x)) s.inner
      there x l true true e d h = b.marked x l d ∙ omega (arith, first x l e)
      there x l true false e d h = b.others x l d ∙ first x l e
      there x l false true e d h = b.marked x l d ∙ ap (λ m. max m s.inner) (other x l e)
      there x l false false e d h = absurd (false≢true (sym (ap₂ ◌||◌ e d) ∙ h))

      none : (x : Bytes) → num x < 4_096 → (a m : Bool) → same x p.bytes ≡ a → mem x ps ≡ m → (same x p.bytes || mem x ps) ≡ false
          → lambda_end z (num x) ≡ lambda_end w (num x)
      none x l true m e d h = absurd (true≢false (sym (ap₂ ◌||◌ e d) ∙ h))
      none x l false true e d h = absurd (true≢false (sym (ap₂ ◌||◌ e d) ∙ h))
      none x l false false e d h = b.others x l d ∙ other x l e

  bound_all : {num : Bytes → ℕ} {rows : List Row} (few : s.inner < 8_192) (ps : List Part) (w : List ℕ) → Table text rows num w → Somes ps
      → Bound num s.inner ps w (entered text s i ps w)
  unfolding entered
  bound_all few [] w t so = record {
    kept = kept_refl w;
    words = λ h. h;
    slots = λ i. refl;
    blocks = λ a. refl;
    fourths = λ a. refl;
    marked = λ x l m. absurd (false≢true m);
    others = λ x l m. refl;
  }
  bound_all {num} few (p ∷ ps) w t so =
      let e : entered_one text s i p.bytes w ≡ raised_lambda w (num p.bytes) s.inner =
      entered_one_lem p.bytes w ∙ ap (λ a. raised_lambda w a s.inner) (t.found p.bytes so.0) in
      subst (λ y. Bound num s.inner (p ∷ ps) w (entered text s i ps y)) (sym e)
      (bound_one few p ps w (entered text s i ps (raised_lambda w (num p.bytes) s.inner)) t so.0
      (bound_all few ps (raised_lambda w (num p.bytes) s.inner) (table_kept (kept_raised_lambda w _ _) t) so.1))

  pub bound_opened : {num : Bytes → ℕ} {rows : List Row} (few : s.inner < 8_192) (stop : ℕ) (ps : List Part) (w : List ℕ) → Table text rows num w → Somes ps
      → params_of text w i ≡ ps → Bound num s.inner ps w (opened text s i stop w)
  unfolding opened
  bound_opened {num} few stop ps w t so e =
      let y : List ℕ = entered text s i (params_of text w i) w in
      subst (Bound num s.inner ps w) (sym (ap (λ b. cond b (flagged i (i + 1) stop y) y) owns_none ∙ ap (λ ps. entered text s i ps w) e))
      (bound_all few ps w t so)

-- ---- the stack under a lambda that ends at the row end
outer_flat : (s : Scope) (end : ℕ) → s.outer ≡ 0 → (in_lambda s end).outer ≡ end
outer_flat s end e = ap (λ t. cond t end s.outer) (eq-eqb s.outer 0 e)

outer_under : (s : Scope) (end : ℕ) → 0 < s.outer → (in_lambda s end).outer ≡ s.outer
outer_under s end l = ap (λ t. cond t end s.outer) (ne_eqb s.outer 0 (λ e. omega arith))

module _ {s : Scope} {v : Env} {r end : ℕ} (l : Line) where
  under_in : {ls : List Placed} {stop : ℕ} → r < end → stop ≤ end → end ≤ 4_096 → Under s v r end ls → Under (in_lambda s end) (with_params l.params v) (suc r) stop (read_at r l ∷ ls)
  under_in on stops few (flat f) =
      let e = outer_flat s end f.outer in
      under {q = read_at r l} {qs = []} (record { some = omega arith; inside = omega arith; wide = omega arith; few = omega arith; lined = omega arith; early = omega arith })
  under_in on stops few (under {q} {qs} b) =
      let e = outer_under s end b.some in
      under {q = read_at r l} {qs = q ∷ qs} (record {
        some = omega (arith, b.some);
        inside = omega arith;
        wide = omega (arith, b.inside, b.wide);
        few = omega (arith, b.few);
        lined = b.lined;
        early = let i = b.early in omega arith;
      })

  -- who is blamed at the outermost lambda's line: before it the same, as no one is blamed at a later line
  blamed_in : {ls : List Placed} → Under s v r end ls → (seen : List Fault) → Places r seen → (x : Bytes)
      → blamed (place_of (read_at r l ∷ ls)) seen x ≡ blamed (place_of ls) seen x
  blamed_in (flat f) seen p x = later_blamed x r seen p ∙ sym (none_blamed x r seen p)
  blamed_in (under b) seen p x = refl

  -- after it, who is blamed around it is blamed in it
  blamed_out : {ls : List Placed} → Under s v r end ls → (i : ℕ) (seen : List Fault) → Places i seen → (x : Bytes)
      → blamed (place_of ls) seen x ≡ true → blamed (place_of (read_at r l ∷ ls)) seen x ≡ true
  blamed_out (flat f) i seen p x b = absurd (false≢true (sym (none_blamed x i seen p) ∙ b))
  blamed_out (under d) i seen p x b = b

  -- the mark of a name that no one around it is blamed for
  mark_out : {ls : List Placed} → Under s v r end ls → (seen : List Fault) (x : Bytes) (old new : ℕ) → blamed (place_of ls) seen x ≡ false
      → (blamed (place_of (read_at r l ∷ ls)) seen x ≡ false → new ≤ max old end) → new ≤ max old (max (in_lambda s end).outer end) → new ≤ max old end
  mark_out (flat f) seen x old new b near most = let e = outer_flat s end f.outer in omega arith
  mark_out (under d) seen x old new b near most = omega (arith, near b)

  -- the outermost end grows from nothing to this one's end
  outer_most : {ls : List Placed} → Under s v r end ls → (in_lambda s end).outer ≤ max s.outer end
  outer_most (flat f) = let e = outer_flat s end f.outer in omega arith
  outer_most (under d) = let e = outer_under s end d.some in omega arith

  outer_least : {ls : List Placed} → Under s v r end ls → s.outer ≤ (in_lambda s end).outer
  outer_least (flat f) = let e = f.outer in omega arith
  outer_least (under d) = let e = outer_under s end d.some in omega arith

  -- a name that is open around it is so up to its end
  open_in : {ls : List Placed} → Under s v r end ls → (seen : List Fault) → Places r seen → (x : Bytes)
      → (mem x v.params || blamed (place_of ls) seen x) ≡ true → end ≤ s.inner
  open_in (flat f) seen p x b = absurd (false≢true (sym (ap₂ ◌||◌ (ap (mem x) f.params) (none_blamed x r seen p)) ∙ b))
  open_in (under d) seen p x b = d.inside

  far_in : {ls : List Placed} → Under s v r end ls → (seen : List Fault) → Places r seen → (x : Bytes)
      → blamed (place_of ls) seen x ≡ true → (in_lambda s end).outer ≤ s.outer
  far_in (flat f) seen p x b = absurd (false≢true (sym (none_blamed x r seen p) ∙ b))
  far_in (under d) seen p x b = let e = outer_under s end d.some in omega arith

-- ---- the rows of a lambda
module _ {text : Bytes} {rows : List Row} {num : Bytes → ℕ} {own : OwnNames} {s : Scope} {ls : List Placed} {v : Env} {st : State} {seen : List Fault} {w y : List ℕ} {r : ℕ} (n : ℕ) (l : Line) (p : Stands text rows num own s ls v st seen w r) (c : Around rows own s ls v st r (r + suc n)) (b : Bound num (r + suc n) l.params w y) where
  pub around_in : Around rows own (in_lambda s (r + suc n)) (read_at r l ∷ ls) (with_params l.params v) st (suc r) (suc r + n)
  around_in = record {
    lambdas = under_in l (omega arith) (omega arith) (omega (arith, c.inside, c.ends, p.at.table.few)) c.lambdas;
    inside = omega (arith, c.inside);
    ends = c.ends;
    still = λ d x i j k. c.still d x i (omega arith) (omega arith);
    told = λ d i j k. c.told d i (omega arith) (omega arith);
  }

  raised_in : (x : Bytes) → num x < 4_096 → Raised (r + suc n) (lambda_end w (num x)) (lambda_end y (num x))
  raised_in x j = go (mem x l.params) refl
    where
      go : (a : Bool) → mem x l.params ≡ a → Raised (r + suc n) (lambda_end w (num x)) (lambda_end y (num x))
      go true e = let m = b.marked x j e in record { up = omega arith; most = omega arith }
      go false e = let m = b.others x j e in record { up = omega arith; most = omega arith }

  pub stands_in : Stands text rows num own (in_lambda s (r + suc n)) (read_at r l ∷ ls) (with_params l.params v) st seen y (suc r)
  stands_in = record {
    at = record {
      table = table_kept b.kept p.at.table;
      words = b.words p.at.words;
      home = p.at.home;
      view = λ x j. subst (λ m. Open s.end (suc r) m (mem x st.view)) (sym (b.blocks (num x))) (open_on (omega arith) (p.at.view x j));
      params = λ x j.
          subst (Open (r + suc n) (suc r) (lambda_end y (num x)))
          (sym (ap₂ ◌||◌ (mem_append x l.params v.params) (blamed_in l c.lambdas seen p.at.places x) ∙ or_assoc (mem x l.params) (mem x v.params) (blamed (place_of ls) seen x)))
          (marks x j (mem x l.params) (mem x v.params || blamed (place_of ls) seen x) refl refl);
      flags = λ d i j k. ap (λ x. x / 8_192) (b.fourths i) ∙ p.at.flags d i (omega arith) k;
      locals = p.at.locals;
      others = p.at.others;
      low = λ x j. omega (arith, b.fourths (num x), p.at.low x j);
      clean = λ i j k. b.slots i ∙ p.at.clean i (omega arith) k;
      places = places_on (omega arith) seen p.at.places;
    };
    captured = λ x h. p.captured x (sym (blamed_in l c.lambdas seen p.at.places x) ∙ h);
    far = λ x j h.
        let g = sym (blamed_in l c.lambdas seen p.at.places x) ∙ h in
        omega (arith, far_in l c.lambdas seen p.at.places x g, p.far x j g, (raised_in x j).up);
  }
    where
      marks : (x : Bytes) → num x < 4_096 → (a o : Bool) → mem x l.params ≡ a → (mem x v.params || blamed (place_of ls) seen x) ≡ o → Open (r + suc n) (suc r) (lambda_end y (num x)) (a || o)
      marks x j true o e d = record { far = λ _. omega (arith, b.marked x j e); closed = λ h. absurd (true≢false h) }
      marks x j false true e d = record {
        far = λ _. omega (arith, b.others x j e, (p.at.params x j).far d, open_in l c.lambdas seen p.at.places x d);
        closed = λ h. absurd (true≢false h);
      }
      marks x j false false e d = record {
        far = λ h. absurd (false≢true h);
        closed = λ _. omega (arith, b.others x j e, (p.at.params x j).closed d);
      }

  pub step_out : {z : List ℕ} {fs : List Fault} → Step num (in_lambda s (r + suc n)) (read_at r l ∷ ls) (with_params l.params v) st seen (suc r) n y z fs
      → Step num s ls v st seen r (suc n) w z fs
  step_out {z} {fs} q =
      step_below (p.at.clean r (omega arith) (omega (arith, c.inside, c.ends)))
      (record {
        kept = kept_trans b.kept q.kept;
        words = q.words;
        slots = q.slots;
        before = λ i j. q.before i j ∙ b.slots i;
        beyond = λ i j. q.beyond i j ∙ b.slots i;
        blocks = λ a. q.blocks a ∙ b.blocks a;
        fourths = λ a. q.fourths a ∙ b.fourths a;
        up = λ x j. omega (arith, q.up x j, (raised_in x j).up);
        near = λ x j h.
            let m = mark_out l c.lambdas (seen_after seen fs) x (lambda_end y (num x)) (lambda_end z (num x)) h (λ g. omega (arith, q.near x j g)) (omega (arith, q.most x j)) in
            omega (arith, (raised_in x j).most);
        most = λ x j. omega (arith, q.most x j, (raised_in x j).most, outer_most l c.lambdas);
        far = λ x j h. omega (arith, q.far x j (blamed_out l c.lambdas (suc r + n) (seen_after seen fs) q.places x h), outer_least l c.lambdas);
        captured = λ x h. q.captured x (blamed_out l c.lambdas (suc r + n) (seen_after seen fs) q.places x h);
        places = q.places;
      })
