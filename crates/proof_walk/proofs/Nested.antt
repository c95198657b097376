-- A block in a block: what holds around it before it holds after it, where the walk comes back. Marks that it raised end with it, and it
-- writes flags in its own rows alone.
use Rattle.std.proofs.Common.{ℕ, suc, ◌+◌, ◌/◌, ◌≤◌, ◌<◌, max, arith, ◌≡◌, sym, ap, ap₂, ◌∙◌, subst, refl, Bool, true, false, cond, ◌||◌, true≢false, List, [], ◌∷◌, ◌++◌, eqb, length}
use Rattle.spec_text.specs.Bytes.{Bytes, Part, mem}
use Rattle.spec_text.specs.Tree.{Line, Stmts}
use Rattle.spec_faults.specs.Position.{in_def}
use Rattle.spec_faults.specs.Faults.{Fault}
use Rattle.spec_faults.proofs.Lists.{mem_append}
use Rattle.spec_faults.proofs.ListingWalk.{Env}
use Rattle.spec_faults.proofs.Deduped.{seen_after, seen_append}
use Rattle.work_rows.specs.Rows.{Row, row}
use Rattle.work_marks.specs.MarksModel.{lambda_end, block_end, slot_at, stamp_at, flag_at, link_at}
use Rattle.work_marks.proofs.Writes.{Words, Kept, kept_trans}
use Rattle.walk_scopes.specs.declared.Home.{Home}
use Rattle.walk_scopes.specs.declared.Home.TheVariants.{Def, Method}
use Rattle.walk_scopes.specs.declared.ScopeStack.{ScopeStack}
use Rattle.walk_scopes.specs.ScopesModel.{Scope, home_number as number_of, scope_at, top_of}
use Rattle.walk_scopes.proofs.Tops.{scope_block, below_block}
use Rattle.walk_tree.specs.WalkModel.{walk, popped}
use Rattle.proof_walk.specs.Table.{Table, Here}
use Rattle.proof_walk.specs.Notes.{Note, OwnNames, note_of}
use Rattle.proof_walk.proofs.State.{home_number, Open, Raised, blamed, At}
use Rattle.proof_walk.proofs.PartRows.{table_kept, row_few, row_kind, row_after}
use Rattle.proof_walk.proofs.Opened.{Bound, OpenedDef}
use Rattle.proof_walk.proofs.Exprs.{Flat}
use Rattle.proof_walk.proofs.Done.{raised_then, raised_far, open_raised, slots_then, Done}

-- the way into the block of row b: the parameters are bound up to its end, and flags of its rows may be written
pub record Entry (num : Bytes → ℕ) (b end : ℕ) (ps : List Part) (w v : List ℕ) : Type 0 where
  pub kept : Kept w v
  pub words : Words v
  pub slots : (i : ℕ) → i < 4_096 → slot_at v i ≡ slot_at w i
  pub lambdas : (x : Bytes) → num x < 4_096 → lambda_end v (num x) ≡ lambda_end w (num x)
  pub blocks : (x : Bytes) → num x < 4_096 → Raised end (block_end w (num x)) (block_end v (num x))
  pub bound : (x : Bytes) → num x < 4_096 → mem x ps ≡ true → end ≤ block_end v (num x)
  pub other : (x : Bytes) → num x < 4_096 → mem x ps ≡ false → block_end v (num x) ≡ block_end w (num x)
  pub low : (x : Bytes) → num x < 4_096 → stamp_at v (num x) ≤ suc b
  pub flags : (i : ℕ) → end ≤ i → flag_at v i ≡ flag_at w i
  pub early : (i : ℕ) → i ≤ b → flag_at v i ≡ flag_at w i

entry_by : {num : Bytes → ℕ} {b end : ℕ} {ps : List Part} (w v : List ℕ) → Kept w v → Words v → ((i : ℕ) → i < 4_096 → slot_at v i ≡ slot_at w i) → ((a : ℕ) → a < 4_096 → lambda_end v a ≡ lambda_end w a)
    → ((a : ℕ) → a < 4_096 → Raised end (block_end w a) (block_end v a))
    → ((x : Bytes) → num x < 4_096 → block_end v (num x) ≡ cond (mem x ps) (max (block_end w (num x)) end) (block_end w (num x)))
    → ((x : Bytes) → num x < 4_096 → stamp_at v (num x) ≤ suc b) → ((i : ℕ) → end ≤ i → flag_at v i ≡ flag_at w i)
    → ((i : ℕ) → i ≤ b → flag_at v i ≡ flag_at w i) → Entry num b end ps w v
entry_by {num} {b} {end} {ps} w v kept words slots lambdas raised block low flags early = record {
  kept = kept;
  words = words;
  slots = slots;
  lambdas = λ x. lambdas (num x);
  blocks = λ x. raised (num x);
  bound = λ x l m. let e : block_end v (num x) ≡ max (block_end w (num x)) end = block x l ∙ ap (λ t. cond t (max (block_end w (num x)) end) (block_end w (num x))) m in omega arith;
  other = λ x l m. block x l ∙ ap (λ t. cond t (max (block_end w (num x)) end) (block_end w (num x))) m;
  low = low;
  flags = flags;
  early = early;
}

pub entry_def : {rows : List Row} {num : Bytes → ℕ} {b end : ℕ} {ps : List Part} {ns : List Note} {body : Stmts} {w v : List ℕ} → Words w → OpenedDef rows num end b ps ns body w v → Entry num b end ps w v
entry_def {w = w} {v = v} g o = entry_by w v o.kept (o.words g) (o.slot g) o.lambda o.raised o.block o.low (o.flags g) (o.early g)

pub entry_method : {num : Bytes → ℕ} {b end : ℕ} {ps : List Part} {w v : List ℕ} → Words w → ((x : Bytes) → num x < 4_096 → stamp_at w (num x) ≤ suc b) → Bound num end ps w v → Entry num b end ps w v
entry_method {num} {w = w} {v = v} g low o =
    entry_by w v o.kept (o.words g) (λ i _. o.slot g i) o.lambda o.raised o.block (λ x l. omega (arith, o.fourth (num x), low x l)) (λ i _. ap (λ x. x / 8_192) (o.fourth i)) (λ i _. ap (λ x. x / 8_192) (o.fourth i))

-- ---- the block around a statement
-- its scope follows from its row, in every buffer that holds the rows
pub record Block (text : Bytes) (rows : List Row) (num : Bytes → ℕ) (own : OwnNames) (t : ScopeStack) (v : Env) : Type 0 where
  pub flat : Flat (top_of t) v
  pub room : t.end ≤ length rows
  pub few : t.row < 524_288
  pub known : {z : List ℕ} → Table text rows num z → scope_at z t.row ≡ t

-- the scope of the def or the method at a row
abbrev pub block_of : Home → ℕ → ℕ → ScopeStack
block_of home r stop = record { home = home; row = r; end = stop }

-- of line l, with n lines below it
module _ {text : Bytes} {rows : List Row} {num : Bytes → ℕ} {z : List ℕ} {r n : ℕ} {l : Line} {part : List Row} (t : Table text rows num z) (h : Here rows r (row l n ∷ part)) where
  known_by : (home : Home) → cond (eqb l.word 5) Def Method ≡ home → scope_at z r ≡ block_of home r (r + suc n)
  known_by home e =
      scope_block z r (row_few t h) ∙ ap₂ (λ a b. block_of a r b) (ap (λ k. cond (eqb k 5) Def Method) (row_kind t h) ∙ e) (row_after t h)

  pub known_def : l.word ≡ 5 → scope_at z r ≡ block_of Def r (r + suc n)
  known_def e = known_by Def (ap (λ k. cond (eqb k 5) Def Method) e)

  pub known_method : l.word ≡ 14 → scope_at z r ≡ block_of Method r (r + suc n)
  known_method e = known_by Method (ap (λ k. cond (eqb k 5) Def Method) e)

-- a pop at the end of the block brings the scope around it back
pub popped_back : {text : Bytes} {rows : List Row} {num : Bytes → ℕ} {own : OwnNames} {t : ScopeStack} {v : Env} {z : List ℕ} (home : Home) {r : ℕ} (stop : ℕ) → Block text rows num own t v → Table text rows num z → r < 4_096 → link_at z r ≡ t.row
    → popped (walk (block_of home r stop) z) ≡ walk t z
popped_back {z = z} home {r} stop b table few link = ap (λ u. walk u z) (below_block z (block_of home r stop) few ∙ ap (scope_at z) link ∙ b.known table)

module _ {text : Bytes} {rows : List Row} {num : Bytes → ℕ} {own : OwnNames} {t : ScopeStack} {v : Env} (b : Block text rows num own t v) where
  -- ---- the way into a block in it: at row r the walk bound or noted something, and then went in; hm is the block's home
  pub enter : {vs : List Part} {seen fs : List Fault} {w w₁ w₂ : List ℕ} {r stop : ℕ} {ps : List Part} (own' : OwnNames) (v' : Env) (hm : Home)
      → Done text rows num own (top_of t) v vs seen fs w w₁ r (suc r) → Entry num r stop ps w₁ w₂ → stop ≤ t.end → number_of hm ≡ home_number v'.home → v'.params ≡ []
      → (v'.home ≡ in_def → (i : ℕ) → flag_at w₂ i ≡ own'.flags i) → (v'.home ≡ in_def → (x : Bytes) → mem x v'.locals ≡ note_of own'.notes x)
      → ((v'.home ≡ in_def → ⊥) → (x : Bytes) → mem x v'.locals ≡ false)
      → At text rows num own' (top_of (block_of hm r stop)) [] v' (ps ++ vs) (seen_after seen fs) w₂ (suc r)
  enter {vs} {seen} {fs} {w} {w₁} {w₂} {r} {stop} {ps} own' v' hm p q inner home params flags locals others = record {
    table = table_kept q.kept p.after.table;
    words = q.words;
    home = home;
    view = λ x l. subst (Open stop (suc r) (block_end w₂ (num x))) (sym (mem_append x ps vs)) (view x l (mem x ps) refl);
    params = λ x l. record {
      far = λ _. omega arith;
      closed = λ e. omega (arith, q.lambdas x l, (p.after.params x l).closed (ap (λ ps. mem x ps || blamed 0 (seen_after seen fs) x) (b.flat.params ∙ sym params) ∙ e));
    };
    flags = λ d i _ _. flags d i;
    locals = locals;
    others = others;
    low = q.low;
    clean = λ i l k. q.slots i (omega (arith, p.after.table.few)) ∙ p.after.clean i l k;
    places = p.after.places;
  }
    where
      view : (x : Bytes) → num x < 4_096 → (t : Bool) → mem x ps ≡ t → Open stop (suc r) (block_end w₂ (num x)) (t || mem x vs)
      view x l true m = record { far = λ _. q.bound x l m; closed = λ e. absurd (true≢false e) }
      view x l false m =
          let o = p.after.view x l in
          let e = q.other x l m in
          record { far = λ t. omega (arith, o.far t); closed = λ t. omega (arith, o.closed t) }

  -- ---- a block in it, from row r up to the row stop: the walk bound or noted something at its row, went in, and walked its body
  pub nested : {us vs zs : List Part} {seen fs gs : List Fault} {w w₁ w₂ w₃ : List ℕ} {r stop : ℕ} {ps : List Part} {own' : OwnNames} {s' : Scope} {v' : Env}
      → At text rows num own (top_of t) [] v us seen w r → Done text rows num own (top_of t) v vs seen fs w w₁ r (suc r) → Entry num r stop ps w₁ w₂
      → s'.end ≡ stop → Flat s' v' → Done text rows num own' s' v' zs (seen_after seen fs) gs w₂ w₃ (suc r) stop → stop ≤ t.end
      → Done text rows num own (top_of t) v vs seen (fs ++ gs) w w₃ r stop
  nested {us} {vs} {zs} {seen} {fs} {gs} {w} {w₁} {w₂} {w₃} {r} {stop} {ps} {own'} {s'} {v'} h p q end flat d inner =
      record {
        far = omega (arith, d.far);
        after = subst (λ l. At text rows num own (top_of t) [] v vs l w₃ stop) (sym (seen_append seen fs gs)) at;
        slots = slots_then w₁ w₃ seen fs gs p.far d.far before p.slots d.slots;
        change = record {
          kept = kept_trans p.change.kept kept;
          before = λ i l. before i (omega arith) ∙ p.change.before i l;
          blocks = λ x l. raised_then (p.change.blocks x l) (raised_far inner (raised x l));
        };
        beyond = λ i l k. flags i l k ∙ p.beyond i (omega (arith, d.far)) k;
        early = λ i l. d.early i (omega arith) ∙ q.early i (omega arith) ∙ p.early i l;
      }
    where
      few : length rows ≤ 4_096
      few = h.table.few

      kept : Kept w₁ w₃
      kept = kept_trans q.kept d.change.kept

      before : (i : ℕ) → i < suc r → slot_at w₃ i ≡ slot_at w₁ i
      before i l = d.change.before i l ∙ q.slots i (omega (arith, d.far, b.room, few))

      flags : (i : ℕ) → stop ≤ i → i < 4_096 → flag_at w₃ i ≡ flag_at w₁ i
      flags i l k = d.beyond i l k ∙ q.flags i l

      raised : (x : Bytes) → num x < 4_096 → Raised stop (block_end w₁ (num x)) (block_end w₃ (num x))
      raised x l = raised_then (q.blocks x l) (subst (λ e. Raised e (block_end w₂ (num x)) (block_end w₃ (num x))) end (d.change.blocks x l))

      at : At text rows num own (top_of t) [] v vs (seen_after (seen_after seen fs) gs) w₃ stop
      at = record {
        table = table_kept kept p.after.table;
        words = d.after.words;
        home = h.home;
        view = λ x l. open_raised (p.after.view x l) d.far (raised x l);
        params = λ x l. record {
          far = λ _. omega (arith, b.flat.inner);
          closed = λ e. (d.after.params x l).closed (ap (λ ps. mem x ps || blamed 0 (seen_after (seen_after seen fs) gs) x) (flat.params ∙ sym b.flat.params) ∙ e);
        };
        flags = λ i j l k. flags j l (omega (arith, few)) ∙ p.after.flags i j (omega (arith, d.far)) k;
        locals = h.locals;
        others = h.others;
        low = d.after.low;
        clean = d.after.clean;
        places = d.after.places;
      }
