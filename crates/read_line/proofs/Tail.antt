-- The parameters of a line, one name at each turn of a loop (`Passed`): what is left after a name, with one more in the count, is the whole.
-- Each turn goes at least two bytes further, and stays inside the text, so that the count fits and the loop ends.
use Rattle.std.proofs.Common.{◌≡◌, refl, sym, ap, ◌∙◌, Bool, true, false, cond, ◌&&◌, true≢false, [], ◌∷◌, ℕ, suc, ◌+◌, ◌*◌, ◌≤◌, ◌<◌, add-zero, arith, length, Option, Some, None, option_map}
use Rattle.std.proofs.Math.Bool.{and-false}
use Rattle.std.proofs.lemmas.Option.{cond_some}
use Rattle.spec_text.specs.Bytes.{Bytes, Part, all, is_name}
use Rattle.spec_text.specs.Lines.{Cut}
use Rattle.read_fields.specs.FieldsModel.{field_at, end_byte, end_of, past, takes, name_from, hash_of}
use Rattle.read_bytes.specs.BytesModel.{is_end}
use Rattle.read_fields.specs.declared.Cursor.{Cursor}
use Rattle.read_fields.specs.declared.Name.{Name}
use Rattle.read_fields.proofs.Fields.{inside}
use Rattle.read_fields.proofs.Takes.{takes_facts}
use Rattle.read_line.specs.StepsModel.{params_if, all_names}
use Rattle.read_line.specs.declared.Params.{Params}
use Rattle.read_line.proofs.Cut.{to_come, field_of, before, stop, unroll}
use Rattle.read_line.proofs.Due.{is_name_part, names_left}

-- so many more parameters
abbrev pub plus : ℕ → Option Params → Option Params
plus n o = option_map (λ (p : Params). record { count = n + p.count; next = p.next }) o

one_more_lem : (n : ℕ) (f : Part) (l : Cut) → is_name f.bytes ≡ true → plus n (all_names (before f l)) ≡ plus (n + 1) (all_names l)
one_more_lem n f l h = rw h (go (l.ended && all is_name_part l.fields))
  where
    ended : Bool → ℕ → Option Params
    ended t k = cond t (Some (record { count = k; next = record { at = l.next; more = false } })) None

    go : (t : Bool) → plus n (ended t (suc (length l.fields))) ≡ plus (n + 1) (ended t (length l.fields))
    go true = ap (ended true) (omega arith)
    go false = refl

-- one field more, which is a name, or is none
module _ (text : Bytes) (at : ℕ) where
  name_more : (n : ℕ) → takes is_name text (record { at = at; more = true }) ≡ true
      → plus n (params_if true text (record { at = at; more = true })) ≡ plus (n + 1) (params_if true text (past text at))
  unfolding params_if
  name_more n h =
      let f = takes_facts is_name text (record { at = at; more = true }) h in
      rw (unroll text at, f.ended) (one_more_lem n (field_of text at) (to_come text (past text at)) f.right ∙ ap (plus (n + 1)) (sym (names_left text (past text at))))

  no_name_more : takes is_name text (record { at = at; more = true }) ≡ false → params_if true text (record { at = at; more = true }) ≡ None
  unfolding params_if
  no_name_more h = rw (unroll text at) (go (is_end (end_byte text at)) (is_name (field_at text at)) refl h)
    where
      go : (e r : Bool) → is_name (field_at text at) ≡ r → (r && e) ≡ false
          → all_names (cond e (before (field_of text at) (to_come text (past text at))) (stop (field_of text at))) ≡ None
      go false r q h = refl
      go true false q h = rw (q, and-false)
      go true true q h = absurd (true≢false h)

-- ---- the loop: from c, n names were passed up to d
pub record Passed (due : Bool) (text : Bytes) (c d : Cursor) (n : ℕ) : Type 0 where
  pub whole : params_if due text c ≡ plus n (params_if due text d)
  pub fits : 2 * n ≤ d.at

module _ (text : Bytes) (d : Cursor) (more : d.more ≡ true) where
  taken : (x : Name) → name_from text d ≡ Some x → (takes is_name text d ≡ true) × (past text d.at ≡ x.next)
  taken x e = let k = cond_some _ _ _ e in (k.0, ap (λ (y : Name). y.next) k.1)

  -- a name that is taken is two bytes or more with its end, inside the text
  further : (x : Name) → name_from text d ≡ Some x → (d.at + 2 ≤ x.next.at) × (x.next.at ≤ length text)
  further x e =
      let k = taken x e in
      let f = takes_facts is_name text d k.0 in
      let l = some (field_at text d.at) f.right in
      let r = inside is_end refl text (end_of text d.at) f.ended in
      let a = ap (λ (y : Cursor). y.at) k.1 in
      (omega arith, omega arith)
    where
      some : (x : Bytes) → is_name x ≡ true → 0 < length x
      some [] e = absurd (true≢false (sym e))
      some (b ∷ x) e = omega arith

  pub turn : {due : Bool} {c : Cursor} {n : ℕ} (x : Name) → due ≡ true → name_from text d ≡ Some x → Passed due text c d n → Passed due text c x.next (n + 1)
  turn {due} {c} {n} x o e p =
      let k = taken x e in
      let h = further x e in
      let b : d ≡ record { at = d.at; more = true } = ap (λ (m : Bool). record { at = d.at; more = m }) more in
      let q : takes is_name text (record { at = d.at; more = true }) ≡ true = ap (takes is_name text) (sym b) ∙ k.0 in
      record {
        whole = p.whole ∙ rw o (ap (λ (y : Cursor). plus n (params_if true text y)) b ∙ (name_more text d.at n q ∙ ap (λ (y : Cursor). plus (n + 1) (params_if true text y)) k.1));
        fits = omega (arith, p.fits);
      }

  pub none_here : {due : Bool} {c : Cursor} {n : ℕ} → due ≡ true → name_from text d ≡ None → Passed due text c d n → None ≡ params_if due text c
  none_here {due} {c} {n} o e p =
      let b : d ≡ record { at = d.at; more = true } = ap (λ (m : Bool). record { at = d.at; more = m }) more in
      sym (p.whole ∙ rw o (ap (λ (y : Cursor). plus n (params_if true text y)) b ∙ ap (plus n) (no_name_more text d.at (go (takes is_name text (record { at = d.at; more = true })) (ap (name_from text) (sym b) ∙ e)))))
    where
      go : (t : Bool) → cond {A = Option Name} t (Some (record { part = record { offset = d.at; len = length (field_at text d.at) }; hash = hash_of (field_at text d.at); next = past text d.at })) None ≡ None → t ≡ false
      go true e = absurd cc
      go false e = refl

pub out : {due : Bool} {text : Bytes} {c d : Cursor} {n : ℕ} → Passed due text c d n → (due && d.more) ≡ false
    → Some (record { count = n; next = d }) ≡ params_if due text c
unfolding params_if
out {due} {text} {c} {d} {n} p k = sym (p.whole ∙ rw k (rw add-zero))
