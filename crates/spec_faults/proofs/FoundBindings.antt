-- Each test of a read is a binding that stands there: bound in some blocks, assigned, own.
-- What is assigned, or bound in the block of a lambda between, is in view.
use Rattle.std.proofs.Common.{ℕ, ◌≡◌, refl, sym, ap, ap₂, ◌∙◌, subst, Bool, true, false, ◌&&◌, ◌||◌, List, [], ◌∷◌, eqb, eqb-true, eq-eqb, leb-true, le-leb}
use Rattle.std.proofs.Math.Bool.{or-true}
use Rattle.std.proofs.lemmas.Bool.{false≢true}
use Rattle.spec_text.specs.Bytes.{Bytes, same, In, here, there}
use Rattle.spec_text.specs.Tree.{Tree}
use Rattle.spec_text.proofs.Lists.{same_refl}
use Rattle.spec_faults.specs.Position.{Home, in_module, in_def, in_method, numbers, path, blocks, Visited}
use Rattle.spec_faults.specs.Bindings.{Binding, bindings, counts}
use Rattle.spec_faults.specs.Faults.{earlier, among, bound, own, assigned}
use Rattle.spec_faults.specs.Rule.{BoundIn, Bound, Assigned, Own}
use Rattle.spec_faults.proofs.Lists.{and_split, same_eq, any_in, in_any, in_left, in_right}

among_in : (k : ℕ) (js : List ℕ) → among k js ≡ true → In k js
among_in k [] e = absurd (false≢true e)
among_in k (j ∷ js) e = go (eqb j k) refl e (among_in k js)
  where
    go : (b : Bool) → eqb j k ≡ b → (b || among k js) ≡ true → (among k js ≡ true → In k js) → In k (j ∷ js)
    go true d e next = subst (λ i. In i (j ∷ js)) (eqb-true j k d) here
    go false d e next = there (next e)

in_among : {k : ℕ} {js : List ℕ} → In k js → among k js ≡ true
in_among {k} (here {l}) = ap (λ b. b || among k l) (eq-eqb k k refl)
in_among {k} (there {b} i) = ap (λ c. eqb b k || c) (in_among i) ∙ or-true (eqb b k)

module _ (t : Tree) (v : Visited) where
  abbrev x : Bytes
  x = v.line.name.bytes

  pub bound_from : (ks : List ℕ) → bound x ks v.number (bindings t) ≡ true → Bound t v ks
  bound_from ks e =
      let p = any_in (λ (b : Binding). earlier v.number b && (among b.block ks && same x b.name.bytes)) (bindings t) e in
      let b = p.0 in
      let q = and_split (earlier v.number b) (among b.block ks && same x b.name.bytes) p.2 in
      let r = and_split (among b.block ks) (same x b.name.bytes) q.1 in
      record {
        bound = record { binding = b; among = p.1; name = sym (same_eq x b.name.bytes r.1); block = among_in b.block ks r.0 };
        earlier = leb-true b.from v.number q.0;
      }

  named : {ks : List ℕ} (b : BoundIn t v ks) → same x b.binding.name.bytes ≡ true
  named b = ap (same x) b.name ∙ same_refl x

  pub from_bound : (ks : List ℕ) → Bound t v ks → bound x ks v.number (bindings t) ≡ true
  from_bound ks b =
      in_any (λ (b : Binding). earlier v.number b && (among b.block ks && same x b.name.bytes)) b.bound.among
      (ap₂ ◌&&◌ (le-leb b.bound.binding.from v.number b.earlier) (ap₂ ◌&&◌ (in_among b.bound.block) (named b.bound)))

  -- in the home's block
  alone : (k : ℕ) → In k (v.at.block ∷ []) → eqb v.at.block k ≡ true
  alone k here = eq-eqb k k refl
  alone k (there i) = elim i [ ]

  only : (k : ℕ) → eqb v.at.block k ≡ true → In k (v.at.block ∷ [])
  only k e = subst (λ i. In i (v.at.block ∷ [])) (eqb-true v.at.block k e) here

  abbrev counting : Binding → Bool
  counting b = earlier v.number b && (eqb v.at.block b.block && (same x b.name.bytes && counts b.how))

  pub assigned_from : assigned x v.at.block v.number (bindings t) ≡ true → Assigned t v
  assigned_from e =
      let p = any_in counting (bindings t) e in
      let b = p.0 in
      let q = and_split (earlier v.number b) _ p.2 in
      let r = and_split (eqb v.at.block b.block) _ q.1 in
      let s = and_split (same x b.name.bytes) (counts b.how) r.1 in
      record {
        before = record {
          bound = record { binding = b; among = p.1; name = sym (same_eq x b.name.bytes s.0); block = only b.block r.0 };
          earlier = leb-true b.from v.number q.0;
        };
        counts = s.1;
      }

  pub from_assigned : Assigned t v → assigned x v.at.block v.number (bindings t) ≡ true
  from_assigned a =
      let c = a.before in
      let b = c.bound.binding in
      in_any counting c.bound.among
      (ap₂ ◌&&◌ (le-leb b.from v.number c.earlier) (ap₂ ◌&&◌ (alone b.block c.bound.block) (ap₂ ◌&&◌ (named c.bound) a.counts)))

  pub own_from_lem : own v.at.home x v.at.block (bindings t) ≡ true → Own t v
  own_from_lem e = go v.at.home refl e
    where
      go : (h : Home) → v.at.home ≡ h → own h x v.at.block (bindings t) ≡ true → Own t v
      go in_module d e = absurd (false≢true e)
      go in_method d e = absurd (false≢true e)
      go in_def d e =
          let p = any_in (λ (b : Binding). eqb v.at.block b.block && same x b.name.bytes) (bindings t) e in
          let b = p.0 in
          let q = and_split (eqb v.at.block b.block) (same x b.name.bytes) p.2 in
          record { home = d; bound = record { binding = b; among = p.1; name = sym (same_eq x b.name.bytes q.1); block = only b.block q.0 } }

  pub from_own : Own t v → own v.at.home x v.at.block (bindings t) ≡ true
  from_own o =
      let b = o.bound.binding in
      subst (λ h. own h x v.at.block (bindings t) ≡ true) (sym o.home)
      (in_any (λ (b : Binding). eqb v.at.block b.block && same x b.name.bytes) o.bound.among
      (ap₂ ◌&&◌ (alone b.block o.bound.block) (named o.bound)))

  -- a name assigned before in the home's block, and a parameter of a lambda between, are in view
  abbrev widened : {js ks : List ℕ} → ((k : ℕ) → In k js → In k ks) → Bound t v js → Bound t v ks
  widened more b =
      let c = b.bound in
      record { bound = record { binding = c.binding; among = c.among; name = c.name; block = more c.binding.block c.block }; earlier = b.earlier }

  pub assigned_in_view : Assigned t v → Bound t v (blocks v.at)
  assigned_in_view a = widened (λ k i. in_right (numbers v.at.lambdas) (in_left v.at.around i)) a.before

  pub lambda_in_view : Bound t v (numbers v.at.lambdas) → Bound t v (blocks v.at)
  lambda_in_view b = widened (λ k i. in_left (path v.at) i) b
