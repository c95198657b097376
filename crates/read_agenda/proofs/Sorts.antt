-- A reader takes the forms that it makes something of; a turn takes those of a sort. For each reader of a line, these are the same forms.
use Rattle.std.proofs.Common.{ℕ, zero, suc, ◌<◌, arith, ◌≡◌, refl, ap, subst, ◌∙◌, Bool, true, false, cond, eqb, eqb-true}
use Rattle.std.proofs.Math.Option.{Option, none, some}
use Rattle.spec_text.specs.Lines.{Form, sort_of, as_stmt, as_expr, as_sort}
use Rattle.read_agenda.specs.AgendaModel.{of_sort}

-- `back a`: the form of which a reader makes a
pub data Fits {A : Type 0} (back : A → Form) : Form → Option A → Option Form → Type 0 where
  fits_some : (a : A) → Fits back (back a) (some a) (some (back a))
  fits_none : {f : Form} → Fits back f none none

-- what is made by `made` is made of the forms of sort s
abbrev pub Sorts : {A : Type 0} → (A → Form) → (Form → Option A) → ℕ → Type 0
Sorts back made s = (f : Form) → Fits back f (made f) (of_sort s f)

pub expr_sorts : Sorts Form.expr as_expr 6
expr_sorts Form.tree = fits_none
expr_sorts Form.global = fits_none
expr_sorts Form.elif = fits_none
expr_sorts Form.method = fits_none
expr_sorts Form.attr = fits_none
expr_sorts (Form.stmt f) = fits_none
expr_sorts (Form.expr f) = fits_some f

pub stmt_sorts : Sorts Form.stmt as_stmt 5
stmt_sorts Form.tree = fits_none
stmt_sorts Form.global = fits_none
stmt_sorts Form.elif = fits_none
stmt_sorts Form.method = fits_none
stmt_sorts Form.attr = fits_none
stmt_sorts (Form.stmt f) = fits_some f
stmt_sorts (Form.expr f) = fits_none

-- the one form of each other sort
abbrev lone : ℕ → Form
lone zero = Form.tree
lone (suc zero) = Form.global
lone (suc (suc zero)) = Form.elif
lone (suc (suc (suc zero))) = Form.method
lone (suc (suc (suc (suc n)))) = Form.attr

lone_sort : (f : Form) → sort_of f < 5 → lone (sort_of f) ≡ f
lone_sort Form.tree h = refl
lone_sort Form.global h = refl
lone_sort Form.elif h = refl
lone_sort Form.method h = refl
lone_sort Form.attr h = refl
lone_sort (Form.stmt f) h = absurd (omega arith)
lone_sort (Form.expr f) h = absurd (omega arith)

lone_sorts : (s : ℕ) → s < 5 → Sorts {A = Form} (λ f. lone s) (of_sort s) s
lone_sorts s h f = go (eqb s (sort_of f)) refl
  where
    go : (b : Bool) → eqb s (sort_of f) ≡ b → Fits {A = Form} (λ f. lone s) f (cond b (some f) none) (cond b (some f) none)
    go true e =
        let i : s ≡ sort_of f = eqb-true s (sort_of f) e in
        let k : lone s ≡ f = ap lone i ∙ lone_sort f (omega arith) in
        subst (λ (g : Form). Fits {A = Form} (λ f. lone s) g (some f) (some g)) k (fits_some f)
    go false e = fits_none

pub elif_sorts : Sorts {A = Form} (λ f. Form.elif) (as_sort Form.elif) 2
elif_sorts = lone_sorts 2 (omega arith)

pub method_sorts : Sorts {A = Form} (λ f. Form.method) (as_sort Form.method) 3
method_sorts = lone_sorts 3 (omega arith)

pub attr_sorts : Sorts {A = Form} (λ f. Form.attr) (as_sort Form.attr) 4
attr_sorts = lone_sorts 4 (omega arith)

pub global_sorts : Sorts {A = Form} (λ f. Form.global) (as_sort Form.global) 1
global_sorts = lone_sorts 1 (omega arith)

pub tree_sorts : Sorts {A = Form} (λ f. Form.tree) (as_sort Form.tree) 0
tree_sorts = lone_sorts 0 (omega arith)
