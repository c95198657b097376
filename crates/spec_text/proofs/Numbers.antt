-- Two sorts with one number are one sort, and two refusals with one number one refusal.
use Rattle.std.proofs.Common.{ℕ, zero, suc, ◌≡◌, refl, sym, ap, ap₂, ◌∙◌}
use Rattle.spec_text.specs.Numbers.{refusal_number}
use Rattle.spec_text.specs.SortsModel.{sort_number}
use Rattle.spec_text.specs.declared.refusal.Refusal.{Refusal}
use Rattle.spec_text.specs.declared.refusal.Refusal.TheVariants.{TextTooLong, WorkTooShort, LineMissing, LineLeft, Malformed, NotDue, OverLimit}
use Rattle.spec_text.specs.declared.refusal.Refused.{Refused}
use Rattle.spec_text.specs.declared.sort.Sort.{Sort}
use Rattle.spec_text.specs.declared.sort.Sort.TheVariants as S

-- ---- sorts
sort_of_number : ℕ → Sort
sort_of_number zero = S.Tree
sort_of_number (suc zero) = S.Global
sort_of_number (suc (suc zero)) = S.Elif
sort_of_number (suc (suc (suc zero))) = S.Method
sort_of_number (suc (suc (suc (suc zero)))) = S.Attr
sort_of_number (suc (suc (suc (suc (suc zero))))) = S.Stmt
sort_of_number (suc (suc (suc (suc (suc (suc n)))))) = S.Expr

sort_back : (s : Sort) → sort_of_number (sort_number s) ≡ s
unfolding sort_of_number
sort_back S.Tree = refl
sort_back S.Global = refl
sort_back S.Elif = refl
sort_back S.Method = refl
sort_back S.Attr = refl
sort_back S.Stmt = refl
sort_back S.Expr = refl

pub one_sort : {a b : Sort} → sort_number a ≡ sort_number b → a ≡ b
one_sort {a} {b} e = sym (sort_back a) ∙ (ap sort_of_number e ∙ sort_back b)

-- ---- refusals
refusal_of_number : ℕ → Refusal
refusal_of_number zero = TextTooLong
refusal_of_number (suc zero) = TextTooLong
refusal_of_number (suc (suc zero)) = WorkTooShort
refusal_of_number (suc (suc (suc zero))) = LineMissing
refusal_of_number (suc (suc (suc (suc zero)))) = LineLeft
refusal_of_number (suc (suc (suc (suc (suc zero))))) = Malformed
refusal_of_number (suc (suc (suc (suc (suc (suc zero)))))) = NotDue
refusal_of_number (suc (suc (suc (suc (suc (suc (suc n))))))) = OverLimit

refusal_back : (w : Refusal) → refusal_of_number (refusal_number w) ≡ w
unfolding refusal_of_number
refusal_back TextTooLong = refl
refusal_back WorkTooShort = refl
refusal_back LineMissing = refl
refusal_back LineLeft = refl
refusal_back Malformed = refl
refusal_back NotDue = refl
refusal_back OverLimit = refl

pub one_refused : {a b : Refused} → refusal_number a.why ≡ refusal_number b.why → a.line ≡ b.line → a ≡ b
one_refused {a} {b} e l =
    let why : a.why ≡ b.why = sym (refusal_back a.why) ∙ (ap refusal_of_number e ∙ refusal_back b.why) in
    ap₂ (λ (w : Refusal) (n : ℕ). record { why = w; line = n }) why l
