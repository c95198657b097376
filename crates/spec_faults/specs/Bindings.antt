-- Bindings: which names are bound, by which lines, in which blocks, and from which line on.
use Rattle.std.specs.Prelude.{ℕ, suc, Bool, true, false, List, [], ◌∷◌, ◌++◌, map}
use Rattle.spec_text.specs.Bytes.{Part}
use Rattle.spec_text.specs.Tree.{Line, Tree}
use Rattle.spec_faults.specs.Builtins.{builtin_names}
use Rattle.spec_faults.specs.Position.{Role, is_read, is_target, is_refused, is_def, is_class, is_lambda, is_other, is_for, is_method, Visited, visited}

-- how a name is bound; `given`: built-ins and globals
pub data How : Type 0 where
  given by_def by_class by_param by_for by_target : How

-- a binding: of a name, in a block. It stands before the line `from` and after the line before that.
pub record Binding : Type 0 where
  pub how : How
  pub name : Part
  pub block : ℕ
  pub from : ℕ

abbrev pub bind : How → ℕ → ℕ → Part → Binding
bind h k n x = record { how = h; name = x; block = k; from = n }

-- parameters, "at the head of their block"
abbrev pub params : ℕ → Line → List Binding
params n l = map (bind by_param n (suc n)) l.params

-- "of visited lines only, parameters [..]; names of def and class, at their line, in the block around it; a `for` name, between iterable
-- and body; a `var` in target position, at its line"
abbrev pub bound_by : Role → ℕ → Line → ℕ → List Binding
bound_by (is_read u) n l k = []
bound_by is_target n l k = bind by_target k (suc n) l.name ∷ []
bound_by is_refused n l k = []
bound_by is_def n l k = bind by_def k (suc n) l.name ∷ params n l
bound_by is_class n l k = bind by_class k (suc n) l.name ∷ []
bound_by is_lambda n l k = params n l
bound_by is_other n l k = []
bound_by (is_for m) n l k = bind by_for k m l.name ∷ []
bound_by (is_method c) n l k = params n l

abbrev pub bound_at : Visited → List Binding
bound_at v = bound_by v.role v.number v.line v.at.block

abbrev pub bound_in : List Visited → List Binding
bound_in [] = []
bound_in (v ∷ vs) = bound_at v ++ bound_in vs

-- "built-ins and globals, before all, in the module"
abbrev pub given_to : Tree → List Binding
given_to t = map (bind given 1 1) (builtin_names ++ t.globals)

abbrev pub bindings : Tree → List Binding
bindings t = given_to t ++ bound_in (visited t)

-- "A binding by def or class does not count (the Rust; Python differs)."
abbrev pub counts : How → Bool
counts given = false
counts by_def = false
counts by_class = false
counts by_param = true
counts by_for = true
counts by_target = true
