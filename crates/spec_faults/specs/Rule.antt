-- The rule: what is true of every tree that check passes, over its visited lines. RULE.md's four sentences, in the terms of Position and
-- Bindings: a binding is given outright, and nothing here is a test.
use Rattle.std.specs.Prelude.{ℕ, ◌≤◌, ◌≡◌, ◌⊎◌, true, List, [], ◌∷◌}
use Rattle.spec_text.specs.Bytes.{bytes, Part, In}
use Rattle.spec_text.specs.Tree.{Line, Tree}
use Rattle.spec_faults.specs.Position.{Placed, in_def, blocks, Use, is_read, is_refused, is_method, Visited, visited}
use Rattle.spec_faults.specs.Bindings.{Binding, bindings, counts}

-- a binding of the read's name, in one of these blocks
pub record BoundIn (t : Tree) (v : Visited) (ks : List ℕ) : Type 0 where
  pub binding : Binding
  pub among : In binding (bindings t)
  pub name : binding.name.bytes ≡ v.line.name.bytes
  pub block : In binding.block ks

-- and it stands earlier
pub record Bound (t : Tree) (v : Visited) (ks : List ℕ) : Type 0 where
  pub bound : BoundIn t v ks
  pub earlier : bound.binding.from ≤ v.number

-- "An own name of a def is *assigned* when an earlier binding in that block is a parameter, `for` name or target."
pub record Assigned (t : Tree) (v : Visited) : Type 0 where
  pub before : Bound t v (v.at.block ∷ [])
  pub counts : counts before.bound.binding.how ≡ true

-- "a parameter of a lambda between"
pub record LambdaParam (v : Visited) : Type 0 where
  pub lambda : Placed
  pub param : Part
  pub between : In lambda v.at.lambdas
  pub of_it : In param lambda.line.params
  pub name : param.bytes ≡ v.line.name.bytes

-- the home of the read is a def that binds the name, early or late
pub record Own (t : Tree) (v : Visited) : Type 0 where
  pub home : v.at.home ≡ in_def
  pub bound : BoundIn t v (v.at.block ∷ [])

-- a first parameter that is `self`
pub record SelfFirst (ps : List Part) : Type 0 where
  pub first : Part
  pub others : List Part
  pub there : ps ≡ first ∷ others
  pub self : first.bytes ≡ bytes "self"

pub record Rule (t : Tree) : Type 0 where
  -- 1. "Every read has a binding of its name that stands earlier, in its block or in one around it."
  pub every_read : (v : Visited) → In v (visited t) → (u : Use) → v.role ≡ is_read u → Bound t v (blocks v.at)
  -- 2. "Every read whose home is a def that binds the name, early or late, is of a name assigned before in that def's block, or of a
  -- parameter of a lambda between."
  pub own_name : (v : Visited) → In v (visited t) → (u : Use) → v.role ≡ is_read u → Own t v → Assigned t v ⊎ LambdaParam v
  -- 3. "No line in target position is other than var, get, index or tuple."
  pub target : (v : Visited) → In v (visited t) → v.role ≡ is_refused → ⊥
  -- 4. "Every method's first parameter is there and is `self`."
  pub method : (v : Visited) → In v (visited t) → (c : Line) → v.role ≡ is_method c → SelfFirst v.line.params
