-- A tree whose lines have the words of their places in it, and names where those words have names. Each tree that is read is one.
use Rattle.std.specs.Prelude.{ℕ, ◌≡◌, List, [], ◌∷◌}
use Rattle.spec_text.specs.Bytes.{Part}
use Rattle.spec_text.specs.Tree.{Expr, Exprs, Attrs, Stmt, Stmts, Methods, var, node, access, tuple, call, lambda, enil, econs, anil, acons, simple, assign, block, choice, for, def, class, snil, scons, mnil, mcons}

-- words by their place in the table
pub data NodeWord : ℕ → Type 0 where
  lit : NodeWord 16
  un : NodeWord 18
  bin : NodeWord 19
  list : NodeWord 23
  set : NodeWord 25
  treeset : NodeWord 26
  dict : NodeWord 27

pub data AccessWord : ℕ → Type 0 where
  index : AccessWord 20
  get : AccessWord 22

pub data SimpleWord : ℕ → Type 0 where
  break : SimpleWord 2
  continue : SimpleWord 3
  pass : SimpleWord 4
  return : SimpleWord 11
  expr : SimpleWord 12

pub data BlockWord : ℕ → Type 0 where
  elif : BlockWord 8
  while : BlockWord 9

-- a part with bytes
abbrev pub Some : Part → Type 0
Some p = p.bytes ≡ [] → ⊥

abbrev pub Somes : List Part → Type 0
Somes [] = Unit
Somes (p ∷ ps) = Some p × Somes ps

abbrev mutual
  pub WordedE : Expr → Type 0
  WordedE (var l) = (l.word ≡ 17) × Some l.name
  WordedE (node l es) = NodeWord l.word × WordedEs es
  WordedE (access l es) = AccessWord l.word × WordedEs es
  WordedE (tuple l es) = (l.word ≡ 24) × WordedEs es
  WordedE (call l f es) = (l.word ≡ 21) × (WordedE f × WordedEs es)
  WordedE (lambda l e) = (l.word ≡ 28) × (Somes l.params × WordedE e)

  pub WordedEs : Exprs → Type 0
  WordedEs enil = Unit
  WordedEs (econs e es) = WordedE e × WordedEs es

abbrev pub WordedAs : Attrs → Type 0
WordedAs anil = Unit
WordedAs (acons l e ats) = (l.word ≡ 15) × (WordedE e × WordedAs ats)

abbrev mutual
  pub WordedS : Stmt → Type 0
  WordedS (simple l es) = SimpleWord l.word × WordedEs es
  WordedS (assign l e t) = (l.word ≡ 6) × (WordedE e × WordedE t)
  WordedS (block l c b) = BlockWord l.word × (WordedE c × WordedSs b)
  WordedS (choice l c b k e) = (l.word ≡ 7) × (WordedE c × (WordedSs b × (WordedSs k × WordedSs e)))
  WordedS (for l e b) = (l.word ≡ 10) × (Some l.name × (WordedE e × WordedSs b))
  WordedS (def l b) = (l.word ≡ 5) × (Some l.name × (Somes l.params × WordedSs b))
  WordedS (class l ms ats) = (l.word ≡ 13) × (Some l.name × (WordedMs ms × WordedAs ats))

  pub WordedSs : Stmts → Type 0
  WordedSs snil = Unit
  WordedSs (scons s ss) = WordedS s × WordedSs ss

  pub WordedMs : Methods → Type 0
  WordedMs mnil = Unit
  WordedMs (mcons l b ms) = (l.word ≡ 14) × (Some l.name × (Somes l.params × (WordedSs b × WordedMs ms)))
