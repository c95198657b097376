-- A step of the walk, over the code's own struct: what it leaves of the stack and of the work buffer. The text stays, and the buffer is the one
-- that was lent.
use Rattle.std.specs.Prelude.{◌≡◌}
use Rattle.walk_tree.specs.declared.Walker.{Walker}
use Rattle.walk_tree.specs.WalkModel.{Walk, walk}

abbrev pub state : Walker → Walk
state w = walk w.stack w.work.now

pub record Walked (old : Walker) (step : Walk → Walk) (new : Walker) : Type 0 where
  pub walked : state new ≡ step (state old)
  pub same_text : new.text.now ≡ old.text.now
  pub same_buffer : new.work.ghost_name ≡ old.work.ghost_name
