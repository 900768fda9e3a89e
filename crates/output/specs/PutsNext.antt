-- What an answer is after bytes are put into it. Assumes nothing.
use Rattle.std.specs.Prelude.{List, ◌≡◌, ℕ}
use Rattle.output.specs.Printed.{Puts}
use Rattle.output.specs.declared.Answer.{Answer}

-- They are put at the place where it ended, it ends behind them, and its buffer is the one that it was.
pub record PutsNext (bytes : List ℕ) (old new : Answer) : Type 0 where
  pub puts : Puts bytes old.bytes.now old.end new.bytes.now new.end
  pub same : new.bytes.ghost_name ≡ old.bytes.ghost_name
