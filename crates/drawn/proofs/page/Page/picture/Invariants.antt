-- `picture` meets its contract: letters only make the page longer. Assumes nothing.
use Prim.Native.Nat.{◌≤◌}
use Rattle.drawn.proofs.page.Page.picture.Given as goal

abbrev pub invariant-loop-l : goal.invariant-loop-l
invariant-loop-l l = l.fn.self.size ≤ l.self.size
