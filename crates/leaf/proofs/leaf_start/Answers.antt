-- Without a mark the stack is its own last frame; else that starts behind the last mark.
use Rattle.leaf.proofs.Frames.{leaf_behind}
use Rattle.leaf.proofs.leaf_start.Goals as goal

pub returns-in-Some-clause-place : goal.returns-in-Some-clause-place
returns-in-Some-clause-place c = rw (← c.in-Some.ensures.place) at (leaf_behind c.args.stack.now)

pub returns-in-None-clause-place : goal.returns-in-None-clause-place
returns-in-None-clause-place c = rw (← c.in-None.ensures.place) at (leaf_behind c.args.stack.now)
