-- What the row that the falls have come to leads to, `row` leads to; the row falls.
use Prim.Native.Nat.{ℕ, ◌≤◌}
use Rattle.build.specs.Course.{Leads}
use Rattle.build.proofs.follow.Given as goal

abbrev pub invariant-loop-r : goal.invariant-loop-r
invariant-loop-r l = (l.r ≤ l.row) × ((e : ℕ) → Leads l.goto l.fall l.byte l.r e → Leads l.goto l.fall l.byte l.row e)

abbrev pub decreases-loop-r : goal.decreases-loop-r
decreases-loop-r l = l.r
