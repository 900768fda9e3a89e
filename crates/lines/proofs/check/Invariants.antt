-- What the loop keeps: the pass from here on is the whole pass.
use Prim.Native.Nat.{◌+◌, ◌-◌, ◌≤◌}
use mathlib.Core.Path.{◌≡◌}
use lib.ListN.{length, drop}
use Rattle.lines.specs.Lines.{lines_of, pass_over, line_check, check_of}
use Rattle.lines.proofs.check.Given as goal

abbrev pub invariant-loop-at : goal.invariant-loop-at
invariant-loop-at l = (l.at ≤ length l.profile + 1) × (pass_over line_check l.at (lines_of (drop l.at l.profile)) ≡ check_of l.profile)

abbrev pub decreases-loop-at : goal.decreases-loop-at
decreases-loop-at l = length l.profile - l.at
