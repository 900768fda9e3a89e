-- The pass from here on is the whole pass, and what is counted so far and what the rest adds is what the profile adds.
use Rattle.std.proofs.Common.{◌≡◌, ◌+◌, ◌-◌, ◌≤◌, length, drop}
use Rattle.lent.specs.Lent.{tables_of}
use Rattle.lines.specs.Lines.{lines_of, pass_over}
use Rattle.leaves.specs.Totals.{leaf_pass, leaves_pass}
use Rattle.leaves.proofs.Counting.{Counted}
use Rattle.leaves.proofs.count_lines.Given as goal

abbrev pub invariant-loop-at : goal.invariant-loop-at
invariant-loop-at l =
    let b = tables_of l.tables in
    let n = l.tables.rows in
    (l.at ≤ length l.profile + 1) × (pass_over (leaf_pass b n) l.at (lines_of (drop l.at l.profile)) ≡ leaves_pass b n l.profile) × Counted b n l.profile l.at l.parts

abbrev pub decreases-loop-at : goal.decreases-loop-at
decreases-loop-at l = length l.profile - l.at
