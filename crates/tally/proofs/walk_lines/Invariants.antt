-- What the loop keeps: the pass from here on is the whole pass, and the lines left make of the sums what all make of the sums at entry; there is room for
-- those left.
use Prim.Native.Nat.{◌+◌, ◌-◌, ◌*◌, ◌≤◌}
use mathlib.Core.Path.{◌≡◌}
use lib.ListN.{length, drop}
use Rattle.sets.specs.Table.{rules_at}
use Rattle.book.specs.Limits.{most_rules}
use Rattle.lines.specs.Lines.{lines_of, pass_over}
use Rattle.tally.specs.Tally.{moves_over, line_pass, sums_over, lines_pass, lines_sums}
use Rattle.tally.specs.Passes.{Room}
use Rattle.tally.proofs.walk_lines.Given as goal

abbrev pub invariant-loop-at : goal.invariant-loop-at
invariant-loop-at l = record {
  most : l.at ≤ length l.profile + 1;
  room : Room (most_rules * (length l.profile - l.at)) l.sums;
  pass : pass_over (line_pass (moves_over l.tables)) l.at (lines_of (drop l.at l.profile)) ≡ lines_pass (moves_over l.tables) l.profile;
  adds : sums_over (moves_over l.tables) (rules_at l.tables.out.now) (lines_of (drop l.at l.profile)) l.sums ≡ lines_sums (moves_over l.tables) (rules_at l.tables.out.now) l.profile l.fn.sums;
}

abbrev pub decreases-loop-at : goal.decreases-loop-at
decreases-loop-at l = length l.profile - l.at
