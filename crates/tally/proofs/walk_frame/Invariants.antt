-- What the loop keeps: the pass from here on is the whole pass, and the rules seen so far with those of the rest of the frame are the rules seen at entry
-- with those of all of it.
use Prim.Native.Nat.{◌+◌}
use mathlib.Core.Path.{◌≡◌}
use lib.Bits.{bit_or}
use lib.ListN.{drop}
use Rattle.sets.specs.Sets.{set_of}
use Rattle.sets.specs.Table.{rules_at}
use Rattle.tally.specs.Tally.{moves_over, pass_from, rules_from, frame_pass, frame_rules}
use Rattle.tally.proofs.walk_frame.Given as goal

abbrev pub invariant-loop-i : goal.invariant-loop-i
invariant-loop-i l = record {
  pass : pass_from (moves_over l.tables) (l.frame.base + l.i) l.row (drop l.i l.frame.bytes.now) ≡ frame_pass (moves_over l.tables) l.frame.base l.frame.bytes.now;
  sees : bit_or (set_of l.seen) (rules_from (moves_over l.tables) (rules_at l.tables.out.now) l.row (drop l.i l.frame.bytes.now)) ≡ bit_or (set_of l.fn.seen) (frame_rules (moves_over l.tables) (rules_at l.tables.out.now) l.frame.bytes.now);
}
