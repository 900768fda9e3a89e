-- What the loop keeps: the pass from here on is the whole pass, and the rules seen so far with those of the frames left are the rules seen at entry with
-- those of all frames.
use Prim.Native.Nat.{◌+◌, ◌-◌, ◌≤◌}
use mathlib.Core.Path.{◌≡◌}
use lib.Bits.{bit_or}
use lib.ListN.{length, drop}
use Rattle.sets.specs.Sets.{set_of}
use Rattle.sets.specs.Table.{rules_at}
use Rattle.lines.specs.Lines.{frames_of, pass_over}
use Rattle.tally.specs.Tally.{moves_over, frame_pass, rules_over, stack_pass, stack_rules}
use Rattle.tally.proofs.walk_stack.Given as goal

abbrev pub invariant-loop-at : goal.invariant-loop-at
invariant-loop-at l = record {
  most : l.at ≤ length l.stack.bytes.now + 1;
  pass : pass_over (frame_pass (moves_over l.tables)) (l.stack.base + l.at) (frames_of (drop l.at l.stack.bytes.now)) ≡ stack_pass (moves_over l.tables) l.stack.base l.stack.bytes.now;
  sees : bit_or (set_of l.seen) (rules_over (moves_over l.tables) (rules_at l.tables.out.now) (frames_of (drop l.at l.stack.bytes.now))) ≡ bit_or (set_of l.fn.seen) (stack_rules (moves_over l.tables) (rules_at l.tables.out.now) l.stack.bytes.now);
}

abbrev pub decreases-loop-at : goal.decreases-loop-at
decreases-loop-at l = length l.stack.bytes.now - l.at
