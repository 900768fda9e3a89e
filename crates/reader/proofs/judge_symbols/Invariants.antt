-- The first fault of what is left is that of the body.
use Rattle.std.proofs.Common.{◌≡◌, ◌+◌, ◌*◌, length}
use Rattle.format.specs.Format.{judge_symbols}
use Rattle.reader.proofs.judge_symbols.Given as goal

abbrev pub invariant-loop-i : goal.invariant-loop-i
invariant-loop-i l = record {
  pairs : l.i-iterator.iter.size ≡ 2;
  places : 2 * l.i-iterator.count + length l.i-iterator.iter.rest.now ≡ length l.body;
  rest : judge_symbols l.pictures l.start l.body ≡ judge_symbols l.pictures (l.start + 2 * l.i-iterator.count) l.i-iterator.iter.rest.now;
}
