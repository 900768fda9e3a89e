-- `give` writes at one of the places: that of the largest remainder so far. Assumes nothing.
use Prim.Native.Nat.{◌<◌}
use Rattle.leaf_cases.proofs.compare.Dealt.give.Given as goal

abbrev pub invariant-loop-i : goal.invariant-loop-i
invariant-loop-i l = l.best < 257
