-- The lines of the sums so far are put.
use Rattle.std.proofs.Common.{drop}
use Rattle.shown.specs.Shown.{sum_lines}
use Rattle.shown.proofs.Laws.{Front}
use Rattle.shown.proofs.put_sums.Given as goal

abbrev pub invariant-loop-rule : goal.invariant-loop-rule
invariant-loop-rule l =
    Front (sum_lines 0 l.sums) (sum_lines l.rule (drop l.rule l.sums)) l.fn.answer l.answer
