-- What is left and the floors so far make 1,000.
use Rattle.std.proofs.Common.{◌≡◌, ◌+◌}
use Rattle.shares.specs.Below.{sum_below}
use Rattle.shares.specs.Shares.{floor_of, amount_at}
use Rattle.shares.proofs.Whole.count_missing.Given as goal

abbrev pub invariant-loop-i : goal.invariant-loop-i
invariant-loop-i l = l.left + sum_below (λ k. floor_of l.self.sum (amount_at l.self.totals.now k)) l.i ≡ 1000
