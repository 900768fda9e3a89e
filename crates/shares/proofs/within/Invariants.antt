-- The sum so far, which is within the limit.
use Rattle.std.proofs.Common.{◌≡◌, ◌≤◌}
use Rattle.shares.specs.Below.{sum_below}
use Rattle.shares.specs.Shares.{limit, amount_at}
use Rattle.shares.proofs.within.Given as goal

abbrev pub invariant-loop-t : goal.invariant-loop-t
invariant-loop-t l = (l.sum ≡ sum_below (amount_at l.totals) l.t-index) × (l.sum ≤ limit)
