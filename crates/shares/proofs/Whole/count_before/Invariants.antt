-- How many of those so far stand before i.
use Rattle.std.proofs.Common.{◌≡◌, ◌≤◌}
use Rattle.shares.specs.Ranks.{rank}
use Rattle.shares.specs.Shares.{remainder_of, amount_at}
use Rattle.shares.proofs.Whole.count_before.Given as goal

abbrev pub invariant-loop-j : goal.invariant-loop-j
invariant-loop-j l = (l.n ≤ l.j) × (l.n ≡ rank (λ k. remainder_of l.self.sum (amount_at l.self.totals.now k)) l.j l.i)
