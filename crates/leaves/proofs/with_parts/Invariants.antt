-- The totals so far have their parts.
use Rattle.std.proofs.Common.{◌+◌}
use Rattle.book.specs.Limits.{most_rules}
use Rattle.shares.specs.Shares.{amount_at}
use Rattle.shares.proofs.Tables.{Filled}
use Rattle.leaf_totals.specs.Record.{total_at}
use Rattle.leaves.proofs.with_parts.Given as goal

abbrev pub invariant-loop-i : goal.invariant-loop-i
invariant-loop-i l = Filled (λ k. total_at l.old k + amount_at l.parts k) most_rules l.i l.totals
