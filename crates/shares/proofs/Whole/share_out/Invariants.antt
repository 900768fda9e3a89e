-- The shares so far are written.
use Rattle.shares.specs.Shares.{all_places, amount_at, share_in}
use Rattle.shares.proofs.Tables.{Filled}
use Rattle.shares.proofs.Whole.share_out.Given as goal

abbrev pub invariant-loop-i : goal.invariant-loop-i
invariant-loop-i l = Filled (share_in (amount_at l.self.totals.now) all_places l.self.sum) all_places l.i l.parts
