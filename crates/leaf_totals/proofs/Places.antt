-- A law of the record. Assumes nothing.
use Prim.Native.Nat.{ℕ, ◌≤◌, ◌<◌}
use native.Mathlib.Omega.{arith}
use Rattle.shares.specs.Shares.{all_places, amount_at}
use Rattle.shares.proofs.Below.{sum_at}
use Rattle.book.proofs.Tables.{get_or_table}
use Rattle.leaf_totals.specs.declared.LeafTotals.{LeafTotals}
use Rattle.leaf_totals.specs.Record.{total_at, totals_in, whole_in}

-- no total is larger than that of the record
pub total-le : (t : LeafTotals) (p : ℕ) → p < all_places → total_at t p ≤ whole_in t
total-le t p h = omega (arith, get_or_table all_places (total_at t) p 0 h, sum_at (amount_at (totals_in t)) all_places p h)
