-- Laws of the record with parts more, and of what was counted and joins it. Assumes nothing.
use mathlib.Core.List.{List}
use mathlib.Core.Path.{◌≡◌}
use Prim.Native.Nat.{ℕ, ◌+◌, ◌≤◌, ◌<◌}
use native.Mathlib.Omega.{arith}
use Rattle.book.specs.Limits.{most_rules}
use Rattle.leaf_totals.proofs.Places.{total-le}
use Rattle.shares.specs.Shares.{all_places, limit, amount_at, total_of}
use Rattle.shares.proofs.Below.{sum_at}
use Rattle.shares.proofs.Tables.{Filled, filled-all}
use Rattle.leaf_totals.specs.declared.LeafTotals.{LeafTotals}
use Rattle.leaf.specs.Leaf.{unnamed}
use Rattle.leaf_totals.specs.Record.{most_profiles, total_at, whole_in}
use Rattle.leaves.specs.Totals.{with_parts}
use Rattle.leaves.specs.Steps.{TakesParts}

-- the totals with their parts, all filled in
pub with_filled : (t : LeafTotals) (parts : List ℕ) {i : ℕ} {totals : List ℕ} → Filled (λ k. total_at t k + amount_at parts k) most_rules i totals → i ≡ most_rules
    → record { totals = totals; unnamed = t.unnamed + amount_at parts unnamed; profiles = t.profiles + 1 } ≡ with_parts t (amount_at parts)
unfolding with_parts
with_filled t parts w e = rw (filled-all w e)

-- a record with room for one profile more has room for parts that do not pass the limit with it
pub joins : (t : LeafTotals) (parts : List ℕ) → t.profiles < most_profiles → whole_in t + total_of parts ≤ limit → TakesParts t parts
joins t parts few h = record { few = few; fits = λ p l. omega (arith, total-le t p l, sum_at (amount_at parts) all_places p l) }
