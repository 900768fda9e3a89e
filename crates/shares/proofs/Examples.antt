-- Worked examples, with a few totals. Assumes nothing.
use mathlib.Core.Path.{◌≡◌, refl}
use mathlib.Core.List.{List, [], ◌∷◌}
use Prim.Native.Nat.{ℕ}
use lib.ListN.{length}
use Rattle.shares.specs.Below.{sum_below}
use Rattle.book.specs.Content.{table}
use Rattle.shares.specs.Shares.{share_in, amount_at}

-- the shares of just these totals
few : List ℕ → List ℕ
few ts = table (length ts) (share_in (amount_at ts) (length ts) (sum_below (amount_at ts) (length ts)))

-- a tie goes to the lower number
thirds : few (1 ∷ 1 ∷ 1 ∷ []) ≡ 334 ∷ 333 ∷ 333 ∷ []
unfolding few sum_below table
thirds = refl

-- the larger remainder comes first, wherever it stands; a total of 0 gets none
sixths : few (1 ∷ 0 ∷ 3 ∷ 2 ∷ []) ≡ 167 ∷ 0 ∷ 500 ∷ 333 ∷ []
unfolding few sum_below table
sixths = refl

-- of three with one remainder the first two get one
two_of_three : few (1 ∷ 1 ∷ 4 ∷ []) ≡ 167 ∷ 167 ∷ 666 ∷ []
unfolding few sum_below table
two_of_three = refl

-- nothing is missing
quarters : few (1 ∷ 2 ∷ 1 ∷ []) ≡ 250 ∷ 500 ∷ 250 ∷ []
unfolding few sum_below table
quarters = refl

-- two are missing, and one of three gets none
sevenths : few (1 ∷ 1 ∷ 5 ∷ []) ≡ 143 ∷ 143 ∷ 714 ∷ []
unfolding few sum_below table
sevenths = refl
