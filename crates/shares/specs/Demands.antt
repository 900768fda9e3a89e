-- What is demanded of shares. Assumes nothing.
use Rattle.std.specs.Prelude.{◌≡◌, List, ◌⊎◌, ℕ, ◌+◌, ◌≤◌, ◌<◌, length}
use Rattle.shares.specs.Below.{sum_below}
use Rattle.shares.specs.Shares.{all_places, limit, floor_of, remainder_of, amount_at, total_of, shares_of, number_of, value_of}

-- share i, and what it is when rounded down, and the remainder
abbrev pub share : List ℕ → ℕ → ℕ
share totals i = amount_at (shares_of totals).parts i

abbrev pub floor : List ℕ → ℕ → ℕ
floor totals i = floor_of (total_of totals) (amount_at totals i)

abbrev pub remainder : List ℕ → ℕ → ℕ
remainder totals i = remainder_of (total_of totals) (amount_at totals i)

-- i has the larger remainder, or one as large and the lower number
abbrev pub Ahead : List ℕ → ℕ → ℕ → Type 0
Ahead totals i j = (remainder totals j < remainder totals i) ⊎ ((remainder totals i ≡ remainder totals j) × (i < j))

-- parts of a whole that are fair
pub record Fair (totals parts : List ℕ) : Type 0 where
  -- they add to 1,000
  pub adds : sum_below (amount_at parts) all_places ≡ 1000
  -- each is rounded down, or one more
  pub rounded : (i : ℕ) → i < all_places → (amount_at parts i ≡ floor totals i) ⊎ (amount_at parts i ≡ floor totals i + 1)
  -- the one more goes to the largest remainders, ties to the lower number
  pub largest : (i j : ℕ) → i < all_places → j < all_places → Ahead totals i j → amount_at parts j ≡ floor totals j + 1 → amount_at parts i ≡ floor totals i + 1

-- a whole that is not 0 and within the limit
pub record Shared (totals : List ℕ) : Type 0 where
  -- the shares are fair, and no others are
  pub fair : Fair totals (shares_of totals).parts
  pub only : (parts : List ℕ) → Fair totals parts → (i : ℕ) → i < all_places → amount_at parts i ≡ share totals i
  -- one without a remainder is exact
  pub exact : (i : ℕ) → i < all_places → remainder totals i ≡ 0 → share totals i ≡ floor totals i

-- every call
pub record Demanded (totals : List ℕ) : Type 0 where
  pub long : length (shares_of totals).parts ≡ all_places
  -- within the limit
  pub given : total_of totals ≤ limit → (number_of (shares_of totals).answer ≡ 0) × (value_of (shares_of totals).answer ≡ 0)
  pub shared : 0 < total_of totals → total_of totals ≤ limit → Shared totals
  -- past it: 20, and all shares are 0
  pub past : limit < total_of totals → (number_of (shares_of totals).answer ≡ 20) × (value_of (shares_of totals).answer ≡ limit)
  pub past_none : limit < total_of totals → (i : ℕ) → share totals i ≡ 0
  -- all shares of nothing are 0, and so is the share of a total of 0
  pub nothing : total_of totals ≡ 0 → (i : ℕ) → share totals i ≡ 0
  pub none : (i : ℕ) → amount_at totals i ≡ 0 → share totals i ≡ 0

abbrev pub Demands : Type 0
Demands = (totals : List ℕ) → Demanded totals
