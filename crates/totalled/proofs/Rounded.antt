-- Shares of totals that are 0 but in the first four places and the last, by what is demanded of them. Assumes nothing.
use mathlib.Core.Logic.{◌⊎◌, inl, inr}
use mathlib.Core.List.{List}
use mathlib.Core.Path.{◌≡◌, sym, ap₂, ◌∙◌}
use Prim.Native.Nat.{ℕ, ◌+◌, ◌≤◌, ◌<◌}
use native.Mathlib.Omega.{arith}
use Rattle.shares.specs.Below.{sum_below}
use Rattle.shares.specs.Shares.{all_places, limit, floor_of, remainder_of, amount_at, total_of}
use Rattle.shares.specs.Demands.{share, floor, Ahead, Shared}
use Rattle.shares.proofs.Below.{sum_none, sum_next, sum_zeros}
use Rattle.shares.proofs.Demands.{demands}

-- a sum of just the first four and the last
sum_ends : (f : ℕ → ℕ) → ((i : ℕ) → 4 ≤ i → i < 256 → f i ≡ 0) → sum_below f all_places ≡ f 0 + f 1 + f 2 + f 3 + f 256
sum_ends f z =
    omega (arith, sum_next f 256, sum_zeros f 4 252 z, sum_next f 3, sum_next f 2, sum_next f 1, sum_next f 0, sum_none f)

-- a share that is rounded down, or one more
pub record Rounds (s f : ℕ) : Type 0 where
  pub low : f ≤ s
  pub high : s ≤ f + 1

rounds : {s f g : ℕ} → (s ≡ f) ⊎ (s ≡ f + 1) → f ≡ g → Rounds s g
rounds (inl z) q = record { low = omega arith; high = omega arith }
rounds (inr z) q = record { low = omega arith; high = omega arith }

-- one that stands before another gets the one more first
ahead : {s u f g f' g' : ℕ} → (s ≡ f) ⊎ (s ≡ f + 1) → (u ≡ g) ⊎ (u ≡ g + 1) → (u ≡ g + 1 → s ≡ f + 1) → f ≡ f' → g ≡ g' → u + f' ≤ s + g'
ahead x (inr z) h p q = omega (arith, h z)
ahead (inl y) (inl z) h p q = omega arith
ahead (inr y) (inl z) h p q = omega arith

-- the totals are a, b, c and d in the first places and e in the last, and 0 between
pub record AtEnds (totals : List ℕ) (a b c d e : ℕ) : Type 0 where
  pub at0 : amount_at totals 0 ≡ a
  pub at1 : amount_at totals 1 ≡ b
  pub at2 : amount_at totals 2 ≡ c
  pub at3 : amount_at totals 3 ≡ d
  pub last : amount_at totals 256 ≡ e
  pub between : (p : ℕ) → 4 ≤ p → p < 256 → amount_at totals p ≡ 0

-- a total that is rounded down, the remainder, and which of two stands before the other
pub floor_of_lem : (totals : List ℕ) (i : ℕ) {w v : ℕ} → total_of totals ≡ w → amount_at totals i ≡ v → floor totals i ≡ floor_of w v
floor_of_lem totals i q z = ap₂ floor_of q z

pub larger_at : (totals : List ℕ) (i j : ℕ) {w u v : ℕ} → total_of totals ≡ w → amount_at totals i ≡ u → amount_at totals j ≡ v → remainder_of w v < remainder_of w u → Ahead totals i j
larger_at totals i j q y z l = inl (rw (q, y, z) l)

pub lower_at : (totals : List ℕ) (i j : ℕ) {w u v : ℕ} → total_of totals ≡ w → amount_at totals i ≡ u → amount_at totals j ≡ v → remainder_of w u ≡ remainder_of w v → i < j → Ahead totals i j
lower_at totals i j q y z e l = inr (rw (q, y, z) e, l)

module _ {totals : List ℕ} {a b c d e : ℕ} (x : AtEnds totals a b c d e) where
  pub whole_is : total_of totals ≡ a + b + c + d + e
  whole_is = omega (arith, sum_ends (amount_at totals) x.between, x.at0, x.at1, x.at2, x.at3, x.last)

  -- a share between is 0
  pub none_between : (p : ℕ) → 4 ≤ p → p < 256 → share totals p ≡ 0
  none_between p h l = (demands totals).none p (x.between p h l)

  module _ (some : 0 < total_of totals) (most : total_of totals ≤ limit) where
    shared : Shared totals
    shared = (demands totals).shared some most

    pub adds_up : share totals 0 + share totals 1 + share totals 2 + share totals 3 + share totals 256 ≡ 1000
    adds_up = sym (sum_ends (share totals) none_between) ∙ shared.fair.adds

    -- ---- by the numbers

    pub round_at : (i : ℕ) {f : ℕ} → i < 257 → floor totals i ≡ f → Rounds (share totals i) f
    round_at i l q = rounds (shared.fair.rounded i l) q

    pub ahead_at : (i j : ℕ) {f g : ℕ} → i < 257 → j < 257 → Ahead totals i j → floor totals i ≡ f → floor totals j ≡ g → share totals j + f ≤ share totals i + g
    ahead_at i j h l o p q = ahead (shared.fair.rounded i h) (shared.fair.rounded j l) (shared.fair.largest i j h l o) p q
