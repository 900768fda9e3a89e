-- What a whole to share bounds. Assumes nothing.
use mathlib.Core.Path.{◌≡◌}
use mathlib.Core.List.{List}
use Prim.Native.Nat.{ℕ, ◌+◌, ◌-◌, ◌≤◌, ◌<◌}
use native.Mathlib.Omega.{arith}
use Rattle.shares.specs.Below.{sum_below}
use Rattle.shares.specs.Shares.{all_places, limit, floor_of, amount_at, ToShare}
use Rattle.shares.proofs.Below.{sum_at, sum_next, sum_more}
use Rattle.shares.proofs.Laws.{floors-most}

-- a sum so far and its next term
pub term_within : (f : ℕ → ℕ) (i : ℕ) → i < all_places → sum_below f i + f i ≤ sum_below f all_places
term_within f i h = omega (arith, sum_next f i, sum_more f (i + 1) all_places (omega arith))

module _ {totals : List ℕ} {whole : ℕ} (w : ToShare totals whole) where
  pub total_most : (i : ℕ) → i < all_places → amount_at totals i ≤ limit
  total_most i h = omega (arith, sum_at (amount_at totals) all_places i h)

  floors_within : sum_below (λ k. floor_of whole (amount_at totals k)) all_places ≤ 1000
  floors_within = rw w.is (floors-most (amount_at totals) all_places (omega arith))

  -- one floor is taken away from what is left of 1,000
  pub floor_taken : {left down : ℕ} (i : ℕ) → i < all_places → down ≡ floor_of whole (amount_at totals i) → left + sum_below (λ k. floor_of whole (amount_at totals k)) i ≡ 1000
      → (down ≤ left) × ((left - down) + sum_below (λ k. floor_of whole (amount_at totals k)) (i + 1) ≡ 1000)
  floor_taken i h d e =
      let floor : ℕ → ℕ = λ k. floor_of whole (amount_at totals k) in
      (omega (arith, term_within floor i h, floors_within), omega (arith, term_within floor i h, floors_within, sum_next floor i))

  pub floor_most : (i : ℕ) → i < all_places → floor_of whole (amount_at totals i) ≤ 1000
  floor_most i h = omega (arith, sum_at (λ k. floor_of whole (amount_at totals k)) all_places i h, floors_within)
