-- Laws of sums. Assumes nothing.
use mathlib.Core.Path.{◌≡◌, refl, sym, ap, ap₂, ◌∙◌}
use Prim.Native.Nat.{ℕ, zero, suc, ◌+◌, ◌*◌, ◌≤◌, ◌<◌}
use native.Mathlib.Nat.{add-zero, zero-add, add-suc, mul-add, mul-zero}
use native.Mathlib.Numerals.{add-one}
use native.Mathlib.Decide.{dec_lt}
use native.Mathlib.Omega.{arith}
use Rattle.shares.specs.Below.{sum_below}

pub sum_none : (f : ℕ → ℕ) → sum_below f 0 ≡ 0
unfolding sum_below
sum_none f = refl

-- one term more, as the code counts
pub sum_next : (f : ℕ → ℕ) (i : ℕ) → sum_below f (i + 1) ≡ sum_below f i + f i
unfolding sum_below
sum_next f i = rw (add-one i)

pub sum_same : (f g : ℕ → ℕ) (n : ℕ) → ((i : ℕ) → i < n → f i ≡ g i) → sum_below f n ≡ sum_below g n
unfolding sum_below
sum_same f g zero e = refl
sum_same f g (suc n) e = ap₂ ◌+◌ (sum_same f g n (λ i h. e i (omega arith))) (e n (omega arith))

pub sum_le : (f g : ℕ → ℕ) (n : ℕ) → ((i : ℕ) → i < n → f i ≤ g i) → sum_below f n ≤ sum_below g n
unfolding sum_below
sum_le f g zero l = omega arith
sum_le f g (suc n) l = omega (arith, sum_le f g n (λ i h. l i (omega arith)), l n (omega arith))

-- less, where one term is
pub sum_lt : (f g : ℕ → ℕ) (n k : ℕ) → ((i : ℕ) → i < n → f i ≤ g i) → k < n → f k < g k → sum_below f n < sum_below g n
unfolding sum_below
sum_lt f g zero k l h s = omega arith
sum_lt f g (suc n) k l h s = elim (dec_lt k n) [
  | yes b ↦ omega (arith, sum_lt f g n k (λ i h. l i (omega arith)) b s, l n (omega arith))
  | no b ↦
      let e : k ≡ n = omega arith in
      let s' : f n < g n = rw e at s in
      omega (arith, sum_le f g n (λ i h. l i (omega arith)))
]

pub sum_plus : (f g : ℕ → ℕ) (n : ℕ) → sum_below (λ i. f i + g i) n ≡ sum_below f n + sum_below g n
unfolding sum_below
sum_plus f g zero = refl
sum_plus f g (suc n) = omega (arith, sum_plus f g n)

pub sum_times : (k : ℕ) (f : ℕ → ℕ) (n : ℕ) → sum_below (λ i. k * f i) n ≡ k * sum_below f n
unfolding sum_below
sum_times k f zero = sym (mul-zero k)
sum_times k f (suc n) = ap (λ (x : ℕ). x + k * f n) (sum_times k f n) ∙ sym (mul-add k (sum_below f n) (f n))

-- terms that are 0 add nothing
pub sum_zeros : (f : ℕ → ℕ) (m n : ℕ) → ((i : ℕ) → m ≤ i → i < m + n → f i ≡ 0) → sum_below f (m + n) ≡ sum_below f m
unfolding sum_below
sum_zeros f m zero z = rw add-zero
sum_zeros f m (suc n) z = rw add-suc (omega (arith, sum_zeros f m n (λ i h l. z i h (omega arith)), z (m + n) (omega arith) (omega arith)))

pub zeros-below : (f : ℕ → ℕ) (n : ℕ) → ((i : ℕ) → i < n → f i ≡ 0) → sum_below f n ≡ 0
zeros-below f n z = ap (sum_below f) (sym (zero-add n)) ∙ sum_zeros f 0 n (λ i h l. z i (omega arith)) ∙ sum_none f

-- a sum of terms of at most 1
pub sum_few : (f : ℕ → ℕ) (n : ℕ) → ((i : ℕ) → f i ≤ 1) → sum_below f n ≤ n
unfolding sum_below
sum_few f zero l = omega arith
sum_few f (suc n) l = omega (arith, sum_few f n l, l n)

-- a sum of fewer terms is no larger, and no term is larger than the sum
pub sum_more : (f : ℕ → ℕ) (m n : ℕ) → m ≤ n → sum_below f m ≤ sum_below f n
unfolding sum_below
sum_more f m zero h = let e : m ≡ 0 = omega arith in rw e (omega arith)
sum_more f m (suc n) h = elim (dec_lt n m) [
  | yes b ↦ let e : m ≡ suc n = omega arith in rw e (omega arith)
  | no b ↦ omega (arith, sum_more f m n (omega arith))
]

pub sum_at : (f : ℕ → ℕ) (n i : ℕ) → i < n → f i ≤ sum_below f n
unfolding sum_below
sum_at f n i h = omega (arith, sum_more f (suc i) n h)
