-- Laws of sums over lists. Assumes nothing.
use mathlib.Core.List.{List, [], ◌∷◌, ◌++◌}
use mathlib.Core.Path.{◌≡◌}
use Prim.Native.Nat.{ℕ, ◌+◌, ◌*◌, ◌≤◌}
use native.Mathlib.Omega.{arith}
use Rattle.sets.specs.Sums.{sum_over}

pub sum_append : {A : Type 0} (f : A → ℕ) (xs ys : List A) → sum_over f (xs ++ ys) ≡ sum_over f xs + sum_over f ys
unfolding sum_over
sum_append f [] ys = omega arith
sum_append f (x ∷ xs) ys = omega (arith, sum_append f xs ys)

-- a sum of smaller numbers is smaller, and of at most k times as large ones at most k times as large
pub sum_within : {A : Type 0} (k : ℕ) (f g : A → ℕ) → ((x : A) → f x ≤ k * g x) → (xs : List A) → sum_over f xs ≤ k * sum_over g xs
unfolding sum_over
sum_within k f g h [] = omega arith
sum_within k f g h (x ∷ xs) = omega (arith, h x, sum_within k f g h xs)

pub sum_le : {A : Type 0} (f g : A → ℕ) → ((x : A) → f x ≤ g x) → (xs : List A) → sum_over f xs ≤ sum_over g xs
sum_le f g h xs = omega (arith, sum_within 1 f g (λ x. omega (arith, h x)) xs)
