-- Ranks among the numbers below n: the largest remainder first, of equal ones the lower number. Assumes nothing.
use Rattle.std.specs.Prelude.{Bool, ◌||◌, ◌&&◌, ℕ, ltb, eqb}
use Rattle.shares.specs.Below.{count_below}

-- whether j stands before i
abbrev pub stands_before : (ℕ → ℕ) → ℕ → ℕ → Bool
stands_before r j i = ltb (r i) (r j) || (eqb (r j) (r i) && ltb j i)

-- how many stand before i
abbrev pub rank : (ℕ → ℕ) → ℕ → ℕ → ℕ
rank r n i = count_below (λ j. stands_before r j i) n
