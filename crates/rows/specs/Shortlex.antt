-- The order of texts in the paper's words: shorter first, and among equal lengths the bytewise smaller. Assumes nothing.
use Rattle.std.specs.Prelude.{◌≡◌, ◌⊎◌, ◌↔◌, List, ◌∷◌, ◌++◌, reverse, ℕ, ◌<◌, length}
use Rattle.rows.specs.Rows.{Before}

-- Of equal length, equal up to a place as they are read, and there t has the smaller byte.
pub record Smaller (t u : List ℕ) : Type 0 where
  pub alike : List ℕ
  pub a : ℕ
  pub b : ℕ
  pub rest : List ℕ
  pub rest' : List ℕ
  pub less : a < b
  pub long : length rest ≡ length rest'
  pub first : t ≡ alike ++ a ∷ rest
  pub second : u ≡ alike ++ b ∷ rest'

-- `Before` is that order, on texts in reading order
abbrev pub Shortlex : Type 0
Shortlex = (t u : List ℕ) → Before (reverse t) (reverse u) ↔ ((length t < length u) ⊎ Smaller t u)

-- of two texts one comes before the other, or they are equal
abbrev pub Total : Type 0
Total = (t u : List ℕ) → Before t u ⊎ (t ≡ u) ⊎ Before u t
