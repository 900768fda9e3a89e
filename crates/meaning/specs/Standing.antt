-- The standing of a text: the pairs (k, j), j at least 1, such that the last j bytes of the text fit the first j symbols of rule k. Assumes nothing.
use Rattle.std.specs.Prelude.{◌≡◌, Bool, ◌&&◌, not, cond, List, ℕ, zero, suc, ltb, eqb, length}
use Rattle.sets.specs.Sets.{has, set_where}
use Rattle.meaning.specs.Rules.{Rules, count, size, fits_at, stands}

-- the rules k with (k, j) in the standing of the text, for j at least 1
unfoldable pub level : Rules → List ℕ → ℕ → ℕ
level r t j = set_where (count r) (λ k. stands r t k j)

-- two texts have one standing
pub record Same (r : Rules) (t u : List ℕ) : Type 0 where
  pub at : (j : ℕ) → level r t (suc j) ≡ level r u (suc j)

-- the last j bytes of the text fit the first j symbols of some rule
unfoldable pub opens : Rules → List ℕ → ℕ → Bool
opens r t j = not (eqb (level r t j) 0)

-- the largest j from 1 to n with p j, or 0
unfoldable pub largest : (ℕ → Bool) → ℕ → ℕ
largest p zero = zero
largest p (suc n) = let rest = largest p n in cond (p (suc n)) (suc n) rest

-- the held length: the largest j in the standing, or 0
unfoldable pub held : Rules → List ℕ → ℕ
held r t = largest (opens r t) (length t)

-- the rules k with (k, held length) in the standing; none where nothing is held
unfoldable pub live : Rules → List ℕ → ℕ
live r t = cond (eqb (held r t) 0) 0 (level r t (held r t))

-- the standing of u is that of t without its pairs of the held length
pub record Shorter (r : Rules) (t u : List ℕ) : Type 0 where
  pub at : (j : ℕ) → level r u (suc j) ≡ cond (eqb (suc j) (held r t)) 0 (level r t (suc j))

-- the rules of the set s that have a symbol j, which the byte c fits
unfoldable pub going_on : Rules → ℕ → ℕ → ℕ → ℕ
going_on r c j s = set_where (count r) (λ k. fits_at r c k j && has s k)

-- some pair (k, held length) has a next symbol that c fits
unfoldable pub extends : Rules → List ℕ → ℕ → Bool
extends r t c = not (eqb (going_on r c (held r t) (live r t)) 0)

-- rule k occurs in the text and ends where the text ends: (k, length of k) is in the standing
unfoldable pub ends : Rules → List ℕ → ℕ → Bool
ends r t k = ltb 0 (size r k) && stands r t k (size r k)

-- the rules that end where the text ends
unfoldable pub out : Rules → List ℕ → ℕ
out r t = set_where (count r) (ends r t)
