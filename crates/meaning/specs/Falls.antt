-- The fallbacks of a walk, from the rules and the text alone. Assumes nothing.
use Rattle.std.specs.Prelude.{Bool, cond, List, [], ◌∷◌, ℕ, zero, suc, pred, ◌+◌, length, take}
use Rattle.meaning.specs.Rules.{Rules}
use Rattle.meaning.specs.Standing.{opens, held}

-- the longest ending of the text that fits the opening of some rule
unfoldable pub longest : Rules → List ℕ → List ℕ
longest r t = take (held r t) t

-- the longest proper ending of u that fits an opening
unfoldable pub next_longest : Rules → List ℕ → List ℕ
next_longest r u = longest r (take (pred (length u)) u)

-- u followed by c fits an opening of that length
unfoldable pub fits_with : Rules → List ℕ → ℕ → Bool
fits_with r u c = opens r (c ∷ u) (length (c ∷ u))

-- At the byte c, while u is not empty and u followed by c fits no opening of that length, u becomes its longest proper ending that fits an opening:
-- how often. It takes at most as many turns as u has bytes, so n is to be no less.
unfoldable pub falls_from : Rules → ℕ → ℕ → List ℕ → ℕ
falls_from r c zero u = zero
falls_from r c (suc n) [] = zero
falls_from r c (suc n) (b ∷ u) =
    let one_more = suc (falls_from r c n (next_longest r (b ∷ u))) in
    cond (fits_with r (b ∷ u) c) zero one_more

-- the fallbacks made at the byte c, when t is read
unfoldable pub falls : Rules → List ℕ → ℕ → ℕ
falls r t c = falls_from r c (length t) (longest r t)

-- the fallbacks made over the whole text
unfoldable pub falls_in : Rules → List ℕ → ℕ
falls_in r [] = zero
falls_in r (c ∷ t) = falls_in r t + falls r t c
