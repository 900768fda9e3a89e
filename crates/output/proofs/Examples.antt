-- Numbers and lines as they are printed, by computation. Assumes nothing.
use mathlib.Core.List.{[], ◌∷◌}
use mathlib.Core.Path.{◌≡◌, refl}
use Rattle.output.specs.Printed.{numeral, numeral_in, built_line}

-- 0, 9, 10, and the largest number of 64 bits
pub numerals :
    (numeral 0 ≡ 48 ∷ []) × (numeral 9 ≡ 57 ∷ []) × (numeral 10 ≡ 49 ∷ 48 ∷ [])
    × (numeral 18446744073709551615
    ≡ 49 ∷ 56 ∷ 52 ∷ 52 ∷ 54 ∷ 55 ∷ 52 ∷ 52 ∷ 48 ∷ 55 ∷ 51 ∷ 55 ∷ 48 ∷ 57 ∷ 53 ∷ 53 ∷ 49 ∷ 54 ∷ 49 ∷ 53 ∷ [])
unfolding numeral_in
numerals = (refl, refl, refl, refl)

-- `refused 17 5`, and `rows 9` of a build that is accepted
pub lines :
    (built_line 17 5 ≡ 114 ∷ 101 ∷ 102 ∷ 117 ∷ 115 ∷ 101 ∷ 100 ∷ 32 ∷ 49 ∷ 55 ∷ 32 ∷ 53 ∷ 10 ∷ [])
    × (built_line 0 9 ≡ 114 ∷ 111 ∷ 119 ∷ 115 ∷ 32 ∷ 57 ∷ 10 ∷ [])
unfolding numeral_in
lines = (refl, refl)
