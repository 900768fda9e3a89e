-- A book of more rules than a word has bits, with its numbers, which were worked out by hand. Assumes nothing.
use Rattle.std.specs.Prelude.{List, [], ◌∷◌, ◌++◌, ℕ}
use Rattle.format.specs.Largest.{repeated}
use Rattle.numbers.specs.Inputs.{bytes_a}
use Rattle.numbers.specs.Cases.{Case, walk}

-- 64 rules `a`, then the rule `b`
abbrev pub bytes_m : List ℕ
bytes_m = repeated 64 bytes_a ++ 0x52 ∷ 0 ∷ 2 ∷ 0 ∷ 98 ∷ []

abbrev pub many : List Case
many =
    -- b: the last rule, which is first of a row's second word
    walk bytes_m (98 ∷ []) (7 ∷ 7 ∷ 7 ∷ []) 0 (1 ∷ 0 ∷ 1 ∷ []) (1 ∷ 64 ∷ 7 ∷ [])
    -- ba: it, then the others, for which there is no room
    ∷ walk bytes_m (98 ∷ 97 ∷ []) (7 ∷ 7 ∷ 7 ∷ []) 14 (65 ∷ []) (7 ∷ 7 ∷ 7 ∷ [])
    ∷ []
