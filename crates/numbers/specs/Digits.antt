-- A book of pictures that share bytes, with its numbers, which were worked out by hand. Assumes nothing.
use Rattle.std.specs.Prelude.{List, [], ◌∷◌, ◌++◌, ℕ}
use Rattle.book.specs.Limits.{most_rows}
use Rattle.numbers.specs.Cases.{Case, build, walk, cleared, tables}

-- 0 to 9
abbrev pub decimal_digits : List ℕ
decimal_digits = 48 ∷ 49 ∷ 50 ∷ 51 ∷ 52 ∷ 53 ∷ 54 ∷ 55 ∷ 56 ∷ 57 ∷ []

-- 0 to 9 and a to f
abbrev pub hexadecimal_digits : List ℕ
hexadecimal_digits = decimal_digits ++ 97 ∷ 98 ∷ 99 ∷ 100 ∷ 101 ∷ 102 ∷ []

-- the pictures hexadecimal and decimal; the rules hexadecimal, decimal; decimal, `a`
abbrev pub bytes_d : List ℕ
bytes_d = 0x50 ∷ 0 ∷ 16 ∷ hexadecimal_digits ++ 0x50 ∷ 0 ∷ 10 ∷ decimal_digits ++ 0x52 ∷ 0 ∷ 4 ∷ 1 ∷ 0 ∷ 1 ∷ 1 ∷ 0x52 ∷ 0 ∷ 4 ∷ 1 ∷ 1 ∷ 0 ∷ 97 ∷ []

abbrev pub digits : List Case
digits =
    -- rows 0 to 4 are the empty one, 0, a, 00 and 0a: a digit opens both rules, a letter the first alone
    build bytes_d 5 most_rows 0 5 (tables (0 ∷ 1 ∷ 1 ∷ 2 ∷ 2 ∷ []) (0 ∷ 0 ∷ 0 ∷ 1 ∷ 2 ∷ []))
    ∷ build bytes_d 4 4 10 4 cleared
    -- f1a: f1 is the first rule, 1a the second, after one fallback
    ∷ walk bytes_d (102 ∷ 49 ∷ 97 ∷ []) (7 ∷ 7 ∷ 7 ∷ 7 ∷ 7 ∷ []) 0 (2 ∷ 1 ∷ 2 ∷ []) (2 ∷ 0 ∷ 3 ∷ 1 ∷ 7 ∷ [])
    -- fa: a is no decimal digit, and f none either
    ∷ walk bytes_d (102 ∷ 97 ∷ []) (7 ∷ 7 ∷ []) 0 (0 ∷ 1 ∷ 1 ∷ []) (7 ∷ 7 ∷ [])
    ∷ []
