-- The books, the texts and the profiles of the paper's cases, in bytes. Assumes nothing.
use Rattle.std.specs.Prelude.{List, [], ◌∷◌, ◌++◌, ℕ}

-- ---- books

-- the rule `a`
abbrev pub bytes_a : List ℕ
bytes_a = 0x52 ∷ 0 ∷ 2 ∷ 0 ∷ 97 ∷ []

-- two rules `a`
abbrev pub bytes_aa : List ℕ
bytes_aa = bytes_a ++ bytes_a

-- a to z
abbrev pub letters : List ℕ
letters =
    97 ∷ 98 ∷ 99 ∷ 100 ∷ 101 ∷ 102 ∷ 103 ∷ 104 ∷ 105 ∷ 106 ∷ 107 ∷ 108 ∷ 109 ∷ 110 ∷ 111 ∷ 112 ∷ 113 ∷ 114 ∷ 115 ∷ 116 ∷ 117 ∷ 118 ∷ 119 ∷ 120 ∷ 121 ∷ 122 ∷ []

-- X: the picture a to z; the rule `a`, picture, `b`, picture
abbrev pub bytes_x : List ℕ
bytes_x = 0x50 ∷ 0 ∷ 26 ∷ letters ++ 0x52 ∷ 0 ∷ 8 ∷ 0 ∷ 97 ∷ 1 ∷ 0 ∷ 0 ∷ 98 ∷ 1 ∷ 0 ∷ []

-- Y: the picture a to z; the rules picture, `1`; `a`, picture, `c`; `a`, `b`
abbrev pub bytes_y : List ℕ
bytes_y =
    0x50 ∷ 0 ∷ 26 ∷ letters ++ 0x52 ∷ 0 ∷ 4 ∷ 1 ∷ 0 ∷ 0 ∷ 49 ∷ 0x52 ∷ 0 ∷ 6 ∷ 0 ∷ 97 ∷ 1 ∷ 0 ∷ 0 ∷ 99 ∷ 0x52 ∷ 0 ∷ 4 ∷ 0 ∷ 97 ∷ 0 ∷ 98 ∷ []

-- ---- texts

abbrev pub aabab : List ℕ
aabab = 97 ∷ 97 ∷ 98 ∷ 97 ∷ 98 ∷ []

abbrev pub aabbx : List ℕ
aabbx = 97 ∷ 97 ∷ 98 ∷ 98 ∷ 120 ∷ []

abbrev pub aab1 : List ℕ
aab1 = 97 ∷ 97 ∷ 98 ∷ 49 ∷ []

-- ---- profiles

-- `aab1;ab 3`
abbrev pub aab1_ab_3 : List ℕ
aab1_ab_3 = aab1 ++ 59 ∷ 97 ∷ 98 ∷ 32 ∷ 51 ∷ []

-- `a 01`
abbrev pub a_01 : List ℕ
a_01 = 97 ∷ 32 ∷ 48 ∷ 49 ∷ []
