-- The lines of an answer, byte by byte, and how a buffer takes them. Assumes nothing.
use Rattle.std.specs.Prelude.{cond, List, [], ◌∷◌, ◌++◌, ◌≡◌, ℕ, zero, suc, ◌+◌, ◌-◌, ◌/◌, ◌%◌, min, ltb, eqb, length}
use Rattle.std.proofs.lemmas.List.Edits.{sets}

-- ---- a buffer

-- The bytes stand in the buffer from a place on, those that have room there, and all else is as it was; r is the place behind them.
pub record Puts (bytes before : List ℕ) (at : ℕ) (after : List ℕ) (r : ℕ) : Type 0 where
  pub filled : after ≡ sets before at bytes
  pub behind : r ≡ at + min (length bytes) (length before - at)

-- ---- a number

-- n in decimal, with at most k digits before its last
unfoldable pub numeral_in : ℕ → ℕ → List ℕ
numeral_in zero n = (48 + n % 10) ∷ []
numeral_in (suc k) n = cond (ltb n 10) ((48 + n) ∷ []) (numeral_in k (n / 10) ++ ((48 + n % 10) ∷ []))

-- a number of 64 bits in decimal
abbrev pub numeral : ℕ → List ℕ
numeral n = numeral_in 19 n

-- ---- a line

-- two numbers, each behind a word
abbrev pub pair_line : List ℕ → ℕ → List ℕ → ℕ → List ℕ
pair_line first a second b = first ++ numeral a ++ second ++ numeral b ++ (10 ∷ [])

-- `refused NUMBER VALUE`
abbrev pub refused_line : ℕ → ℕ → List ℕ
refused_line number value = pair_line (114 ∷ 101 ∷ 102 ∷ 117 ∷ 115 ∷ 101 ∷ 100 ∷ 32 ∷ []) number (32 ∷ []) value

-- `rows ROWS`
abbrev pub rows_line : ℕ → List ℕ
rows_line rows = (114 ∷ 111 ∷ 119 ∷ 115 ∷ 32 ∷ []) ++ numeral rows ++ (10 ∷ [])

-- of a build, by its number and value
abbrev pub built_line : ℕ → ℕ → List ℕ
built_line number value = cond (eqb number 0) (rows_line value) (refused_line number value)

-- ---- an answer

-- the line of a build and, where it is accepted, the lines of what came after it
abbrev pub answer_lines : ℕ → ℕ → List ℕ → List ℕ
answer_lines number value more = built_line number value ++ cond (eqb number 0) more []
