-- A table of sets, row by row. Assumes nothing.
use Rattle.std.specs.Prelude.{List, ℕ, ◌*◌, take, drop}
use Rattle.sets.specs.Sets.{set_of}

-- how many words of the table a row has
abbrev pub row_words : ℕ
row_words = 4

-- the set of row i in a table with w words a row
unfoldable pub row_set : ℕ → List ℕ → ℕ → ℕ
row_set w table i = set_of (take w (drop (w * i) table))

-- the set of row i
unfoldable pub rules_at : List ℕ → ℕ → ℕ
rules_at table i = row_set row_words table i
