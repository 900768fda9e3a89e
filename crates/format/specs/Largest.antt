-- The largest book. Assumes nothing.
use Rattle.std.specs.Prelude.{List, [], ◌∷◌, ◌++◌, ℕ, zero, suc}
use Rattle.book.specs.Limits.{most_pictures, most_rules, most_symbols}
use Rattle.book.specs.Content.{table}

-- n times l, one after the other
unfoldable pub repeated : ℕ → List ℕ → List ℕ
repeated zero l = []
repeated (suc n) l = l ++ repeated n l

-- a picture of all bytes
abbrev pub all_bytes : List ℕ
all_bytes = 0x50 ∷ 1 ∷ 0 ∷ table 256 (λ c. c)

-- a rule as long as it may be, whose symbols are all the last picture
abbrev pub long_rule : List ℕ
long_rule = 0x52 ∷ 0 ∷ 128 ∷ repeated most_symbols (1 ∷ 15 ∷ [])

-- as many of both as there may be
abbrev pub largest_book : List ℕ
largest_book = repeated most_pictures all_bytes ++ repeated most_rules long_rule
