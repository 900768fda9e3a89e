-- The limits of the paper, as `Book` has them; `Book::empty` promises that they are the same. Assumes nothing.
use Rattle.std.specs.Prelude.{ℕ, ◌*◌}

-- the most pictures of a book
abbrev pub most_pictures : ℕ
most_pictures = 16

-- the most rules of a book
abbrev pub most_rules : ℕ
most_rules = 256

-- the most symbols of a rule
abbrev pub most_symbols : ℕ
most_symbols = 64

-- room for the symbols of all rules
abbrev pub places : ℕ
places = most_rules * most_symbols

-- the most rows of tables
abbrev pub most_rows : ℕ
most_rows = 4096

-- the most bytes of a text or a profile
abbrev pub most_bytes : ℕ
most_bytes = 1048576
