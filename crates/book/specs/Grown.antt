-- What a picture or a rule more makes of a record, and of its arrays. Assumes nothing.
use Rattle.std.specs.Prelude.{ℕ, ◌+◌, ◌*◌, ◌/◌, Bool, ◌&&◌, cond, List, [], ◌∷◌, length, get_or, set, leb, ltb}
use Rattle.std.proofs.lemmas.List.Edits.{sets}
use Rattle.sets.specs.Sets.{adding}
use Rattle.book.specs.declared.Book.{Book}
use Rattle.book.specs.Limits.{most_pictures, most_rules, most_symbols}

-- the map with p in the set of each byte of m; as it was where there is no picture p
unfoldable pub mark : ℕ → List ℕ → List ℕ → List ℕ
mark p map [] = map
mark p map (c ∷ m) = mark p (set map c (adding most_pictures (get_or map c 0) p)) m

-- the symbols of a body: 256 times the kind plus the second byte
unfoldable pub symbols_of : List ℕ → List ℕ
symbols_of [] = []
symbols_of (k ∷ []) = []
symbols_of (k ∷ b ∷ l) = (256 * k + b) ∷ symbols_of l

-- a book may have a rule n, and a rule the symbols of the body l
unfoldable pub has_room : ℕ → List ℕ → Bool
has_room n l = ltb n most_rules && leb (length l) (2 * most_symbols)

-- the places for symbols with those of rule n, whose body is l; as they were where it has no room
unfoldable pub symbols_with : List ℕ → ℕ → List ℕ → List ℕ
symbols_with symbols n l = cond (has_room n l) (sets symbols (most_symbols * n) (symbols_of l)) symbols

-- the lengths with that of rule n, whose body is l; as they were where it has no room
unfoldable pub lengths_with : List ℕ → ℕ → List ℕ → List ℕ
lengths_with lengths n l = cond (has_room n l) (set lengths n (length l / 2)) lengths

-- ---- the record

-- the book with one picture more, whose bytes are m; as it was where it has no room
unfoldable pub picture_more : Book → List ℕ → Book
picture_more b m = cond (ltb b.pictures most_pictures) (record b { picture = mark b.pictures b.picture m; pictures = b.pictures + 1 }) b

-- the book with one rule more, whose body is l; as it was where it has no room
unfoldable pub rule_more : Book → List ℕ → Book
rule_more b l =
    cond (has_room b.rules l)
    (record b { symbols = symbols_with b.symbols b.rules l; lengths = lengths_with b.lengths b.rules l; rules = b.rules + 1 })
    b
