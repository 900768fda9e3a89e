-- What a rule book holds, as lists, and the record that holds it. Assumes nothing.
use Rattle.std.specs.Prelude.{ℕ, zero, suc, ◌*◌, ◌/◌, ◌%◌, Bool, false, ◌||◌, List, [], ◌∷◌, ◌++◌, length, get_or, eqb}
use Rattle.sets.specs.Sets.{set_where}
use Rattle.book.specs.declared.Book.{Book}
use Rattle.book.specs.Limits.{most_pictures, most_rules, most_symbols}

-- ---- the content

-- the member bytes of each picture, and the symbols of each rule, both in book order
pub record Content : Type 0 where
  pub pictures : List (List ℕ)
  pub rules : List (List ℕ)

-- no picture and no rule
abbrev pub nothing : Content
nothing = record { pictures = []; rules = [] }

-- one picture more, whose members are m
abbrev pub with_picture : Content → List ℕ → Content
with_picture a m = record { pictures = a.pictures ++ m ∷ []; rules = a.rules }

-- one rule more, whose symbols are r
abbrev pub with_rule : Content → List ℕ → Content
with_rule a r = record { pictures = a.pictures; rules = a.rules ++ r ∷ [] }

-- is the byte c among m
unfoldable pub member : ℕ → List ℕ → Bool
member c [] = false
member c (x ∷ m) = eqb c x || member c m

-- the pictures with the byte c, as a set: picture p at bit p
unfoldable pub pictures_with : List (List ℕ) → ℕ → ℕ
pictures_with ps c = set_where most_pictures (λ p. member c (get_or ps p []))

-- symbol j of rule k, 0 where there is none
abbrev pub symbol_at : List (List ℕ) → ℕ → ℕ → ℕ
symbol_at rs k j = get_or (get_or rs k []) j 0

-- ---- the record

-- f 0, f 1, .. : n of them
unfoldable pub table : {A : Type 0} → ℕ → (ℕ → A) → List A
table zero f = []
table (suc n) f = f zero ∷ table n (λ k. f (suc k))

-- n lists in w places each, one after the other: the elements of list k, and 0 after them
unfoldable pub padded : ℕ → ℕ → List (List ℕ) → List ℕ
padded n w rs = table (n * w) (λ i. symbol_at rs (i / w) (i % w))

-- the lengths of n lists, 0 where there is none
unfoldable pub sizes : ℕ → List (List ℕ) → List ℕ
sizes n rs = table n (λ k. length (get_or rs k []))

-- the pictures with each byte value
unfoldable pub map_of : List (List ℕ) → List ℕ
map_of ps = table 256 (pictures_with ps)

-- places for the symbols of each rule, each rule's length, the pictures with each byte value, and the two counts
unfoldable pub record_of : Content → Book
record_of a = record {
  symbols = padded most_rules most_symbols a.rules;
  lengths = sizes most_rules a.rules;
  picture = map_of a.pictures;
  pictures = length a.pictures;
  rules = length a.rules;
}
