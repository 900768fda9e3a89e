-- A book as rules, which is what tables and walks are about: the rules of a content, and those of the arrays of a record. Assumes nothing.
use Rattle.std.specs.Prelude.{ℕ, ◌+◌, ◌*◌, ◌≡◌, Bool, List, [], get_or}
use Rattle.sets.specs.Sets.{has}
use Rattle.meaning.specs.Rules.{Rules, fits}
use Rattle.book.specs.declared.Book.{Book}
use Rattle.book.specs.Limits.{most_symbols}
use Rattle.book.specs.Content.{Content, member, table}

-- the rules of a book that holds a
abbrev pub rules_of : Content → Rules
rules_of a = record { rules = a.rules; member = λ p c. member c (get_or a.pictures p []) }

-- by the picture map, is the byte c a member of picture p: is p in the set of c
unfoldable pub member_in : List ℕ → ℕ → ℕ → Bool
member_in map p c = has (get_or map c 0) p

-- the n rules of a record's symbols, lengths and picture map
unfoldable pub rules_in : List ℕ → List ℕ → List ℕ → ℕ → Rules
rules_in symbols lengths map n = record {
  rules = table n (λ k. table (get_or lengths k 0) (λ j. get_or symbols (most_symbols * k + j) 0));
  member = member_in map;
}

-- the rules of a record
abbrev pub rules_held : Book → Rules
rules_held b = rules_in b.symbols b.lengths b.picture b.rules

-- t says whether the byte c fits the symbol s, whichever rules the map stands beside
abbrev pub SaysWhetherFits : List ℕ → ℕ → ℕ → Bool → Type 0
SaysWhetherFits map c s t = (symbols lengths : List ℕ) (n : ℕ) → t ≡ fits (rules_in symbols lengths map n) c s
