-- What is so of every accepted book: what it holds is sound, the number of its bytes, and its rules are those of the record. Assumes nothing.
use Rattle.std.specs.Prelude.{ℕ, ◌+◌, ◌*◌, ◌≤◌, ◌<◌, ◌≡◌, List, length, get_or}
use Rattle.sets.specs.Sums.{sum_over}
use Rattle.rows.specs.Rows.{ByteText}
use Rattle.book.specs.declared.Book.{Book}
use Rattle.book.specs.Limits.{most_pictures, most_rules, most_symbols}
use Rattle.book.specs.Content.{Content, record_of}
use Rattle.book.specs.Grown.{symbols_of}
use Rattle.book.specs.Sound.{Sound}
use Rattle.book.specs.Meant.{rules_of, rules_held}
use Rattle.format.specs.Format.{goes, rule_field, means, meaning_of}

-- ---- the number of bytes

-- the bytes of a picture's field: a tag, two bytes of length, the members
abbrev pub picture_bytes : List ℕ → ℕ
picture_bytes m = 3 + length m

-- the bytes of a rule's field: a tag, two bytes of length, two bytes for each symbol
abbrev pub rule_bytes : List ℕ → ℕ
rule_bytes r = 3 + 2 * length r

-- the bytes of a book that holds a
abbrev pub bytes_of : Content → ℕ
bytes_of a = sum_over picture_bytes a.pictures + sum_over rule_bytes a.rules

-- the most bytes of a book: as many fields of each kind as there may be, each as long as it may be
abbrev pub most_book : ℕ
most_book = most_pictures * (3 + 256) + most_rules * (3 + 2 * most_symbols)

-- ---- the laws

-- what is so of the bytes s and the content a of an accepted book
pub record Lawful (s : List ℕ) (a : Content) : Type 0 where
  pub sound : Sound a
  pub some_rule : 0 < length a.rules
  pub whole : length s ≡ bytes_of a
  pub small : length s ≤ most_book

-- every accepted book is lawful
abbrev pub AcceptedIsLawful : Type 0
AcceptedIsLawful = (s : List ℕ) → ByteText s → (a : Content) → meaning_of s ≡ means a → Lawful s a

-- a symbol of a rule that is read after a is a byte, or a picture of a: one that stands earlier
abbrev pub NamedEarlier : Type 0
NamedEarlier = (at e e' : ℕ) (a b : Content) (l : List ℕ) → ByteText l → rule_field at e a l ≡ goes e' b → (j : ℕ) → get_or (symbols_of l) j 0 < 256 + length a.pictures

-- the paper's number of bytes
abbrev pub MostBook : Type 0
MostBook = most_book ≡ 37680

-- ---- the record

-- the bytes s are accepted with the record b, whose rules are those of what the book holds
pub record Accepting (s : List ℕ) (b : Book) : Type 0 where
  pub content : Content
  pub meant : meaning_of s ≡ means content
  pub lawful : Lawful s content
  pub held : b ≡ record_of content
  pub same : rules_held b ≡ rules_of content
  pub few : b.rules ≤ most_rules
  pub short : (k : ℕ) → get_or b.lengths k 0 ≤ most_symbols
