-- What a read hands back, in the numbers of the paper: the symbols at fault, the largest book, and small books with their numbers. Assumes nothing.
use Rattle.std.specs.Prelude.{ℕ, ◌≤◌, ◌<◌, ◌≡◌, ◌≢◌, ◌↔◌, List, [], ◌∷◌, length, replicate}
use Rattle.format.specs.declared.Refusal.{Refusal}
use Rattle.format.specs.declared.Refusal.TheVariants.{UnknownKind, UndefinedPicture}
use Rattle.format.specs.Answers.{number, value, number_of, value_of}
use Rattle.book.specs.Content.{Content, nothing, record_of}
use Rattle.format.specs.Format.{means, refused, meaning_of}
use Rattle.format.specs.Lawful.{most_book}
use Rattle.format.specs.Which.{Faulty}
use Rattle.format.specs.Largest.{repeated, largest_book}
use Rattle.reader.specs.Handed.{read_of}

-- a read of s gives the number n and the value v
abbrev pub ReadGives : List ℕ → ℕ → ℕ → Type 0
ReadGives s n v = (number_of (read_of s).answer ≡ n) × (value_of (read_of s).answer ≡ v)

-- number 0, value 0, and the record holds a
pub record IsAccepted (s : List ℕ) (a : Content) : Type 0 where
  pub zero : number_of (read_of s).answer ≡ 0
  pub none : value_of (read_of s).answer ≡ 0
  pub held : (read_of s).book ≡ record_of a

-- the number of the refusal, 1 to 9 but for 4, or 17 or 18, and its value, and the record with no picture and no rule
pub record IsRefused (s : List ℕ) (r : Refusal) : Type 0 where
  pub named : number_of (read_of s).answer ≡ number r
  pub some : 1 ≤ number r
  pub not_four : number r ≢ 4
  pub later : 9 < number r → (17 ≤ number r) × (number r ≤ 18)
  pub placed : value_of (read_of s).answer ≡ value r
  pub empty : (read_of s).book ≡ record_of nothing

-- a book is accepted just where it means something, and refused just where that is its refusal
pub record Numbered (s : List ℕ) : Type 0 where
  pub accepted : (a : Content) → meaning_of s ≡ means a → IsAccepted s a
  pub refusal : (r : Refusal) → meaning_of s ≡ refused r → IsRefused s r
  pub zero : number_of (read_of s).answer ≡ 0 → (a : Content) × (meaning_of s ≡ means a)
  pub other : 1 ≤ number_of (read_of s).answer → (r : Refusal) × (meaning_of s ≡ refused r)

-- ---- symbols at fault

-- 17 and 18 are given just where a rule has a symbol at fault so, with the place of its first byte
abbrev pub WhichSymbol : Type 0
WhichSymbol = (s : List ℕ) (v : ℕ) → (ReadGives s 17 v ↔ Faulty s (UnknownKind v)) × (ReadGives s 18 v ↔ Faulty s (UndefinedPicture v))

-- ---- the largest book

-- the largest book is accepted, and has as many bytes as an accepted book may have
abbrev pub LargestAccepted : Type 0
LargestAccepted = (length largest_book ≡ most_book) × ReadGives largest_book 0 0

-- ---- small books

-- a book, with the number and the value of its answer
pub record SmallBook : Type 0 where
  pub bytes : List ℕ
  pub number : ℕ
  pub value : ℕ

-- the empty book, which is case 1 of the paper; the rule `a`; two pictures that share a byte and a rule; and a small book for each of the other refusals.
-- Those of 6 and 7 have kind 2 too; those of 17 and 18 a sound symbol and two at fault
abbrev pub small_books : List SmallBook
small_books =
    record { bytes = []; number = 9; value = 0 }
    ∷ record { bytes = 0x52 ∷ 0 ∷ 2 ∷ 0 ∷ 97 ∷ []; number = 0; value = 0 }
    ∷ record { bytes = 0x50 ∷ 0 ∷ 1 ∷ 97 ∷ 0x50 ∷ 0 ∷ 2 ∷ 97 ∷ 98 ∷ 0x52 ∷ 0 ∷ 4 ∷ 1 ∷ 0 ∷ 1 ∷ 1 ∷ []; number = 0; value = 0 }
    ∷ record { bytes = 0x52 ∷ 0 ∷ 2 ∷ 0 ∷ 97 ∷ 0x52 ∷ []; number = 1; value = 5 }
    ∷ record { bytes = 0x52 ∷ 0 ∷ 2 ∷ 0 ∷ 97 ∷ 0x51 ∷ 0 ∷ 0 ∷ []; number = 2; value = 5 }
    ∷ record { bytes = 0x52 ∷ 0 ∷ 2 ∷ 0 ∷ 97 ∷ 0x50 ∷ 0 ∷ 0 ∷ []; number = 3; value = 5 }
    ∷ record { bytes = repeated 17 (0x50 ∷ 0 ∷ 1 ∷ 97 ∷ []); number = 5; value = 64 }
    ∷ record { bytes = 0x50 ∷ 0 ∷ 1 ∷ 97 ∷ 0x52 ∷ 0 ∷ 1 ∷ 2 ∷ []; number = 6; value = 4 }
    ∷ record { bytes = 0x50 ∷ 0 ∷ 1 ∷ 97 ∷ 0x52 ∷ 0 ∷ 130 ∷ replicate 130 2; number = 7; value = 4 }
    ∷ record { bytes = repeated 257 (0x52 ∷ 0 ∷ 2 ∷ 0 ∷ 97 ∷ []); number = 8; value = 1280 }
    ∷ record { bytes = 0x50 ∷ 0 ∷ 1 ∷ 97 ∷ 0x52 ∷ 0 ∷ 6 ∷ 1 ∷ 0 ∷ 2 ∷ 0 ∷ 1 ∷ 1 ∷ []; number = 17; value = 9 }
    ∷ record { bytes = 0x50 ∷ 0 ∷ 1 ∷ 97 ∷ 0x52 ∷ 0 ∷ 6 ∷ 1 ∷ 0 ∷ 1 ∷ 1 ∷ 2 ∷ 0 ∷ []; number = 18; value = 9 }
    ∷ []

-- each is read so
abbrev pub EachReadSo : List SmallBook → Type 0
EachReadSo [] = Unit {0}
EachReadSo (c ∷ cs) = ReadGives c.bytes c.number c.value × EachReadSo cs
