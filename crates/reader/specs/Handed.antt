-- What a read hands back: the answer and the record. Assumes nothing.
use Rattle.std.specs.Prelude.{ℕ, List, Ok, Err}
use Rattle.book.specs.Content.{nothing, record_of}
use Rattle.format.specs.Format.{Meaning, means, refused, meaning_of}
use Rattle.reader.specs.declared.ReadBook.{ReadBook}

-- the record of what the book holds; of a refused one, that with no picture and no rule
unfoldable pub handed : Meaning → ReadBook
handed (means a) = record { answer = Ok tt; book = record_of a }
handed (refused r) = record { answer = Err r; book = record_of nothing }

-- the answer and the record for the bytes s
unfoldable pub read_of : List ℕ → ReadBook
read_of s = handed (meaning_of s)
