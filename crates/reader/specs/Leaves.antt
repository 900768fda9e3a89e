-- What the reader's small functions make of the book, for their contracts only. Assumes nothing.
use Rattle.std.specs.Prelude.{ℕ, ◌≡◌, List, Result, Ok, Err}
use Rattle.book.specs.declared.Book.{Book}
use Rattle.book.specs.Content.{Content, record_of}
use Rattle.book.specs.Grown.{picture_more, rule_more}
use Rattle.format.specs.declared.Refusal.{Refusal}
use Rattle.format.specs.Answers.{Answer}
use Rattle.format.specs.Format.{Outcome, goes, stops, field_at, Meaning, means, refused, meaning_of}

-- a book after an answer: the new one where that is accepted, and what it was where not
abbrev pub if_accepted : Answer → Book → Book → Book
if_accepted (Ok u) old new = new
if_accepted (Err r) old new = old

-- the book after the answer to the next picture, whose body is m
abbrev pub picture_after : Answer → Book → List ℕ → Book
picture_after r b m = if_accepted r b (picture_more b m)

-- the book after the answer to the next rule, whose body is l
abbrev pub rule_after : Answer → Book → List ℕ → Book
rule_after r b l = if_accepted r b (rule_more b l)

-- where a field was found to end, with the book then, shows an outcome
abbrev pub Shows : Result ℕ Refusal → Book → Outcome → Type 0
Shows r b (goes e a) = (r ≡ Ok e) × (b ≡ record_of a)
Shows r b (stops x) = r ≡ Err x

-- from a book that holds a content, r and the book then show what the field at a place leads to
abbrev pub TakesField : Book → List ℕ → ℕ → Result ℕ Refusal → Book → Type 0
TakesField b s at r b' = (a : Content) → b ≡ record_of a → Shows r b' (field_at s at a)

-- an answer, with the book then, shows a meaning
abbrev pub TakenIs : Answer → Book → Meaning → Type 0
TakenIs r b (means a) = (r ≡ Ok tt) × (b ≡ record_of a)
TakenIs r b (refused x) = r ≡ Err x

-- r and the book then show what the bytes s mean
abbrev pub TakesAll : List ℕ → Answer → Book → Type 0
TakesAll s r b = TakenIs r b (meaning_of s)
