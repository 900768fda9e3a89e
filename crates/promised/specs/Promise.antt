-- What a build promises, in words of the book's meaning, its rules and its rows. Assumes nothing.
use Rattle.std.specs.Prelude.{List, ℕ, ◌≤◌, Result, Ok, Err}
use Rattle.rows.specs.Rows.{MoreThan}
use Rattle.meaning.specs.Rules.{Rules}
use Rattle.meaning.specs.Standing.{Same}
use Rattle.meaning.specs.Tables.{Five, Tables}
use Rattle.format.specs.declared.Refusal.{Refusal}
use Rattle.book.specs.Content.{Content}
use Rattle.format.specs.Answers.{number, value}
use Rattle.format.specs.Format.{Meaning, means, refused, meaning_of}
use Rattle.book.specs.Meant.{rules_of}
use Rattle.lent.specs.Lent.{lent, zeroed, AsLong}
use Rattle.promised.specs.declared.BuildRefusal.{BuildRefusal}
use Rattle.promised.specs.declared.BuildRefusal.TheVariants.{NoRoom, Book}

-- ---- the answer, its number and its value

-- the rows used, or why there are no tables
abbrev pub Built : Type 0
Built = Result ℕ BuildRefusal

-- the number of a refusal, and its value
abbrev pub number_why : BuildRefusal → ℕ
number_why (NoRoom n) = 10
number_why (Book why) = number why

abbrev pub value_why : BuildRefusal → ℕ
value_why (NoRoom n) = n
value_why (Book why) = value why

abbrev pub number_of : Built → ℕ
number_of (Ok n) = 0
number_of (Err why) = number_why why

abbrev pub value_of : Built → ℕ
value_of (Ok n) = n
value_of (Err why) = value_why why

-- ---- the promise

-- What the buffers come to, and the number and the value given, for the rules of a sound book: where its rows are at most those lent, 0 with how many
-- they are, and their tables; where there are more standings, 10 with the rows lent, and every entry 0.
pub data Builds (r : Rules) (old : Five) : Five → ℕ → ℕ → Type 0 where
  accepted : {n : ℕ} {b : Five} → n ≤ lent old → Tables r b n → AsLong old b → Builds r old b 0 n
  no_room : MoreThan (Same r) (lent old) → Builds r old (zeroed old) 10 (lent old)

-- The same for what the book's bytes mean: a refused book gives the reader's number and value, and leaves the buffers as found.
pub data Answers (old : Five) : Meaning → Five → ℕ → ℕ → Type 0 where
  builds : {a : Content} {b : Five} {i v : ℕ} → Builds (rules_of a) old b i v → Answers old (means a) b i v
  refuses : {why : Refusal} → Answers old (refused why) old (number why) (value why)

-- the answer x and the buffers b, for a book's bytes and the buffers lent
abbrev pub Promise : List ℕ → Five → Five → Built → Type 0
Promise bytes old b x = Answers old (meaning_of bytes) b (number_of x) (value_of x)
