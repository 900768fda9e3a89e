-- What is proved of a build's promise: when a book is refused for room, and that the promise determines everything. Assumes nothing.
use Rattle.std.specs.Prelude.{◌≡◌, ◌⊎◌, ◌↔◌, List, ℕ, ◌^◌, ◌<◌, get_or}
use Rattle.rows.specs.Rows.{MoreThan, AtMost}
use Rattle.meaning.specs.Rules.{Rules}
use Rattle.meaning.specs.Standing.{Same}
use Rattle.meaning.specs.Tables.{Five}
use Rattle.book.specs.Content.{Content}
use Rattle.format.specs.Format.{means, meaning_of}
use Rattle.book.specs.Meant.{rules_of}
use Rattle.lent.specs.Lent.{lent}
use Rattle.promised.specs.Promise.{Built, number_of, value_of, Promise}

-- a call of build that keeps its promise
pub record BuildCall : Type 0 where
  pub bytes : List ℕ
  pub old : Five
  pub new : Five
  pub answer : Built
  pub promise : Promise bytes old new answer

-- the bytes are a sound book's, which has more than n standings, or at most n
pub record Crowded (bytes : List ℕ) (n : ℕ) : Type 0 where
  pub content : Content
  pub sound : meaning_of bytes ≡ means content
  pub more : MoreThan (Same (rules_of content)) n

pub record Fitting (bytes : List ℕ) (n : ℕ) : Type 0 where
  pub content : Content
  pub sound : meaning_of bytes ≡ means content
  pub rows : AtMost (Same (rules_of content)) n

-- 10 is given exactly when more rows are needed than lent, with the rows lent; 0 exactly when they suffice
pub record Exactly (c : BuildCall) : Type 0 where
  pub no_room : (number_of c.answer ≡ 10) ↔ Crowded c.bytes (lent c.old)
  pub room_value : number_of c.answer ≡ 10 → value_of c.answer ≡ lent c.old
  pub accepted : (number_of c.answer ≡ 0) ↔ Fitting c.bytes (lent c.old)

abbrev pub RoomExactly : Type 0
RoomExactly = (c : BuildCall) → Exactly c

-- just one of the two
pub record JustOne (r : Rules) (n : ℕ) : Type 0 where
  pub one : AtMost (Same r) n ⊎ MoreThan (Same r) n
  pub not_both : AtMost (Same r) n → ¬ MoreThan (Same r) n

abbrev pub RowsOrMore : Type 0
RowsOrMore = (r : Rules) (n : ℕ) → JustOne r n

-- live and out are words of 64 bits, as the buffers lent are
pub record OfWords (b : Five) : Type 0 where
  pub live_words : (i : ℕ) → get_or b.live i 0 < 2 ^ 64
  pub out_words : (i : ℕ) → get_or b.out i 0 < 2 ^ 64

-- two answers and two sets of buffers that keep the promise are equal
abbrev pub OneOutcome : Type 0
OneOutcome = (c d : BuildCall) → c.bytes ≡ d.bytes → c.old ≡ d.old → OfWords c.new → OfWords d.new → (c.answer ≡ d.answer) × (c.new ≡ d.new)
