-- The number and the value that the paper gives to each answer of the reader. Assumes nothing.
use Rattle.std.specs.Prelude.{ℕ}
use Rattle.format.specs.declared.Refusal.{Refusal}
use Rattle.std.specs.Prelude.{Result, Ok, Err}
use Rattle.format.specs.declared.Refusal.TheVariants.{Cut, OtherTag, PictureBody, PictureMany, RuleBody, RuleLong, RuleMany, NoRule, UnknownKind, UndefinedPicture}

-- the number of a refusal
abbrev pub number : Refusal → ℕ
number (Cut at) = 1
number (OtherTag at) = 2
number (PictureBody at) = 3
number (PictureMany at) = 5
number (RuleBody at) = 6
number (RuleLong at) = 7
number (RuleMany at) = 8
number (NoRule n) = 9
number (UnknownKind at) = 17
number (UndefinedPicture at) = 18

-- the value of a refusal: the field's offset, the book's length, or the offset of a symbol's first byte
abbrev pub value : Refusal → ℕ
value (Cut at) = at
value (OtherTag at) = at
value (PictureBody at) = at
value (PictureMany at) = at
value (RuleBody at) = at
value (RuleLong at) = at
value (RuleMany at) = at
value (NoRule n) = n
value (UnknownKind at) = at
value (UndefinedPicture at) = at

-- ---- an answer

-- the answer to a book, a field or a symbol: nothing more, or why it is refused
abbrev pub Answer : Type 0
Answer = Result (Unit {0}) Refusal

-- the number of an answer: 0 where the book is accepted
abbrev pub number_of : Answer → ℕ
number_of (Ok u) = 0
number_of (Err r) = number r

-- the value of an answer: 0 where the book is accepted
abbrev pub value_of : Answer → ℕ
value_of (Ok u) = 0
value_of (Err r) = value r
