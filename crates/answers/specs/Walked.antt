-- The numbers and the values that the paper gives to the answers of a walk. Assumes nothing.
use Rattle.std.specs.Prelude.{Result, Ok, Err, List, [], ◌∷◌, ℕ, get_or}
use Rattle.book.specs.Limits.{most_bytes}
use Rattle.answers.specs.declared.Walked.{Walked}
use Rattle.answers.specs.declared.WalkRefusal.{WalkRefusal}
use Rattle.answers.specs.declared.WalkRefusal.TheVariants.{TooLong, BadRows, Damaged, NoRoom}

-- The paper's number of a refusal, and its value.
abbrev pub refusal_number : WalkRefusal → ℕ
refusal_number TooLong = 11
refusal_number (BadRows n) = 12
refusal_number (Damaged at) = 13
refusal_number (NoRoom made) = 14

abbrev pub refusal_value : WalkRefusal → ℕ
refusal_value TooLong = most_bytes
refusal_value (BadRows n) = n
refusal_value (Damaged at) = at
refusal_value (NoRoom made) = made

-- The number of an answer, and its values: three where the walk is accepted.
abbrev pub number_of : Result Walked WalkRefusal → ℕ
number_of (Ok w) = 0
number_of (Err e) = refusal_number e

abbrev pub values_of : Result Walked WalkRefusal → List ℕ
values_of (Ok w) = w.reports ∷ w.falls ∷ w.held ∷ []
values_of (Err e) = refusal_value e ∷ []

-- the first of them
abbrev pub value_of : Result Walked WalkRefusal → ℕ
value_of a = get_or (values_of a) 0 0
