-- The numbers and the values that the paper gives to the answers of a tally. Assumes nothing.
use Rattle.std.specs.Prelude.{Result, Ok, Err, ℕ}
use Rattle.book.specs.Limits.{most_bytes}
use Rattle.answers.specs.declared.TallyRefusal.{TallyRefusal}
use Rattle.answers.specs.declared.TallyRefusal.TheVariants.{TooLong, BadRows, FewSums, BadLine, Damaged}

-- The paper's number of a refusal, and its value.
abbrev pub refusal_number : TallyRefusal → ℕ
refusal_number TooLong = 11
refusal_number (BadRows rows) = 12
refusal_number (FewSums places) = 16
refusal_number (BadLine at) = 15
refusal_number (Damaged at) = 13

abbrev pub refusal_value : TallyRefusal → ℕ
refusal_value TooLong = most_bytes
refusal_value (BadRows rows) = rows
refusal_value (FewSums places) = places
refusal_value (BadLine at) = at
refusal_value (Damaged at) = at

-- The number of an answer, and its value: 0 where the tally is accepted.
abbrev pub number_of : Result Unit TallyRefusal → ℕ
number_of (Ok u) = 0
number_of (Err e) = refusal_number e

abbrev pub value_of : Result Unit TallyRefusal → ℕ
value_of (Ok u) = 0
value_of (Err e) = refusal_value e
