-- The numbers and the values that the paper gives to the answers of adding a profile. Assumes nothing.
use Rattle.std.specs.Prelude.{Result, Ok, Err, ℕ}
use Rattle.book.specs.Limits.{most_bytes}
use Rattle.shares.specs.Shares.{limit}
use Rattle.leaf_totals.specs.declared.AddRefusal.{AddRefusal}
use Rattle.leaf_totals.specs.declared.AddRefusal.TheVariants.{Full, TooLong, BadRows, BadLine, Damaged, Past}
use Rattle.leaf_totals.specs.Record.{most_profiles}

-- The paper's number of a refusal, and its value.
abbrev pub refusal_number : AddRefusal → ℕ
refusal_number Full = 21
refusal_number TooLong = 11
refusal_number (BadRows rows) = 12
refusal_number (BadLine at) = 15
refusal_number (Damaged at) = 13
refusal_number Past = 20

abbrev pub refusal_value : AddRefusal → ℕ
refusal_value Full = most_profiles
refusal_value TooLong = most_bytes
refusal_value (BadRows rows) = rows
refusal_value (BadLine at) = at
refusal_value (Damaged at) = at
refusal_value Past = limit

-- The number of an answer, and its value: 0 where the profile is added.
abbrev pub number_of : Result Unit AddRefusal → ℕ
number_of (Ok u) = 0
number_of (Err e) = refusal_number e

abbrev pub value_of : Result Unit AddRefusal → ℕ
value_of (Ok u) = 0
value_of (Err e) = refusal_value e
