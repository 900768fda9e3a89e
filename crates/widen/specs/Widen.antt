-- What widening promises: the answer and every place of both buffers. Assumes nothing.
use Rattle.std.specs.Prelude.{Result, Ok, Err, ◌≡◌, ◌↔◌, cond, List, ℕ, ◌/◌, ◌%◌, ◌≤◌, ◌<◌, eqb, ltb, length, get_or}
use Rattle.sets.specs.Table.{row_words}
use Rattle.book.specs.Content.{table}
use Rattle.widen.specs.declared.Short.{Short}

-- what stands at place i: the old numbers are first of their rows' words, and all else is 0
abbrev pub widened_at : List ℕ → ℕ → ℕ
widened_at old i = cond (eqb (i % row_words) 0) (get_or old (i / row_words) 0) 0

-- the buffer of n places
unfoldable pub widened : ℕ → List ℕ → List ℕ
widened n old = table n (widened_at old)

-- the refusal of an old length
abbrev pub short : ℕ → Result Unit Short
short old = Err (record { needed = old })

-- whether a new buffer of this length has room for an old one
abbrev pub room_of : ℕ → ℕ → Result Unit Short
room_of old new = cond (ltb (new / row_words) old) (short old) (Ok tt)

-- the answer, from the lengths of the old buffers and of the new: live is judged first
abbrev pub widen_of : ℕ → ℕ → ℕ → ℕ → Result Unit Short
widen_of old_live old_out live out = cond (ltb (live / row_words) old_live) (short old_live) (room_of old_out out)

-- done exactly where each new buffer has room for its old one, and else refused with the old length of the first that has none
pub record Judged (old_live old_out live out : ℕ) : Type 0 where
  pub done : (widen_of old_live old_out live out ≡ Ok tt) ↔ ((old_live ≤ live / row_words) × (old_out ≤ out / row_words))
  pub live_short : live / row_words < old_live → widen_of old_live old_out live out ≡ short old_live
  pub out_short : old_live ≤ live / row_words → out / row_words < old_out → widen_of old_live old_out live out ≡ short old_out

abbrev pub LiveFirst : Type 0
LiveFirst = (old_live old_out live out : ℕ) → Judged old_live old_out live out

-- a new buffer after an answer: a refusal leaves it as it was
abbrev pub buffer_of : Result Unit Short → List ℕ → List ℕ → List ℕ
buffer_of (Ok done) old new = widened (length new) old
buffer_of (Err why) old new = new

-- the paper's number of a refusal, and its value
abbrev pub number : Short → ℕ
number why = 33

abbrev pub value : Short → ℕ
value why = why.needed

-- and of an answer
abbrev pub number_of : Result Unit Short → ℕ
number_of (Ok done) = 0
number_of (Err why) = number why

abbrev pub value_of : Result Unit Short → ℕ
value_of (Ok done) = 0
value_of (Err why) = value why
