-- Shares of a total in thousandths: each rounded down, then one more each to the largest remainders. Assumes nothing.
use Rattle.std.specs.Prelude.{Result, Ok, Err, Bool, cond, List, ◌≡◌, ℕ, ◌+◌, ◌-◌, ◌*◌, ◌/◌, ◌%◌, ◌≤◌, ◌<◌, ltb, eqb, get_or, replicate}
use Rattle.book.specs.Content.{table}
use Rattle.book.specs.Limits.{most_rules}
use Rattle.shares.specs.declared.Past.{Past}
use Rattle.shares.specs.declared.Shares.{Shares}
use Rattle.shares.specs.Below.{sum_below, one_if}
use Rattle.shares.specs.Ranks.{rank}

-- 256 families, and unnamed last
abbrev pub all_places : ℕ
all_places = most_rules + 1

-- the largest total that is shared
abbrev pub limit : ℕ
limit = 9007199254740991

-- the thousandths of t in a whole, rounded down, and the remainder
abbrev pub floor_of : ℕ → ℕ → ℕ
floor_of whole t = (1000 * t) / whole

abbrev pub remainder_of : ℕ → ℕ → ℕ
remainder_of whole t = (1000 * t) % whole

-- for n totals t 0, t 1, .. that add up to the whole
module _ (t : ℕ → ℕ) (n whole : ℕ) where
  -- the thousandths that rounding down leaves
  abbrev pub missing : ℕ
  missing = 1000 - sum_below (λ i. floor_of whole (t i)) n

  -- whether i gets one of them: fewer stand before it than there are
  abbrev pub gets_one : ℕ → Bool
  gets_one i = ltb (rank (λ j. remainder_of whole (t j)) n i) missing

  -- the share of i
  abbrev pub share_in : ℕ → ℕ
  share_in i = floor_of whole (t i) + one_if (gets_one i)

-- total i
abbrev pub amount_at : List ℕ → ℕ → ℕ
amount_at totals i = get_or totals i 0

-- all of them
abbrev pub total_of : List ℕ → ℕ
total_of totals = sum_below (amount_at totals) all_places

-- a whole to share: it is that of the totals, not 0, and within the limit
pub record ToShare (totals : List ℕ) (whole : ℕ) : Type 0 where
  pub is : whole ≡ total_of totals
  pub some : 0 < whole
  pub most : whole ≤ limit

-- The answer and the shares: all 0 where the whole is past the limit, or 0.
abbrev pub share_answer : List ℕ → Result Unit Past
share_answer totals = cond (ltb limit (total_of totals)) (Err (record {})) (Ok tt)

abbrev pub parts_shared : List ℕ → List ℕ
parts_shared totals =
    cond (ltb limit (total_of totals)) (replicate all_places 0)
    (cond (eqb (total_of totals) 0) (replicate all_places 0)
    (table all_places (share_in (amount_at totals) all_places (total_of totals))))

abbrev pub shares_of : List ℕ → Shares
shares_of totals = record { answer = share_answer totals; parts = parts_shared totals }

-- The paper's number of a refusal, and its value.
abbrev pub number : Past → ℕ
number past = 20

abbrev pub value : Past → ℕ
value past = limit

-- and of an answer
abbrev pub number_of : Result Unit Past → ℕ
number_of (Ok given) = 0
number_of (Err past) = number past

abbrev pub value_of : Result Unit Past → ℕ
value_of (Ok given) = 0
value_of (Err past) = value past
