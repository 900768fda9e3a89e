-- The paper's numbers to check by, as one table: cases 1 to 12, each of the promises and the definitions, from the books' bytes. Assumes nothing.
use Rattle.std.specs.Prelude.{◌≡◌, List, [], ◌∷◌, ◌≢◌, ℕ, ◌≤◌, length, take, drop, set, replicate}
use Rattle.sets.specs.Table.{row_words}
use Rattle.meaning.specs.Tables.{Five}
use Rattle.book.specs.Limits.{most_rules, most_rows}
use Rattle.lent.specs.Lent.{five, lent, zeroed}
use Rattle.promised.specs.Promise.{Built, number_of, value_of, Promise}
use Rattle.listed.specs.Demands.{WalkCall, reports_after, WalkAnswers}
use Rattle.summed.specs.Totals.{TallyCall, sums_after, TallyAnswers}
use Rattle.numbers.specs.Inputs.{bytes_a, bytes_aa, bytes_x, bytes_y, aabab, aabbx, aab1, aab1_ab_3, a_01}

-- ---- the table

-- what a build leaves: the buffers as found, every entry 0, or tables whose held and fall begin so
pub data Left : Type 0 where
  found : Left
  cleared : Left
  tables : List ℕ → List ℕ → Left

pub data Case : Type 0 where
  -- a book and the rows lent, from the fewest to the most (no buffers lend more than `most_rows`); the number and the value of the build's answer, and what it leaves
  build : List ℕ → ℕ → ℕ → ℕ → ℕ → Left → Case
  -- a book, a text and a report buffer; the number and the values of the walk's answer, and the report buffer after it
  walk : List ℕ → List ℕ → List ℕ → ℕ → List ℕ → List ℕ → Case
  -- the same for a walk over one row of zeros but for its entry at `a`, which is given
  row : ℕ → List ℕ → List ℕ → ℕ → List ℕ → List ℕ → Case
  -- a book and a profile; the number and the value of the tally's answer, and the sums
  tally : List ℕ → List ℕ → ℕ → ℕ → List ℕ → Case
  -- a profile; the number and the value of the tally's refusal, whichever tables it is over
  refusal : List ℕ → ℕ → ℕ → Case

abbrev pub cases : List Case
cases =
    -- 1: the empty book, whichever rows are lent
    build [] 0 most_rows 9 0 found
    -- 2: the rule a, with rows enough and with one row
    ∷ build bytes_a 2 most_rows 0 2 (tables (0 ∷ 1 ∷ []) (0 ∷ 0 ∷ []))
    ∷ build bytes_a 1 1 10 1 cleared
    -- 3: X
    ∷ build bytes_x 9 most_rows 0 9 (tables (0 ∷ 1 ∷ 2 ∷ 2 ∷ 3 ∷ 3 ∷ 4 ∷ 4 ∷ 4 ∷ []) (0 ∷ 0 ∷ 1 ∷ 0 ∷ 3 ∷ 0 ∷ 1 ∷ 5 ∷ 0 ∷ []))
    -- 4: Y
    ∷ build bytes_y 9 most_rows 0 9 (tables (0 ∷ 1 ∷ 1 ∷ 2 ∷ 2 ∷ 2 ∷ 2 ∷ 3 ∷ 3 ∷ []) (0 ∷ 0 ∷ 0 ∷ 0 ∷ 1 ∷ 2 ∷ 2 ∷ 6 ∷ 2 ∷ []))
    -- 5: X on aabab
    ∷ walk bytes_x aabab (7 ∷ 7 ∷ 7 ∷ []) 0 (1 ∷ 1 ∷ 2 ∷ []) (4 ∷ 0 ∷ 7 ∷ [])
    -- 6: X on aabbx
    ∷ walk bytes_x aabbx (7 ∷ 7 ∷ 7 ∷ 7 ∷ []) 0 (2 ∷ 1 ∷ 4 ∷ []) (4 ∷ 0 ∷ 5 ∷ 0 ∷ [])
    -- 7: Y on aab1, and with room for one report
    ∷ walk bytes_y aab1 (7 ∷ 7 ∷ 7 ∷ 7 ∷ []) 0 (2 ∷ 2 ∷ 2 ∷ []) (3 ∷ 2 ∷ 4 ∷ 0 ∷ [])
    ∷ walk bytes_y aab1 (7 ∷ 7 ∷ 7 ∷ []) 14 (2 ∷ []) (7 ∷ 7 ∷ 7 ∷ [])
    -- 8: two rules a, on a
    ∷ walk bytes_aa (97 ∷ []) (7 ∷ 7 ∷ 7 ∷ 7 ∷ []) 0 (2 ∷ 0 ∷ 1 ∷ []) (1 ∷ 0 ∷ 1 ∷ 1 ∷ [])
    -- 9: X on the empty text
    ∷ walk bytes_x [] (7 ∷ 7 ∷ []) 0 (0 ∷ 0 ∷ 0 ∷ []) (7 ∷ 7 ∷ [])
    -- 10: N = 1, all tables 0, on a; and with 65535 at row 0, a
    ∷ row 0 (97 ∷ []) (7 ∷ 7 ∷ []) 0 (0 ∷ 0 ∷ 0 ∷ []) (7 ∷ 7 ∷ [])
    ∷ row 65535 (97 ∷ []) (7 ∷ 7 ∷ []) 13 (0 ∷ []) (7 ∷ 7 ∷ [])
    -- 11: Y on aab1;ab 3
    ∷ tally bytes_y aab1_ab_3 0 0 (3 ∷ 0 ∷ 3 ∷ replicate 253 0)
    -- 12: a 01
    ∷ refusal a_01 15 0
    ∷ []

-- ---- what it says

abbrev pub Leaves : Left → Five → Five → Type 0
Leaves found old b = b ≡ old
Leaves cleared old b = b ≡ zeroed old
Leaves (tables held fall) old b = (take (length held) b.held ≡ held) × (take (length fall) b.fall ≡ fall)

-- an answer and buffers that keep the promise of a build are these
pub record Answered (old b : Five) (x : Built) (number value : ℕ) (left : Left) : Type 0 where
  pub number_is : number_of x ≡ number
  pub value_is : value_of x ≡ value
  pub leaves : Leaves left old b

-- a call of the walk gives this answer and this report buffer
pub record Gives (w : WalkCall) (number : ℕ) (values buffer : List ℕ) : Type 0 where
  pub answers : WalkAnswers w number values
  pub leaves : reports_after w ≡ buffer

-- a call of the tally gives this answer and these sums, and later places are as found
pub record Adds (w : TallyCall) (number value : ℕ) (sums : List ℕ) : Type 0 where
  pub answers : TallyAnswers w number value
  pub sums_are : take most_rules (sums_after w) ≡ sums
  pub later_are : drop most_rules (sums_after w) ≡ drop most_rules w.sums

-- a call of the tally is refused so, and the whole sums buffer is as found
pub record Refused (w : TallyCall) (number value : ℕ) : Type 0 where
  pub answers : TallyAnswers w number value
  pub found : sums_after w ≡ w.sums

-- one row, with an entry at `a`
abbrev pub lone : ℕ → Five
lone e = five (set (replicate 256 0) 97 e) (0 ∷ []) (0 ∷ []) (replicate row_words 0) (replicate row_words 0)

-- A build: of all buffers lent and all that keeps the promise. A walk or a tally of a book: over whatever buffers a build of it left which gave 0, with the
-- value that it gave. A tally: with any sums buffer of at least 256 places; one that is refused for its profile, over any tables with some rows that are lent.
abbrev pub Holds : Case → Type 0
Holds (build bytes fewest most number value left) = (old b : Five) (x : Built) → fewest ≤ lent old → lent old ≤ most → Promise bytes old b x
    → Answered old b x number value left
Holds (walk bytes text reports number values buffer) = (old b : Five) (x : Built) → Promise bytes old b x → number_of x ≡ 0
    → Gives (record { tables = b; n = value_of x; text = text; reports = reports }) number values buffer
Holds (row e text reports number values buffer) = Gives (record { tables = lone e; n = 1; text = text; reports = reports }) number values buffer
Holds (tally bytes profile number value sums) = (old b : Five) (x : Built) → Promise bytes old b x → number_of x ≡ 0 → (buffer : List ℕ) → most_rules ≤ length buffer
    → Adds (record { tables = b; n = value_of x; profile = profile; sums = buffer }) number value sums
Holds (refusal profile number value) = (b : Five) (n : ℕ) (buffer : List ℕ) → n ≢ 0 → n ≤ lent b → most_rules ≤ length buffer
    → Refused (record { tables = b; n = n; profile = profile; sums = buffer }) number value

pub data All : List Case → Type 0 where
  none : All []
  also : {k : Case} {ks : List Case} → Holds k → All ks → All (k ∷ ks)
