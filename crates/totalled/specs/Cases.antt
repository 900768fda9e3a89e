-- Leaf totals by numbers: a book, profiles and records as they are handed over, and what adding comes to. Assumes nothing.
use Rattle.std.specs.Prelude.{List, [], ◌∷◌, ◌++◌, ◌≢◌, ◌≡◌, ℕ, ◌≤◌, ◌<◌, length, get_or, replicate}
use Rattle.meaning.specs.Tables.{Five}
use Rattle.lent.specs.Lent.{five, lent}
use Rattle.promised.specs.Promise.{number_of as number_built, value_of as value_built, Built, Promise}
use Rattle.shares.specs.Shares.{number_of as number_shared, value_of as value_shared}
use Rattle.leaf_totals.specs.declared.LeafTotals.{LeafTotals}
use Rattle.leaf_totals.specs.Record.{empty_totals}
use Rattle.leaves.specs.Totals.{shares_in}
use Rattle.totalled.specs.Adding.{AddCall, record_left, AddAnswers}

-- ---- the book

-- the rules `b`, `ab`, `abc`, and `ab` again
abbrev pub four_rules : List ℕ
four_rules =
    0x52 ∷ 0 ∷ 2 ∷ 0 ∷ 98
    ∷ 0x52 ∷ 0 ∷ 4 ∷ 0 ∷ 97 ∷ 0 ∷ 98
    ∷ 0x52 ∷ 0 ∷ 6 ∷ 0 ∷ 97 ∷ 0 ∷ 98 ∷ 0 ∷ 99
    ∷ 0x52 ∷ 0 ∷ 4 ∷ 0 ∷ 97 ∷ 0 ∷ 98 ∷ []

-- ---- profiles

-- six lines: `x;ab 3`, whose leaf two rules fit; `b 2`; `q;abc 5`; `ab;xb 7`, whose leaf a rule only ends; `ab;zz 11`; and `ab; 13`, whose leaf is empty
abbrev pub six_leaves : List ℕ
six_leaves =
    120 ∷ 59 ∷ 97 ∷ 98 ∷ 32 ∷ 51 ∷ 10
    ∷ 98 ∷ 32 ∷ 50 ∷ 10
    ∷ 113 ∷ 59 ∷ 97 ∷ 98 ∷ 99 ∷ 32 ∷ 53 ∷ 10
    ∷ 97 ∷ 98 ∷ 59 ∷ 120 ∷ 98 ∷ 32 ∷ 55 ∷ 10
    ∷ 97 ∷ 98 ∷ 59 ∷ 122 ∷ 122 ∷ 32 ∷ 49 ∷ 49 ∷ 10
    ∷ 97 ∷ 98 ∷ 59 ∷ 32 ∷ 49 ∷ 51 ∷ 10 ∷ []

-- three lines: `ab 4`, `zz 4`, `b 1`
abbrev pub three_leaves : List ℕ
three_leaves = 97 ∷ 98 ∷ 32 ∷ 52 ∷ 10 ∷ 122 ∷ 122 ∷ 32 ∷ 52 ∷ 10 ∷ 98 ∷ 32 ∷ 49 ∷ 10 ∷ []

-- `b 1`
abbrev pub b_1 : List ℕ
b_1 = 98 ∷ 32 ∷ 49 ∷ []

-- `b 2`
abbrev pub b_2 : List ℕ
b_2 = 98 ∷ 32 ∷ 50 ∷ []

-- `ab 01`
abbrev pub ab_01 : List ℕ
ab_01 = 97 ∷ 98 ∷ 32 ∷ 48 ∷ 49 ∷ []

-- `a 1`; `b;xa 1`; `a;b 1`, whose leaf has no `a`; `; 5`, whose leaf is empty
abbrev pub a_1 : List ℕ
a_1 = 97 ∷ 32 ∷ 49 ∷ []

abbrev pub b_xa_1 : List ℕ
b_xa_1 = 98 ∷ 59 ∷ 120 ∷ 97 ∷ 32 ∷ 49 ∷ []

abbrev pub a_b_1 : List ℕ
a_b_1 = 97 ∷ 59 ∷ 98 ∷ 32 ∷ 49 ∷ []

abbrev pub empty_5 : List ℕ
empty_5 = 59 ∷ 32 ∷ 53 ∷ []

-- a leaf of 257 times `b`, and the count 1
abbrev pub b257_1 : List ℕ
b257_1 = replicate 257 98 ++ 32 ∷ 49 ∷ []

-- ---- tables that no build left

-- one row of zeros, but for its entry at `a`, its held length, and its live and its out, which are the same set
abbrev pub one_row : ℕ → ℕ → ℕ → Five
one_row entry held set = five (replicate 97 0 ++ entry ∷ replicate 158 0) (0 ∷ []) (held ∷ []) (set ∷ 0 ∷ 0 ∷ 0 ∷ []) (set ∷ 0 ∷ 0 ∷ 0 ∷ [])

-- ---- records

-- one with these totals in its first four places, and 0 in the others
abbrev pub four_totals : ℕ → ℕ → ℕ → ℕ → ℕ → ℕ → LeafTotals
four_totals a b c d unnamed profiles = record { totals = a ∷ b ∷ c ∷ d ∷ replicate 252 0; unnamed = unnamed; profiles = profiles }

-- ---- the table

pub data LeafCase : Type 0 where
  -- a profile and the record that it is added to, over the book's tables; then the first totals after it, unnamed, and how many profiles; then the first
  -- shares, and that of unnamed
  adds : List ℕ → LeafTotals → List ℕ → ℕ → ℕ → List ℕ → ℕ → LeafCase
  -- a profile and a record; the number and the value of the refusal over the book's tables
  refuses : List ℕ → LeafTotals → ℕ → ℕ → LeafCase
  -- a profile; the number and the value of the refusal, whichever tables it is over and whichever record it is for, if that is not full
  breaks : List ℕ → ℕ → ℕ → LeafCase
  -- how many profiles a record has; the number and the value of the refusal, whatever else is handed over: also a profile that is too long or has a line that
  -- breaks the rules, and rows that are none or not lent
  full : ℕ → ℕ → ℕ → LeafCase
  -- a record; the number and the value of the answer when its shares are asked for, which are all 0
  unshared : LeafTotals → ℕ → ℕ → LeafCase
  -- how many bytes a profile has; the number and the value of the refusal, whatever else is handed over, if the record is not full
  long : ℕ → ℕ → ℕ → LeafCase
  -- how many rows are asked for, of tables that lend none; the number and the value of the refusal of any profile that is not too long for any record that is
  -- not full
  rows : ℕ → ℕ → ℕ → LeafCase
  -- one row and a profile; the number and the value of the refusal for any record that is not full
  loses : Five → List ℕ → ℕ → ℕ → LeafCase
  -- one row and a profile; the first total and unnamed after it is added to an empty record
  credits : Five → List ℕ → ℕ → ℕ → LeafCase

abbrev pub leaf_cases : List LeafCase
leaf_cases =
    -- of two missing thousandths one goes to rule 2 and one to rule 0
    adds six_leaves empty_totals (2 ∷ 3 ∷ 5 ∷ 0 ∷ []) 31 1 (49 ∷ 73 ∷ 122 ∷ 0 ∷ []) 756
    -- rule 1 and unnamed have equal remainders
    ∷ adds three_leaves empty_totals (1 ∷ 4 ∷ 0 ∷ 0 ∷ []) 4 1 (111 ∷ 445 ∷ 0 ∷ 0 ∷ []) 444
    -- one after the other
    ∷ adds three_leaves (four_totals 2 3 5 0 31 1) (3 ∷ 7 ∷ 5 ∷ 0 ∷ []) 35 2 (60 ∷ 140 ∷ 100 ∷ 0 ∷ []) 700
    -- the limit, and one more
    ∷ adds b_1 (four_totals 0 0 0 0 9007199254740990 1) (1 ∷ 0 ∷ 0 ∷ 0 ∷ []) 9007199254740990 2 (0 ∷ 0 ∷ 0 ∷ 0 ∷ []) 1000
    ∷ refuses b_2 (four_totals 0 0 0 0 9007199254740990 1) 20 9007199254740991
    -- the last profile that a record takes, and one more
    ∷ adds b_1 (four_totals 0 0 0 0 0 1023) (1 ∷ 0 ∷ 0 ∷ 0 ∷ []) 0 1024 (1000 ∷ 0 ∷ 0 ∷ 0 ∷ []) 0
    ∷ full 1024 21 1024
    -- a profile without lines is one more, and of nothing all shares are 0; past the limit it is refused too
    ∷ adds [] empty_totals (0 ∷ 0 ∷ 0 ∷ 0 ∷ []) 0 1 (0 ∷ 0 ∷ 0 ∷ 0 ∷ []) 0
    ∷ refuses [] (four_totals 0 0 0 0 9007199254740992 1) 20 9007199254740991
    -- one past the limit, and a record whose numbers would wrap to 0
    ∷ unshared (four_totals 0 0 0 0 9007199254740992 1) 20 9007199254740991
    ∷ unshared (four_totals 9223372036854775808 9223372036854775808 0 0 0 1) 20 9007199254740991
    -- a count with a zero in front, on the first line and on the second
    ∷ breaks ab_01 15 0
    ∷ breaks (b_2 ++ 10 ∷ ab_01) 15 4
    -- a byte too many, and no rows
    ∷ long 1048577 11 1048576
    ∷ rows 0 12 0
    ∷ rows 1 12 1
    -- an entry that no build writes, in a leaf; the offset is that in the profile
    ∷ loses (one_row 65535 0 0) a_1 13 0
    ∷ loses (one_row 65535 0 0) b_xa_1 13 3
    -- in another frame it is not met
    ∷ credits (one_row 65535 0 0) a_b_1 0 1
    -- over such tables an empty leaf may have a family, and a leaf of 257 bytes is not one of 1
    ∷ credits (one_row 0 0 1) empty_5 5 0
    ∷ credits (one_row 0 1 1) b_1 1 0
    ∷ credits (one_row 0 1 1) b257_1 0 1
    ∷ []

-- ---- what it says

-- the call is accepted, and the record after it and the shares of that are these; totals and shares that are not listed are 0
pub record AddedSo (w : AddCall) (totals : List ℕ) (unnamed profiles : ℕ) (shares : List ℕ) (rest : ℕ) : Type 0 where
  pub answers : AddAnswers w 0 0
  pub totals_are : (p : ℕ) → p < 256 → get_or (record_left w).totals p 0 ≡ get_or totals p 0
  pub unnamed_is : (record_left w).unnamed ≡ unnamed
  pub profiles_are : (record_left w).profiles ≡ profiles
  pub given : (number_shared (shares_in (record_left w)).answer ≡ 0) × (value_shared (shares_in (record_left w)).answer ≡ 0)
  pub shares_are : (p : ℕ) → p < 256 → get_or (shares_in (record_left w)).parts p 0 ≡ get_or shares p 0
  pub rest_is : get_or (shares_in (record_left w)).parts 256 0 ≡ rest

-- it is refused so, and the record is as it was
pub record RefusedSo (w : AddCall) (number value : ℕ) : Type 0 where
  pub answers : AddAnswers w number value
  pub unaltered : record_left w ≡ w.old

-- the shares of the record are not given, with this number and this value, and all are 0
pub record UnsharedSo (t : LeafTotals) (number value : ℕ) : Type 0 where
  pub number_is : number_shared (shares_in t).answer ≡ number
  pub value_is : value_shared (shares_in t).answer ≡ value
  pub none : (p : ℕ) → get_or (shares_in t).parts p 0 ≡ 0

-- it is accepted, and these are the first total and unnamed after it
pub record CreditedSo (w : AddCall) (first unnamed : ℕ) : Type 0 where
  pub answers : AddAnswers w 0 0
  pub first_is : get_or (record_left w).totals 0 0 ≡ first
  pub unnamed_is : (record_left w).unnamed ≡ unnamed

-- The book's tables: whatever buffers a build of it left which gave 0, with the value that it gave. Any tables: with some rows that are lent.
abbrev pub LeafHolds : LeafCase → Type 0
LeafHolds (adds profile old totals unnamed profiles shares rest) = (found b : Five) (x : Built) → Promise four_rules found b x → number_built x ≡ 0
    → AddedSo (record { tables = b; n = value_built x; profile = profile; old = old }) totals unnamed profiles shares rest
LeafHolds (refuses profile old number value) = (found b : Five) (x : Built) → Promise four_rules found b x → number_built x ≡ 0
    → RefusedSo (record { tables = b; n = value_built x; profile = profile; old = old }) number value
LeafHolds (breaks profile number value) = (b : Five) (n : ℕ) (old : LeafTotals) → n ≢ 0 → n ≤ lent b → old.profiles < 1024
    → RefusedSo (record { tables = b; n = n; profile = profile; old = old }) number value
LeafHolds (full profiles number value) = (b : Five) (n : ℕ) (profile : List ℕ) (old : LeafTotals) → old.profiles ≡ profiles
    → RefusedSo (record { tables = b; n = n; profile = profile; old = old }) number value
LeafHolds (unshared old number value) = UnsharedSo old number value
LeafHolds (long bytes number value) = (b : Five) (n : ℕ) (profile : List ℕ) (old : LeafTotals) → length profile ≡ bytes → old.profiles < 1024
    → RefusedSo (record { tables = b; n = n; profile = profile; old = old }) number value
LeafHolds (rows n number value) = (b : Five) (profile : List ℕ) (old : LeafTotals) → lent b ≡ 0 → length profile ≤ 1048576 → old.profiles < 1024
    → RefusedSo (record { tables = b; n = n; profile = profile; old = old }) number value
LeafHolds (loses b profile number value) = (old : LeafTotals) → old.profiles < 1024 → RefusedSo (record { tables = b; n = 1; profile = profile; old = old }) number value
LeafHolds (credits b profile first unnamed) = CreditedSo (record { tables = b; n = 1; profile = profile; old = empty_totals }) first unnamed

pub data AllLeafCases : List LeafCase → Type 0 where
  none : AllLeafCases []
  also : {k : LeafCase} {ks : List LeafCase} → LeafHolds k → AllLeafCases ks → AllLeafCases (k ∷ ks)

-- All of them hold.
abbrev pub LeafCasesHold : Type 0
LeafCasesHold = AllLeafCases leaf_cases
