-- The tables as they were while a row of live and of out was one word, and what becomes of them when they are widened. Such tables exist for 64 rules or
-- fewer. Assumes nothing.
use Rattle.std.specs.Prelude.{Ok, ◌≡◌, List, ℕ, ◌*◌, ◌/◌, ◌≤◌, ◌<◌, length, get_or}
use Rattle.rows.specs.Rows.{IsRows}
use Rattle.sets.specs.Sets.{members}
use Rattle.sets.specs.Table.{row_words, rules_at}
use Rattle.meaning.specs.Rules.{Rules, count}
use Rattle.meaning.specs.Standing.{Same}
use Rattle.meaning.specs.Tables.{Columns, Numbers, Gotos, Five, goto_at, ZeroFrom, Tables}
use Rattle.book.specs.Limits.{most_rules}
use Rattle.widen.specs.Widen.{widened, widen_of}

-- ---- the old layout

-- the most rules of a book while a set was one word
abbrev pub most_of_one : ℕ
most_of_one = 64

-- the tables but goto: every one had a number a row
abbrev pub columns_of_one : Five → Columns
columns_of_one b = record { fall = λ i. get_or b.fall i 0; held = λ i. get_or b.held i 0; live = λ i. get_or b.live i 0; out = λ i. get_or b.out i 0 }

-- every entry past the last of n rows is 0
pub record RestOfOne (n : ℕ) (b : Five) : Type 0 where
  pub goto_rest : ZeroFrom (256 * n) b.goto
  pub fall_rest : ZeroFrom n b.fall
  pub held_rest : ZeroFrom n b.held
  pub live_rest : ZeroFrom n b.live
  pub out_rest : ZeroFrom n b.out

-- the buffers hold the tables of the rules r, with n rows: as `Tables`, with one word a row
pub record OneWord (r : Rules) (b : Five) (n : ℕ) : Type 0 where
  pub texts : List (List ℕ)
  pub count : length texts ≡ n
  pub rows : IsRows (Same r) texts
  pub numbers : Numbers r texts (columns_of_one b)
  pub gotos : Gotos r texts (goto_at b.goto)
  pub rest : RestOfOne n b

-- ---- widened

-- the five with live and out widened, into buffers of so many places
abbrev pub wide : Five → ℕ → ℕ → Five
wide b live out = record { goto = b.goto; fall = b.fall; held = b.held; live = widened live b.live; out = widened out b.out }

-- these have room, so that it is done
abbrev pub Roomy : Five → ℕ → ℕ → Type 0
Roomy b live out = widen_of (length b.live) (length b.out) live out ≡ Ok tt

-- a buffer of n places, widened: its rows' sets are the old numbers, and 0 comes after them
pub record WideSets (n : ℕ) (old : List ℕ) : Type 0 where
  pub long : length (widened n old) ≡ n
  pub sets : (i : ℕ) → rules_at (widened n old) i ≡ get_or old i 0
  pub later : (i : ℕ) → row_words * length old ≤ i → get_or (widened n old) i 0 ≡ 0

abbrev pub SetsKept : Type 0
SetsKept = (n : ℕ) (old : List ℕ) → length old ≤ n / row_words → WideSets n old

-- old tables, widened, are the tables of the same rules
abbrev pub TablesKept : Type 0
TablesKept = (r : Rules) (b : Five) (n live out : ℕ) → OneWord r b n → Roomy b live out → Tables r (wide b live out) n

-- ---- what the layout does not change

-- row i is the same in old tables and in new ones
pub record SameRow (b b' : Five) (i : ℕ) : Type 0 where
  pub goto_same : (c : ℕ) → c < 256 → goto_at b.goto i c ≡ goto_at b'.goto i c
  pub fall_same : get_or b.fall i 0 ≡ get_or b'.fall i 0
  pub held_same : get_or b.held i 0 ≡ get_or b'.held i 0
  pub live_same : get_or b.live i 0 ≡ rules_at b'.live i
  pub out_same : get_or b.out i 0 ≡ rules_at b'.out i

-- so are the number of rows, each row, and the rules reported at it
pub record Kept (r : Rules) (b : Five) (n : ℕ) (b' : Five) (n' : ℕ) : Type 0 where
  pub count_same : n ≡ n'
  pub row_same : (i : ℕ) → i < n → SameRow b b' i
  pub reports_same : count r ≤ most_of_one → (i : ℕ) → i < n → members most_of_one (get_or b.out i 0) ≡ members most_rules (rules_at b'.out i)

-- any old tables and any new tables of the same rules
abbrev pub RowsKept : Type 0
RowsKept = (r : Rules) (b b' : Five) (n n' : ℕ) → OneWord r b n → Tables r b' n' → Kept r b n b' n'
