-- The course of a build, on numbers and lists alone: what one byte, one row and the whole come to. It describes the code; nothing in the promise cites it.
-- Assumes nothing.
use Rattle.std.specs.Prelude.{◌≡◌, ◌≢◌, ◌⊎◌, List, ◌++◌, ℕ, suc, ◌+◌, ◌*◌, ◌%◌, ◌≤◌, ◌<◌, length, get_or, set, take, drop, Option, Some, None, MatchOption, Ok, Err}
use Rattle.std.specs.List.{All}
use Rattle.std.specs.Int.Bits.{bit_or}
use Rattle.sets.specs.Table.{row_words, rules_at}
use Rattle.meaning.specs.Rules.{Rules}
use Rattle.meaning.specs.Tables.{no_entry, Columns, Five, goto_at}
use Rattle.meaning.specs.Step.{next_live, finished, Follows}
use Rattle.book.specs.Limits.{most_symbols, most_rows}
use Rattle.lent.specs.Lent.{five, lent, zeroed}
use Rattle.promised.specs.declared.BuildRefusal.TheVariants.{NoRoom}
use Rattle.promised.specs.Promise.{Built}
use Rattle.build.specs.Sets.{Within}
use Rattle.build.specs.declared.Chains.{Chains}
use Rattle.build.specs.declared.Rows.{Rows}

-- ---- the tables but for goto

pub record Others : Type 0 where
  pub fall : List ℕ
  pub held : List ℕ
  pub live : List ℕ
  pub out : List ℕ

abbrev pub others : List ℕ → List ℕ → List ℕ → List ℕ → Others
others f h l o = record { fall = f; held = h; live = l; out = o }

-- those of the rows so far, and of five tables
abbrev pub others_of : Rows → Others
others_of r = others r.fall.now r.held.now r.live.now r.out.now

abbrev pub sides : Five → Others
sides b = others b.fall b.held b.live b.out

-- they are rows of one book, in the same buffers, and no more are lent, whatever is in them
pub record SameRows (old new : Rows) : Type 0 where
  pub fall_same : new.fall.ghost_name ≡ old.fall.ghost_name
  pub held_same : new.held.ghost_name ≡ old.held.ghost_name
  pub live_same : new.live.ghost_name ≡ old.live.ghost_name
  pub out_same : new.out.ghost_name ≡ old.out.ghost_name
  pub lent_same : new.lent ≡ old.lent
  pub book_same : new.book.now ≡ old.book.now

-- with goto they are the five
abbrev pub five_of : List ℕ → Others → Five
five_of goto t = five goto t.fall t.held t.live t.out

-- the number of row i in a table with one place a row
abbrev pub number_at : List ℕ → ℕ → ℕ
number_at xs i = get_or xs i 0

abbrev pub columns_of : Others → Columns
columns_of t = record { fall = number_at t.fall; held = number_at t.held; live = rules_at t.live; out = rules_at t.out }

-- in a table with w places a row, which is read so, row n is v now; the rows before it and the places past it are as they were
pub record Stored (w : ℕ) (read : List ℕ → ℕ → ℕ) (n v : ℕ) (xs ys : List ℕ) : Type 0 where
  pub long : length ys ≡ length xs
  pub here : read ys n ≡ v
  pub kept : (i : ℕ) → i < n → read ys i ≡ read xs i
  pub past : (i : ℕ) → w * suc n ≤ i → get_or ys i 0 ≡ get_or xs i 0

-- a new row at n, where the rules e end
pub record Added (e n h l f : ℕ) (t u : Others) : Type 0 where
  pub fall_put : Stored 1 number_at n f t.fall u.fall
  pub held_put : Stored 1 number_at n h t.held u.held
  pub live_put : Stored row_words rules_at n l t.live u.live
  pub out_put : Stored row_words rules_at n (bit_or e (rules_at t.out f)) t.out u.out

-- ---- the search for a row

-- row i has these three numbers
pub record HasKey (t : Others) (h l f i : ℕ) : Type 0 where
  pub held_is : get_or t.held i 0 ≡ h
  pub live_is : rules_at t.live i ≡ l
  pub fall_is : get_or t.fall i 0 ≡ f

-- none of the n rows has
abbrev pub NoKey : Others → ℕ → ℕ → ℕ → ℕ → Type 0
NoKey t h l f n = (i : ℕ) → i < n → ¬ HasKey t h l f i

-- one of the n rows that has, or none where there is none
abbrev pub Found : Others → ℕ → ℕ → ℕ → ℕ → Option ℕ → Type 0
Found t n h l f x = MatchOption x (NoKey t h l f n) (λ i. (i < n) × HasKey t h l f i)

-- the held lengths of the n rows ascend, none is above h, and row 0's is below it
pub record Rising (held : List ℕ) (n h : ℕ) : Type 0 where
  pub up : (i j : ℕ) → i < j → j < n → get_or held i 0 ≤ get_or held j 0
  pub top : (i : ℕ) → i < n → get_or held i 0 ≤ h
  pub low : get_or held 0 0 < h

-- the chain of a row with this fall and live set, and that of row i
abbrev pub chain_of : ℕ → ℕ → ℕ
chain_of f l = (f + l % 4093) % most_rows

abbrev pub chain_at : List ℕ → List ℕ → ℕ → ℕ
chain_at fall live i = chain_of (get_or fall i 0) (rules_at live i)

-- i is the newest of the rows below n, row 0 apart, in the chain g, where `chain` has the chain of each row; 0 where there is none
pub record Newest (chain : ℕ → ℕ) (n g i : ℕ) : Type 0 where
  pub below : i < n
  pub same : i ≢ 0 → chain i ≡ g
  pub gap : (j : ℕ) → i < j → j < n → chain j ≢ g

-- the rows in chains: `first` has the newest row of each chain, and `older` for each row the next one in its chain
pub record Chained (c : Chains) (chain : ℕ → ℕ) (n : ℕ) : Type 0 where
  pub first_long : length c.first ≡ most_rows
  pub older_long : length c.older ≡ most_rows
  pub heads : (g : ℕ) → Newest chain n g (get_or c.first g 0)
  pub links : (i : ℕ) → i < n → i ≢ 0 → Newest chain i (chain i) (get_or c.older i 0)

-- ---- one byte

-- the row with three numbers is there, is made, or has no room; with the rows that there are then
pub data RowOf (e lent n h l f : ℕ) (t : Others) : Others → ℕ → Option ℕ → Type 0 where
  there : (i : ℕ) → i < n → HasKey t h l f i → RowOf e lent n h l f t t n (Some i)
  made : {u : Others} → NoKey t h l f n → n < lent → Added e n h l f t u → RowOf e lent n h l f t u (n + 1) (Some n)
  full : NoKey t h l f n → lent ≤ n → RowOf e lent n h l f t t n None

-- the rules that go on from row s with the byte c
abbrev pub onward : Rules → Others → ℕ → ℕ → ℕ
onward r t s c = next_live r (get_or t.held s 0) (rules_at t.live s) c

-- the entry of row s for the byte c, where the fall of s leads to v
pub data Place (r : Rules) (lent s c v n : ℕ) (t : Others) : Others → ℕ → Option ℕ → Type 0 where
  root : s ≡ 0 → onward r t s c ≡ 0 → Place r lent s c v n t t n (Some 0)
  none : s ≢ 0 → onward r t s c ≡ 0 → Place r lent s c v n t t n (Some no_entry)
  some : {u : Others} {m : ℕ} {x : Option ℕ} → onward r t s c ≢ 0
      → RowOf (finished r (get_or t.held s 0 + 1) (onward r t s c)) lent n (get_or t.held s 0 + 1) (onward r t s c) v t u m x → Place r lent s c v n t u m x

-- ---- one row

-- the first c entries of row s, from `row₀`, n₀ and t₀
pub data Filling (r : Rules) (lent s : ℕ) (via row₀ : List ℕ) (n₀ : ℕ) (t₀ : Others) : ℕ → List ℕ → ℕ → Others → Type 0 where
  begin : Filling r lent s via row₀ n₀ t₀ 0 row₀ n₀ t₀
  next : {c n m e : ℕ} {row : List ℕ} {t u : Others} → Filling r lent s via row₀ n₀ t₀ c row n t → Place r lent s c (get_or via c 0) n t u m (Some e)
      → Filling r lent s via row₀ n₀ t₀ (c + 1) (set row c e) m u

-- the whole row, or as far as there is room
pub data RowFilled (r : Rules) (lent s : ℕ) (via row₀ : List ℕ) (n₀ : ℕ) (t₀ : Others) (row : List ℕ) (u : Others) (m : ℕ) : Option (Unit {0}) → Type 0 where
  whole : Filling r lent s via row₀ n₀ t₀ 256 row m u → RowFilled r lent s via row₀ n₀ t₀ row u m (Some tt)
  short : {c n : ℕ} {t : Others} → c < 256 → Filling r lent s via row₀ n₀ t₀ c row n t → Place r lent s c (get_or via c 0) n t u m None
      → RowFilled r lent s via row₀ n₀ t₀ row u m None

-- the byte c leads from row s to row e, by falls
pub record Leads (goto fall : List ℕ) (c s e : ℕ) : Type 0 where
  pub falls_made : ℕ
  pub way : Follows (goto_at goto) (number_at fall) c s falls_made e

-- what the falls from a row rest on: each is below its row, the rows are whole, and row 0 always goes on
pub record Descends (goto fall : List ℕ) (row : ℕ) : Type 0 where
  pub whole : 256 * (row + 1) ≤ length goto
  pub falls_within : row < length fall
  pub down : (r : ℕ) → r ≤ row → r ≢ 0 → get_or fall r 0 < r
  pub last : (c : ℕ) → c < 256 → get_or goto c 0 ≢ no_entry

-- n rows are used of those lent
pub record RowsUsed (lent n : ℕ) (t : Others) : Type 0 where
  pub used : n ≤ lent
  pub few : lent ≤ most_rows
  pub fall_room : lent ≤ length t.fall
  pub held_room : lent ≤ length t.held
  pub live_room : row_words * lent ≤ length t.live
  pub out_room : row_words * lent ≤ length t.out

-- what each step relies on and keeps: the book keeps its limits, the rows have room, and they are in chains
pub record RowsReady (r : Rows) : Type 0 where
  pub within : Within r.book.now
  pub room : RowsUsed r.lent r.used (others_of r)
  pub chained : Chained r.chains (chain_at r.fall.now r.live.now) r.used

-- row s is in hand: no row holds more than one byte more than it
pub record InHand (n s : ℕ) (t : Others) : Type 0 where
  pub row : s < n
  pub short_held : get_or t.held s 0 ≤ most_symbols
  pub rising : Rising t.held n (get_or t.held s 0 + 1)

-- the n rows fall to lower ones, and hold short lengths
pub record RowsOk (n : ℕ) (t : Others) : Type 0 where
  pub down : (i : ℕ) → i < n → i ≢ 0 → get_or t.fall i 0 < i
  pub first : get_or t.fall 0 0 ≡ 0
  pub short_held : (i : ℕ) → i < n → get_or t.held i 0 ≤ most_symbols

-- an entry of goto, with n rows
abbrev pub IsEntry : ℕ → ℕ → Type 0
IsEntry n e = (e ≡ no_entry) ⊎ (e < n)

-- what the code of a build relies on
pub record Sane (lent n : ℕ) (goto : List ℕ) (t : Others) : Type 0 where
  pub room : RowsUsed lent n t
  pub rows : RowsOk n t
  pub goto_room : 256 * lent ≤ length goto
  pub entries : All (IsEntry n) goto
  pub last : (c : ℕ) → c < 256 → get_or goto c 0 ≢ no_entry

-- the part of goto for row s, and goto with another row there
abbrev pub row_of : List ℕ → ℕ → List ℕ
row_of goto s = take 256 (drop (256 * s) goto)

abbrev pub with_row : List ℕ → ℕ → List ℕ → List ℕ
with_row goto s row = take (256 * s) goto ++ (row ++ drop 256 (drop (256 * s) goto))

-- row s filled in its place, where `via` is the complete row of its fall
pub record RowBuilt (r : Rules) (lent n s : ℕ) (goto : List ℕ) (t : Others) (goto' : List ℕ) (u : Others) (m : ℕ) (x : Option (Unit {0})) : Type 0 where
  pub via : List ℕ
  pub row : List ℕ
  pub leads : (c : ℕ) → c < 256 → Leads goto t.fall c (get_or t.fall s 0) (get_or via c 0)
  pub filled_row : RowFilled r lent s via (row_of goto s) n t row u m x
  pub put : goto' ≡ with_row goto s row

-- ---- the whole

-- the first s rows, whole, from goto₀ and t₀ with row 0
pub data Building (r : Rules) (lent : ℕ) (goto₀ : List ℕ) (t₀ : Others) : ℕ → List ℕ → ℕ → Others → Type 0 where
  start : Building r lent goto₀ t₀ 0 goto₀ 1 t₀
  grow : {s n m : ℕ} {goto goto' : List ℕ} {t u : Others} → Building r lent goto₀ t₀ s goto n t → s < n → RowBuilt r lent n s goto t goto' u m (Some tt)
      → Building r lent goto₀ t₀ (s + 1) goto' m u

-- every row, or as far as there is room
pub data EveryRow (r : Rules) (lent : ℕ) (goto₀ : List ℕ) (t₀ : Others) (goto' : List ℕ) (u : Others) (m : ℕ) : Option (Unit {0}) → Type 0 where
  all : Building r lent goto₀ t₀ m goto' m u → EveryRow r lent goto₀ t₀ goto' u m (Some tt)
  stuck : {s n : ℕ} {goto : List ℕ} {t : Others} → Building r lent goto₀ t₀ s goto n t → s < n → RowBuilt r lent n s goto t goto' u m None
      → EveryRow r lent goto₀ t₀ goto' u m None

-- the same of the five tables, from a to b: the rows used, or none where there is no room
pub data AllFilled (r : Rules) (lent : ℕ) (a b : Five) : Option ℕ → Type 0 where
  filled : {n : ℕ} → EveryRow r lent a.goto (sides a) b.goto (sides b) n (Some tt) → AllFilled r lent a b (Some n)
  crowded : {n : ℕ} → EveryRow r lent a.goto (sides a) b.goto (sides b) n None → AllFilled r lent a b None

-- a build: every row from tables of zeros, or no room and every entry 0
pub data Makes (r : Rules) (old : Five) : Five → Built → Type 0 where
  made_all : {n : ℕ} {b : Five} → lent old ≢ 0 → AllFilled r (lent old) (zeroed old) b (Some n) → Makes r old b (Ok n)
  empty : lent old ≡ 0 → Makes r old (zeroed old) (Err (NoRoom 0))
  refused : {b : Five} → lent old ≢ 0 → AllFilled r (lent old) (zeroed old) b None → Makes r old (zeroed old) (Err (NoRoom (lent old)))
