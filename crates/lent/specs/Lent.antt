-- The five buffers that are lent: the rows that they lend, whether so many are, each entry 0, a set stored in a row. Assumes nothing.
use Rattle.std.specs.Prelude.{◌≡◌, ◌↔◌, Bool, cond, not, ◌&&◌, List, ℕ, ◌*◌, ◌/◌, ◌≤◌, min, eqb, leb, ltb, length, replicate}
use Rattle.std.proofs.lemmas.List.Edits.{sets}
use Rattle.sets.specs.Table.{row_words}
use Rattle.meaning.specs.Tables.{Five}
use Rattle.book.specs.Limits.{most_rows}
use Rattle.lent.specs.declared.Machine.{Machine}
use Rattle.lent.specs.declared.Buffers.{Buffers}

-- From the tables' lengths: goto has 256 entries a row, live and out have a row's words. Never more than the limit.
abbrev pub lent_of : ℕ → ℕ → ℕ → ℕ → ℕ → ℕ
lent_of goto fall held live out = min (goto / 256) (min fall (min held (min (live / row_words) (min (out / row_words) most_rows))))

abbrev pub five : List ℕ → List ℕ → List ℕ → List ℕ → List ℕ → Five
five g f h l o = record { goto = g; fall = f; held = h; live = l; out = o }

-- the five that are lent to be walked over
abbrev pub tables_of : Machine → Five
tables_of m = five m.goto.now m.fall.now m.held.now m.live.now m.out.now

-- the five that are lent to be filled
abbrev pub buffers_of : Buffers → Five
buffers_of b = five b.goto.now b.fall.now b.held.now b.live.now b.out.now

-- they are the same buffers, whatever is in them
pub record IsSame (old new : Buffers) : Type 0 where
  pub goto_same : new.goto.ghost_name ≡ old.goto.ghost_name
  pub fall_same : new.fall.ghost_name ≡ old.fall.ghost_name
  pub held_same : new.held.ghost_name ≡ old.held.ghost_name
  pub live_same : new.live.ghost_name ≡ old.live.ghost_name
  pub out_same : new.out.ghost_name ≡ old.out.ghost_name

-- the rows lent
abbrev pub lent : Five → ℕ
lent b = lent_of (length b.goto) (length b.fall) (length b.held) (length b.live) (length b.out)

-- in plain words: each table has room for n rows, and they are at most 4,096
pub record Lends (b : Five) (n : ℕ) : Type 0 where
  pub gotos : 256 * n ≤ length b.goto
  pub falls : n ≤ length b.fall
  pub helds : n ≤ length b.held
  pub lives : 4 * n ≤ length b.live
  pub outs : 4 * n ≤ length b.out
  pub most : n ≤ 4096

-- The rows lent are the most for which that holds.
abbrev pub LentIs : Type 0
LentIs = (b : Five) (n : ℕ) → (n ≤ lent b) ↔ Lends b n

-- n is not 0, and not more than the rows lent
abbrev pub has_rows : Five → ℕ → Bool
has_rows b n = not (eqb n 0) && leb n (lent b)

-- every entry 0
abbrev pub zeros : List ℕ → List ℕ
zeros xs = replicate (length xs) 0

abbrev pub zeroed : Five → Five
zeroed b = five (zeros b.goto) (zeros b.fall) (zeros b.held) (zeros b.live) (zeros b.out)

-- each is as long as it was
pub record AsLong (old b : Five) : Type 0 where
  pub goto_long : length b.goto ≡ length old.goto
  pub fall_long : length b.fall ≡ length old.fall
  pub held_long : length b.held ≡ length old.held
  pub live_long : length b.live ≡ length old.live
  pub out_long : length b.out ≡ length old.out

-- a table of sets with these words in row n; as it was where it has no such row, or where the words are not as many as a row's
abbrev pub stored_row : List ℕ → ℕ → List ℕ → List ℕ
stored_row table n ws = cond (ltb n (length table / row_words) && eqb (length ws) row_words) (sets table (row_words * n) ws) table
