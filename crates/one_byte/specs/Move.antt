-- One byte's move over tables, as functions on lists: one look, the falls, and the row reached. Any tables will do; their first n rows count. Assumes nothing.
use Rattle.std.specs.Prelude.{Option, Some, None, Bool, cond, not, ◌&&◌, ◌||◌, List, ℕ, zero, suc, ◌+◌, ◌*◌, ◌≤◌, leb, ltb, eqb, length, get_or}
use Rattle.meaning.specs.Tables.{no_entry, goto_at}
use Rattle.book.specs.Limits.{most_rows}
use Rattle.one_byte.specs.declared.Moved.{Moved}
use Rattle.one_byte.specs.declared.Look.{Look}
use Rattle.one_byte.specs.declared.Look.TheVariants.{Go, Fall, Wrong}

-- ---- what the tables lend

-- n rows of entries and of falls
pub record Lent (goto fall : List ℕ) (n : ℕ) : Type 0 where
  pub few : n ≤ most_rows
  pub entries : 256 * n ≤ length goto
  pub falls : n ≤ length fall

-- ---- one look

-- an entry of a row, with the row's fall, that no build writes: 65535 in row 0; 65535 with a fall that is not below its own row; another that is n or more
abbrev pub unwritten : ℕ → ℕ → ℕ → ℕ → Bool
unwritten n row entry to =
    (eqb entry no_entry && eqb row 0)
    || (eqb entry no_entry && leb row to)
    || (not (eqb entry no_entry) && leb n entry)

-- It goes to a row, falls to a row, or finds what no build writes.
abbrev pub look_of : ℕ → ℕ → ℕ → ℕ → Look
look_of n row entry to = cond (unwritten n row entry to) Wrong (cond (eqb entry no_entry) (Fall to) (Go entry))

unfoldable pub look_at : List ℕ → List ℕ → ℕ → ℕ → ℕ → Look
look_at goto fall n row c = look_of n row (goto_at goto row c) (get_or fall row 0)

-- the row after it
abbrev pub row_after : ℕ → Look → ℕ
row_after row (Go e) = e
row_after row (Fall f) = f
row_after row Wrong = row

-- ---- one byte's move

-- a move that reaches a row after so many falls
abbrev pub reached : ℕ → ℕ → Option Moved
reached r n = Some (record { row = r; falls = n })

-- the row that the look goes to, after so many falls; or k of the row that it falls to; where it is wrong, the move is lost
abbrev pub on_look : Look → ℕ → (ℕ → Option Moved) → Option Moved
on_look (Go e) falls k = reached e falls
on_look (Fall f) falls k = k f
on_look Wrong falls k = None

module _ (goto fall : List ℕ) (n : ℕ) where
  -- At most so many looks, until one is no fall; the falls are counted.
  unfoldable pub move_in : ℕ → ℕ → ℕ → ℕ → Option Moved
  move_in zero row c falls = None
  move_in (suc k) row c falls = on_look (look_at goto fall n row c) falls (λ f. move_in k f c (falls + 1))

  -- The move on the byte c, after so many falls. Each fall is to a lower row, so `row + 1` looks are enough.
  unfoldable pub move_from : ℕ → ℕ → ℕ → Option Moved
  unfolding move_in
  move_from row c falls = move_in (suc row) row c falls

  -- the row is none of n rows, or no tables have so many, or these have fewer
  abbrev pub is_short : ℕ → Bool
  is_short row = leb n row || ltb most_rows n || ltb (length goto) (256 * n) || ltb (length fall) n

  -- One byte's move, from any row over any tables.
  abbrev pub move_of : ℕ → ℕ → Option Moved
  move_of row c = cond (is_short row) None (move_from row c 0)

-- f of the row that the move reached and of its fallbacks, or z where it is lost
abbrev pub on_move : {A : Type 0} → Option Moved → (ℕ → ℕ → A) → A → A
on_move (Some m) f z = f m.row m.falls
on_move None f z = z
