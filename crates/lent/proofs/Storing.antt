-- `stored_row` where the table has the row and the words are a row's. Assumes nothing.
use mathlib.Core.Path.{◌≡◌}
use mathlib.Core.List.{List}
use Prim.Native.Nat.{ℕ, ◌*◌, ◌/◌, ◌<◌}
use lib.ListN.{length}
use lib.Seq.{sets}
use borrow.Author.Tests.{lt-ltb, eq-eqb}
use Rattle.sets.specs.Table.{row_words}
use Rattle.lent.specs.Lent.{stored_row}

pub stored_row_lem : (table : List ℕ) (n : ℕ) (ws : List ℕ) → n < length table / row_words → length ws ≡ row_words
    → stored_row table n ws ≡ sets table (row_words * n) ws
stored_row_lem table n ws h e = rw (lt-ltb n (length table / row_words) h, eq-eqb (length ws) row_words e)
