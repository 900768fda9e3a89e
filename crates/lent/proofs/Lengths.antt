-- The rows that buffers lend, by computing. Assumes nothing.
use mathlib.Core.Path.{refl}
use Rattle.lent.specs.Lengths.{LentRows, RowsHad, EntriesLeft}

pub lent_rows : LentRows
lent_rows = record {
  most = refl;
  one_more = refl;
  many_more = refl;
  goto_less = refl;
  fall_less = refl;
  held_less = refl;
  live_less = refl;
  out_less = refl;
  no_row = refl;
  one_row = refl;
  two_rows = refl;
}

pub rows_had : RowsHad
rows_had = record { none = refl; one = refl; two = refl; three = refl }

pub entries_left : EntriesLeft
entries_left = record { zeros_are = refl; row_0 = refl; row_1 = refl; row_2 = refl }
