-- The rows that buffers lend, by numbers written out: at the limit, one entry short of it in each buffer, and past it; and small buffers. Assumes nothing.
use Rattle.std.specs.Prelude.{◌≡◌, true, false, [], ◌∷◌, replicate}
use Rattle.meaning.specs.Tables.{Five}
use Rattle.lent.specs.Lent.{lent_of, five, has_rows, zeroed, stored_row}

-- the lengths of goto, fall, held, live and out, and the rows lent
pub record LentRows : Type 0 where
  pub most : lent_of 1048576 4096 4096 16384 16384 ≡ 4096
  pub one_more : lent_of 1048832 4097 4097 16388 16388 ≡ 4096
  pub many_more : lent_of 16777216 65536 65536 262144 262144 ≡ 4096
  pub goto_less : lent_of 1048575 4096 4096 16384 16384 ≡ 4095
  pub fall_less : lent_of 1048576 4095 4096 16384 16384 ≡ 4095
  pub held_less : lent_of 1048576 4096 4095 16384 16384 ≡ 4095
  pub live_less : lent_of 1048576 4096 4096 16383 16384 ≡ 4095
  pub out_less : lent_of 1048576 4096 4096 16384 16383 ≡ 4095
  pub no_row : lent_of 255 9 9 36 36 ≡ 0
  pub one_row : lent_of 511 9 9 36 36 ≡ 1
  pub two_rows : lent_of 512 9 9 11 36 ≡ 2

-- two rows of zeros
abbrev pub of_two_rows : Five
of_two_rows = five (replicate 512 0) (0 ∷ 0 ∷ []) (0 ∷ 0 ∷ []) (replicate 8 0) (replicate 8 0)

-- of two rows lent, N is none, one, two and three
pub record RowsHad : Type 0 where
  pub none : has_rows of_two_rows 0 ≡ false
  pub one : has_rows of_two_rows 1 ≡ true
  pub two : has_rows of_two_rows 2 ≡ true
  pub three : has_rows of_two_rows 3 ≡ false

-- what is made 0, and where four words come to stand
pub record EntriesLeft : Type 0 where
  pub zeros_are : zeroed (five (7 ∷ 7 ∷ []) (7 ∷ []) (7 ∷ 7 ∷ 7 ∷ []) (7 ∷ []) (7 ∷ 7 ∷ [])) ≡ five (0 ∷ 0 ∷ []) (0 ∷ []) (0 ∷ 0 ∷ 0 ∷ []) (0 ∷ []) (0 ∷ 0 ∷ [])
  pub row_0 : stored_row (replicate 9 7) 0 (1 ∷ 2 ∷ 3 ∷ 4 ∷ []) ≡ 1 ∷ 2 ∷ 3 ∷ 4 ∷ 7 ∷ 7 ∷ 7 ∷ 7 ∷ 7 ∷ []
  pub row_1 : stored_row (replicate 9 7) 1 (1 ∷ 2 ∷ 3 ∷ 4 ∷ []) ≡ 7 ∷ 7 ∷ 7 ∷ 7 ∷ 1 ∷ 2 ∷ 3 ∷ 4 ∷ 7 ∷ []
  pub row_2 : stored_row (replicate 9 7) 2 (1 ∷ 2 ∷ 3 ∷ 4 ∷ []) ≡ replicate 9 7
