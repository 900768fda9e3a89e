-- Lines, frames, counts and the first broken line by bytes written out: LF is 10, a space 32, `;` 59, the digits 48 to 57. Assumes nothing.
use Rattle.std.specs.Prelude.{[], ◌∷◌, Some, None, Ok, ◌≡◌}
use Rattle.lines.specs.Lines.{lines_of, frames_of, count_of, sound_line, bad_at, line_of, check_of}
use Rattle.lines.specs.Profile.{frames_in, counts}

pub record LinesByBytes : Type 0 where
  -- an empty profile has no lines
  pub none : lines_of [] ≡ []
  -- LF ends a line, and the last may lack it
  pub two : lines_of (97 ∷ 10 ∷ 98 ∷ []) ≡ (97 ∷ []) ∷ (98 ∷ []) ∷ []
  pub ended : lines_of (97 ∷ 10 ∷ 98 ∷ 10 ∷ []) ≡ (97 ∷ []) ∷ (98 ∷ []) ∷ []
  -- a line may be empty, and is one by its LF
  pub empty : lines_of (10 ∷ 97 ∷ 10 ∷ 10 ∷ []) ≡ [] ∷ (97 ∷ []) ∷ [] ∷ []
  -- no other byte ends a line: neither those beside LF nor CR
  pub others : lines_of (9 ∷ 11 ∷ 13 ∷ []) ≡ (9 ∷ 11 ∷ 13 ∷ []) ∷ []

pub record FramesByBytes : Type 0 where
  pub two : frames_of (97 ∷ 59 ∷ 98 ∷ []) ≡ (97 ∷ []) ∷ (98 ∷ []) ∷ []
  -- a frame may be empty, the last too
  pub last : frames_of (97 ∷ 59 ∷ []) ≡ (97 ∷ []) ∷ [] ∷ []
  pub empty : frames_of (59 ∷ 59 ∷ []) ≡ [] ∷ [] ∷ [] ∷ []
  -- neither `:` nor `<` stands between frames
  pub others : frames_of (58 ∷ 60 ∷ []) ≡ (58 ∷ 60 ∷ []) ∷ []
  -- `a;b 3`: the count is in no frame
  pub line : frames_in (97 ∷ 59 ∷ 98 ∷ 32 ∷ 51 ∷ []) ≡ (97 ∷ []) ∷ (98 ∷ []) ∷ []

pub record CountsByBytes : Type 0 where
  pub none : count_of [] ≡ None
  -- `0` alone; `00` and `01` have a leading zero
  pub zero : count_of (48 ∷ []) ≡ Some 0
  pub zeros : count_of (48 ∷ 48 ∷ []) ≡ None
  pub leading : count_of (48 ∷ 49 ∷ []) ≡ None
  -- 1234567890: every digit, and ten of them
  pub digits : count_of (49 ∷ 50 ∷ 51 ∷ 52 ∷ 53 ∷ 54 ∷ 55 ∷ 56 ∷ 57 ∷ 48 ∷ []) ≡ Some 1234567890
  -- 4294967295 is the largest; 4294967296 and 9999999999 are past it
  pub largest : count_of (52 ∷ 50 ∷ 57 ∷ 52 ∷ 57 ∷ 54 ∷ 55 ∷ 50 ∷ 57 ∷ 53 ∷ []) ≡ Some 4294967295
  pub more : count_of (52 ∷ 50 ∷ 57 ∷ 52 ∷ 57 ∷ 54 ∷ 55 ∷ 50 ∷ 57 ∷ 54 ∷ []) ≡ None
  pub nines : count_of (57 ∷ 57 ∷ 57 ∷ 57 ∷ 57 ∷ 57 ∷ 57 ∷ 57 ∷ 57 ∷ 57 ∷ []) ≡ None
  -- 10000000000 has an eleventh digit
  pub eleven : count_of (49 ∷ 48 ∷ 48 ∷ 48 ∷ 48 ∷ 48 ∷ 48 ∷ 48 ∷ 48 ∷ 48 ∷ 48 ∷ []) ≡ None
  -- neither `/` nor `:` is a digit
  pub below : count_of (49 ∷ 47 ∷ []) ≡ None
  pub above : count_of (49 ∷ 58 ∷ []) ≡ None
  -- `a 1`, `b 20`
  pub added : counts (97 ∷ 32 ∷ 49 ∷ 10 ∷ 98 ∷ 32 ∷ 50 ∷ 48 ∷ 10 ∷ []) ≡ 21

pub record LineByBytes : Type 0 where
  -- `a 1`
  pub sound : line_of (97 ∷ 32 ∷ 49 ∷ []) ≡ sound_line 1 1
  -- `a b 2`: the last space is the one; `  1` has a stack of one space
  pub last : line_of (97 ∷ 32 ∷ 98 ∷ 32 ∷ 50 ∷ []) ≡ sound_line 3 2
  pub spaces : line_of (32 ∷ 32 ∷ 49 ∷ []) ≡ sound_line 1 1
  -- no byte, no space, no count, no stack
  pub none : line_of [] ≡ None
  pub no_space : line_of (97 ∷ 49 ∷ []) ≡ None
  pub no_count : line_of (97 ∷ 32 ∷ []) ≡ None
  pub no_stack : line_of (32 ∷ 49 ∷ []) ≡ None
  -- the bytes beside a space, and a tab, are none
  pub others : line_of (97 ∷ 9 ∷ 31 ∷ 33 ∷ 49 ∷ []) ≡ None
  -- a CR at a line's end
  pub cr : line_of (97 ∷ 32 ∷ 49 ∷ 13 ∷ []) ≡ None

pub record CheckByBytes : Type 0 where
  pub none : check_of [] ≡ Ok tt
  -- `a 1`, `b 2`, with and without the last LF
  pub ended : check_of (97 ∷ 32 ∷ 49 ∷ 10 ∷ 98 ∷ 32 ∷ 50 ∷ 10 ∷ []) ≡ Ok tt
  pub unended : check_of (97 ∷ 32 ∷ 49 ∷ 10 ∷ 98 ∷ 32 ∷ 50 ∷ []) ≡ Ok tt
  -- `a 1`, `b`, `c`: the first of two, where it starts
  pub first : check_of (97 ∷ 32 ∷ 49 ∷ 10 ∷ 98 ∷ 10 ∷ 99 ∷ 10 ∷ []) ≡ bad_at 4
  -- an empty line, `a 1` and a second LF
  pub empty : check_of (97 ∷ 32 ∷ 49 ∷ 10 ∷ 10 ∷ []) ≡ bad_at 4

-- all of them
pub record ByBytes : Type 0 where
  pub lines : LinesByBytes
  pub frames : FramesByBytes
  pub counted : CountsByBytes
  pub line : LineByBytes
  pub check : CheckByBytes
