-- What is said of a profile's lines: all sound, or which is the first that is not; their frames, and their counts added up. Assumes nothing.
use Rattle.std.specs.Prelude.{List, [], None, ◌≢◌, ◌≡◌, ℕ, ◌^◌, ◌≤◌, ◌<◌, length, get_or, take}
use Rattle.sets.specs.Sums.{sum_over}
use Rattle.book.specs.Limits.{most_bytes}
use Rattle.lines.specs.Lines.{lines_of, frames_of, line_of, on_line}

-- the lines are all sound
abbrev pub AllSound : List (List ℕ) → Type 0
AllSound ls = (i : ℕ) → i < length ls → line_of (get_or ls i []) ≢ None

-- line i is the first that breaks the rules
pub record FirstBroken (ls : List (List ℕ)) (i : ℕ) : Type 0 where
  pub below : i < length ls
  pub broken : line_of (get_or ls i []) ≡ None
  pub before : (j : ℕ) → j < i → line_of (get_or ls j []) ≢ None

-- the frames of a line that is sound
abbrev pub frames_in : List ℕ → List (List ℕ)
frames_in line = on_line (line_of line) (λ stack count. frames_of (take stack line)) []

-- a line's count; one that breaks the rules has none to count
abbrev pub count_in : List ℕ → ℕ
count_in line = on_line (line_of line) (λ stack count. count) 0

-- frame j of line i
abbrev pub frame_at : List ℕ → ℕ → ℕ → List ℕ
frame_at profile i j = get_or (frames_in (get_or (lines_of profile) i [])) j []

-- The total of the counts of a profile's lines.
abbrev pub counts : List ℕ → ℕ
counts profile = sum_over count_in (lines_of profile)

-- It passes 64 bits in no profile that is not too long.
abbrev pub CountsFit : Type 0
CountsFit = (profile : List ℕ) → length profile ≤ most_bytes → counts profile < 2 ^ 64
