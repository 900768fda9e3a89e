-- Lines, counts and frames in plain words, which the functions of `Lines` are shown to compute. Assumes nothing.
use Rattle.std.specs.Prelude.{List, [], ◌∷◌, ◌++◌, Some, ◌⊎◌, ◌↔◌, ◌≢◌, ◌≡◌, ℕ, zero, suc, ◌+◌, ◌-◌, ◌*◌, ◌≤◌, ◌<◌, length, get_or, take, drop, unwrap_or}
use Rattle.lines.specs.Lines.{lf, space, semicolon, most_count, last_of, last_mark_of, lines_of, frames_of, count_of, sound_line, line_of}

-- ---- pieces

-- the pieces with a mark between each two
unfoldable pub join : ℕ → List (List ℕ) → List ℕ
join mark [] = []
join mark (p ∷ []) = p
join mark (p ∷ q ∷ ps) = p ++ mark ∷ join mark (q ∷ ps)

-- none of the pieces has a mark in it
abbrev pub Without : ℕ → List (List ℕ) → Type 0
Without mark ps = (i j : ℕ) → i < length ps → j < length (get_or ps i []) → get_or (get_or ps i []) j 0 ≢ mark

-- the last piece, if there is one, is not empty
abbrev pub LastSome : List (List ℕ) → Type 0
LastSome ps = (i : ℕ) → suc i ≡ length ps → 1 ≤ length (get_or ps i [])

-- where piece i starts, where the first starts at `at`
unfoldable pub start_of : ℕ → List (List ℕ) → ℕ → ℕ
start_of at [] i = at
start_of at (p ∷ ps) zero = at
start_of at (p ∷ ps) (suc i) = start_of (at + length p + 1) ps i

-- The lines of a profile are without LF, and with an LF between each two they are the profile, but for an LF that ends the last. It is missing only
-- where the last line is not empty, or where there is none.
pub record Lines (profile : List ℕ) : Type 0 where
  pub whole : ((join lf (lines_of profile) ≡ profile) × LastSome (lines_of profile)) ⊎ ((join lf (lines_of profile) ++ lf ∷ [] ≡ profile) × (1 ≤ length (lines_of profile)))
  pub without : Without lf (lines_of profile)
  -- line i is in the profile where it starts
  pub starts : (i : ℕ) → i < length (lines_of profile) → take (length (get_or (lines_of profile) i [])) (drop (start_of 0 (lines_of profile) i) profile) ≡ get_or (lines_of profile) i []

-- The frames of a stack are without `;`, at least one, and with `;` between each two they are the stack.
pub record Frames (stack : List ℕ) : Type 0 where
  pub whole : join semicolon (frames_of stack) ≡ stack
  pub some : 1 ≤ length (frames_of stack)
  pub without : Without semicolon (frames_of stack)

-- ---- pieces joined and split again

-- The lines of joined lines are those lines, where none has an LF in it: with an LF at the end ..
abbrev pub LinesOfEnded : Type 0
LinesOfEnded = (ls : List (List ℕ)) → 1 ≤ length ls → Without lf ls → lines_of (join lf ls ++ lf ∷ []) ≡ ls

-- .. and without, where the last is not empty.
abbrev pub LinesOfJoined : Type 0
LinesOfJoined = (ls : List (List ℕ)) → LastSome ls → Without lf ls → lines_of (join lf ls) ≡ ls

-- Likewise the frames of joined frames, where none has a `;` in it.
abbrev pub FramesOfJoined : Type 0
FramesOfJoined = (fs : List (List ℕ)) → 1 ≤ length fs → Without semicolon fs → frames_of (join semicolon fs) ≡ fs

-- ---- a count

-- the number that digits make, after the number so far
unfoldable pub decimal : ℕ → List ℕ → ℕ
decimal so [] = so
decimal so (c ∷ s) = decimal (10 * so + (c - 48)) s

-- The digits write k: 1 to 10 of them, `0` in front only where it stands alone, and at most the largest count.
pub record Writes (digits : List ℕ) (k : ℕ) : Type 0 where
  pub some : 1 ≤ length digits
  pub most : length digits ≤ 10
  pub each : (i : ℕ) → i < length digits → (48 ≤ get_or digits i 0) × (get_or digits i 0 ≤ 57)
  pub lead : get_or digits 0 0 ≡ 48 → length digits ≡ 1
  pub value : decimal 0 digits ≡ k
  pub small : k ≤ most_count

abbrev pub CountIs : Type 0
CountIs = (s : List ℕ) (k : ℕ) → (count_of s ≡ Some k) ↔ Writes s k

-- ---- the last mark

-- Its place or the length is the place that there is, or else the length.
abbrev pub LastIs : Type 0
LastIs = (mark : ℕ) (text : List ℕ) → last_of mark text ≡ unwrap_or (last_mark_of mark text) (length text)

-- ---- a line

-- The line is a stack that is not empty, a space, and the digits of k; no digit is a space, so it is the last one.
pub record IsLine (line stack digits : List ℕ) (k : ℕ) : Type 0 where
  pub whole : line ≡ stack ++ space ∷ digits
  pub some : 1 ≤ length stack
  pub count : Writes digits k

abbrev pub LineIs : Type 0
LineIs = (line : List ℕ) (n k : ℕ) → (line_of line ≡ sound_line n k) ↔ ((stack digits : List ℕ) × IsLine line stack digits k × (length stack ≡ n))
