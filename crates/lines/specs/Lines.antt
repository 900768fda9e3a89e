-- The lines of a folded profile, as functions on lists: where a line starts and ends, its stack and its count; and the frames of a stack.
-- Assumes nothing.
use Rattle.std.specs.Prelude.{Bool, cond, ◌&&◌, List, [], ◌∷◌, Option, Some, None, Result, Ok, Err, ℕ, suc, ◌+◌, ◌-◌, ◌*◌, ltb, leb, eqb, length, get_or, drop, option_and_then}
use Rattle.lines.specs.declared.Line.{Line}
use Rattle.lines.specs.declared.BadLine.{BadLine}

-- LF ends a line, a space stands in front of a count, `;` stands between frames
abbrev pub lf : ℕ
lf = 10

abbrev pub space : ℕ
space = 32

abbrev pub semicolon : ℕ
semicolon = 59

-- the largest count of a line
abbrev pub most_count : ℕ
most_count = 4294967295

-- ---- pieces of a text

-- a byte in front of the first piece
abbrev pub joined : ℕ → List (List ℕ) → List (List ℕ)
joined c [] = (c ∷ []) ∷ []
joined c (p ∷ ps) = (c ∷ p) ∷ ps

-- The pieces between the marks. `none` is what an empty rest has.
unfoldable pub split : ℕ → List (List ℕ) → List ℕ → List (List ℕ)
split mark none [] = none
split mark none (c ∷ text) = cond (eqb c mark) ([] ∷ split mark none text) (joined c (split mark none text))

-- Lines end in LF, and the last may lack it. An empty profile has none.
abbrev pub lines_of : List ℕ → List (List ℕ)
lines_of profile = split lf [] profile

-- Frames are split at `;`, and may be empty.
abbrev pub frames_of : List ℕ → List (List ℕ)
frames_of stack = split semicolon ([] ∷ []) stack

-- the bytes in front of the first mark
unfoldable pub up_to : ℕ → List ℕ → ℕ
up_to mark [] = 0
up_to mark (c ∷ text) = cond (eqb c mark) 0 (suc (up_to mark text))

-- the place of the first mark from `from` on, or the length; `from` itself where that is past the end
abbrev pub mark_from : ℕ → ℕ → List ℕ → ℕ
mark_from mark from text = from + up_to mark (drop from text)

-- the last mark at or after `at`, or `last` where there is none
unfoldable pub last_from : ℕ → ℕ → ℕ → List ℕ → ℕ
last_from mark at last [] = last
last_from mark at last (c ∷ text) = last_from mark (at + 1) (cond (eqb c mark) at last) text

-- the place of the last mark, or the length
abbrev pub last_of : ℕ → List ℕ → ℕ
last_of mark text = last_from mark 0 (length text) text

-- of a byte and those behind it: the place of the last mark of these, or of the byte where it is one
abbrev pub last_among : Bool → Option ℕ → Option ℕ
last_among here (Some i) = Some (suc i)
last_among here None = cond here (Some 0) None

-- the place of the last mark, where there is one (Written.LastIs)
unfoldable pub last_mark_of : ℕ → List ℕ → Option ℕ
last_mark_of mark [] = None
last_mark_of mark (c ∷ text) = last_among (eqb c mark) (last_mark_of mark text)

-- ---- a pass over pieces

-- what a pass over some bytes comes to: it gets through, or ends with what is told of its end
abbrev pub Pass : Type 0 → Type 0
Pass E = Result (Unit {0}) E

-- the end that a piece has, or what comes after the piece
abbrev pub on_pass : {E : Type 0} → Pass E → Pass E → Pass E
on_pass (Ok u) next = next
on_pass (Err e) next = Err e

module _ {E : Type 0} (each : ℕ → List ℕ → Pass E) where
  -- The first end of a piece, where the first piece starts at `at` and a mark stands between two.
  unfoldable pub pass_over : ℕ → List (List ℕ) → Pass E
  pass_over at [] = Ok tt
  pass_over at (p ∷ ps) = on_pass (each at p) (pass_over (at + length p + 1) ps)

-- ---- a count

-- the number that digits make, after the number so far
unfoldable pub number_from : ℕ → List ℕ → Option ℕ
number_from so [] = Some so
number_from so (c ∷ s) = cond (leb 48 c && leb c 57) (number_from (10 * so + (c - 48)) s) None

-- at most the largest
abbrev pub limited : Option ℕ → Option ℕ
limited (Some k) = cond (ltb most_count k) None (Some k)
limited None = None

-- `0`, or 1 to 10 digits without a leading zero
unfoldable pub count_of : List ℕ → Option ℕ
count_of s =
    cond (eqb (length s) 0) None
    (cond (ltb 10 (length s)) None
    (cond (eqb (get_or s 0 0) 48) (cond (eqb (length s) 1) (Some 0) None)
    (limited (number_from 0 s))))

-- ---- a line

-- a line with its stack's length and its count
abbrev pub sound_line : ℕ → ℕ → Option Line
sound_line stack count = Some (record { stack = stack; count = count })

-- a line whose count is read
abbrev pub counted : ℕ → Option ℕ → Option Line
counted stack (Some k) = sound_line stack k
counted stack None = None

-- A stack that is not empty, one space, a count. The stack is all in front of the last space.
unfoldable pub line_of : List ℕ → Option Line
line_of line = option_and_then (λ stack. cond (eqb stack 0) None (counted stack (count_of (drop (stack + 1) line)))) (last_mark_of space line)

-- f of a line's stack and count, or z where it breaks the rules
abbrev pub on_line : {A : Type 0} → Option Line → (ℕ → ℕ → A) → A → A
on_line (Some l) f z = f l.stack l.count
on_line None f z = z

-- what is told of a line that breaks the rules: where it starts
abbrev pub bad_at : ℕ → Pass BadLine
bad_at at = Err (record { at = at })

-- A line that breaks the rules ends the first pass where the line starts.
unfoldable pub line_check : ℕ → List ℕ → Pass BadLine
line_check at line = on_line (line_of line) (λ stack count. Ok tt) (bad_at at)

unfoldable pub check_of : List ℕ → Pass BadLine
check_of profile = pass_over line_check 0 (lines_of profile)
