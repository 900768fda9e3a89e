-- The tally of a folded profile, as functions on lists: what the walk of each frame reports, what is added, and the answer. What lies behind one
-- byte's move and a row's rules is not looked at: `move` is any function of a row and a byte, `rules` any function of a row. Assumes nothing.
use Rattle.std.specs.Prelude.{Option, Some, None, Result, Ok, Err, cond, List, [], ◌∷◌, ℕ, ◌+◌, ltb, length, get_or, set, take, replicate}
use Rattle.std.specs.Int.Bits.{bit_or}
use Rattle.sets.specs.Sets.{members}
use Rattle.meaning.specs.Tables.{Five}
use Rattle.book.specs.Limits.{most_rules, most_bytes}
use Rattle.one_byte.specs.declared.Moved.{Moved}
use Rattle.lent.specs.declared.Machine.{Machine}
use Rattle.lent.specs.Lent.{has_rows}
use Rattle.one_byte.specs.Move.{move_of}
use Rattle.walk.specs.Walk.{written}
use Rattle.answers.specs.declared.Damaged.{Damaged}
use Rattle.answers.specs.declared.TallyRefusal.{TallyRefusal}
use Rattle.answers.specs.declared.TallyRefusal.TheVariants as refusal
use Rattle.lines.specs.declared.BadLine.{BadLine}
use Rattle.lines.specs.Lines.{Pass, lines_of, frames_of, pass_over, line_of, on_line, check_of}

-- ---- what is added

-- The count added to sum k, for each of the rules.
unfoldable pub add_all : ℕ → List ℕ → List ℕ → List ℕ
add_all count [] sums = sums
add_all count (k ∷ rules) sums = add_all count rules (set sums k (get_or sums k 0 + count))

-- ---- walks

-- f of the row that a move reached, or z where it is lost
abbrev pub after_move : {A : Type 0} → Option Moved → (ℕ → A) → A → A
after_move (Some m) f z = f m.row
after_move None f z = z

-- what is told of a walk that is lost: the byte whose move is
abbrev pub lost_at : ℕ → Pass Damaged
lost_at at = Err (record { at = at })

module _ (move : ℕ → ℕ → Option Moved) where
  -- What is left of a frame, from a row on, `at` bytes into the profile: it ends at the byte whose move is lost.
  unfoldable pub pass_from : ℕ → ℕ → List ℕ → Pass Damaged
  pass_from at row [] = Ok tt
  pass_from at row (c ∷ frame) = after_move (move row c) (λ to. pass_from (at + 1) to frame) (lost_at at)

  -- Each frame is walked as a text of its own, from row 0.
  unfoldable pub frame_pass : ℕ → List ℕ → Pass Damaged
  frame_pass at frame = pass_from at 0 frame

  unfoldable pub stack_pass : ℕ → List ℕ → Pass Damaged
  stack_pass at stack = pass_over frame_pass at (frames_of stack)

  unfoldable pub line_pass : ℕ → List ℕ → Pass Damaged
  line_pass at line = on_line (line_of line) (λ stack count. stack_pass at (take stack line)) (Ok tt)

  unfoldable pub lines_pass : List ℕ → Pass Damaged
  lines_pass profile = pass_over line_pass 0 (lines_of profile)

-- ---- what they report

module _ (move : ℕ → ℕ → Option Moved) (rules : ℕ → ℕ) where
  -- The set of the rules that what is left of a frame reports.
  unfoldable pub rules_from : ℕ → List ℕ → ℕ
  rules_from row [] = 0
  rules_from row (c ∷ frame) = after_move (move row c) (λ to. bit_or (rules to) (rules_from to frame)) 0

  unfoldable pub frame_rules : List ℕ → ℕ
  frame_rules frame = rules_from 0 frame

  unfoldable pub rules_over : List (List ℕ) → ℕ
  rules_over [] = 0
  rules_over (f ∷ fs) = bit_or (frame_rules f) (rules_over fs)

  -- The set of the rules that a stack's frames report.
  unfoldable pub stack_rules : List ℕ → ℕ
  stack_rules stack = rules_over (frames_of stack)

  -- The sums after a line: its count is added once for each rule of that set.
  unfoldable pub line_sums : List ℕ → List ℕ → List ℕ
  line_sums line sums = on_line (line_of line) (λ stack count. add_all count (members most_rules (stack_rules (take stack line))) sums) sums

  unfoldable pub sums_over : List (List ℕ) → List ℕ → List ℕ
  sums_over [] sums = sums
  sums_over (l ∷ ls) sums = sums_over ls (line_sums l sums)

  unfoldable pub lines_sums : List ℕ → List ℕ → List ℕ
  lines_sums profile sums = sums_over (lines_of profile) sums

  -- The sums of a profile.
  abbrev pub sums_of : List ℕ → List ℕ
  sums_of profile = lines_sums profile (replicate most_rules 0)

-- ---- the answer

-- one byte's move over the tables
abbrev pub move_by : Five → ℕ → ℕ → ℕ → Option Moved
move_by b n = move_of b.goto b.fall n

-- over those that a function is lent
abbrev pub moves_over : Machine → ℕ → ℕ → Option Moved
moves_over t = move_of t.goto.now t.fall.now t.rows

-- A line that breaks the rules is refused, and a walk that is lost; else comes what is next.
abbrev pub judged : Pass BadLine → Result Unit TallyRefusal → Result Unit TallyRefusal
judged (Err e) next = Err (refusal.BadLine e.at)
judged (Ok u) next = next

abbrev pub walked : Pass Damaged → Result Unit TallyRefusal → Result Unit TallyRefusal
walked (Err e) next = Err (refusal.Damaged e.at)
walked (Ok u) next = next

-- The tally's answer, with a sums buffer of so many places: every line is judged before a frame is walked.
abbrev pub tally_of : Five → ℕ → List ℕ → ℕ → Result Unit TallyRefusal
tally_of b n profile places =
    cond (ltb most_bytes (length profile)) (Err refusal.TooLong)
    (cond (has_rows b n)
    (cond (ltb places most_rules) (Err (refusal.FewSums places))
    (judged (check_of profile) (walked (lines_pass (move_by b n) profile) (Ok tt))))
    (Err (refusal.BadRows n)))

-- The sums buffer after an answer: a refusal leaves it as it was.
abbrev pub buffer_of : Result Unit TallyRefusal → List ℕ → List ℕ → List ℕ
buffer_of (Ok u) sums old = written sums old
buffer_of (Err e) sums old = old
