-- The lines that the summer writes. Assumes nothing.
use Rattle.std.specs.Prelude.{Result, Ok, Err, List, ℕ, ◌+◌, ◌*◌, ◌≤◌, length, replicate}
use Rattle.sets.specs.Table.{rules_at}
use Rattle.output.specs.Printed.{Puts, refused_line}
use Rattle.shown.specs.Shown.{sum_lines}
use Rattle.meaning.specs.Tables.{Five}
use Rattle.answers.specs.declared.TallyRefusal.{TallyRefusal}
use Rattle.answers.specs.Tallied.{refusal_number, refusal_value}
use Rattle.tally.specs.Tally.{tally_of, sums_of, move_by, buffer_of}
use Rattle.program.specs.Program.{ProgramAnswer}

-- of a tally's answer, with the sums that it left
abbrev pub tallied_lines : Result Unit TallyRefusal → List ℕ → List ℕ
tallied_lines (Ok u) sums = sum_lines 0 sums
tallied_lines (Err why) sums = refused_line (refusal_number why) (refusal_value why)

-- the sums that a tally with this answer leaves where there were zeros
abbrev pub left_sums : Result Unit TallyRefusal → Five → ℕ → List ℕ → List ℕ
left_sums x b n profile = buffer_of x (sums_of (move_by b n) (rules_at b.out) profile) (replicate 256 0)

-- of the tally over tables of n rows, with room for 256 sums
abbrev pub total_lines : Five → ℕ → List ℕ → List ℕ
total_lines b n profile = tallied_lines (tally_of b n profile 256) (left_sums (tally_of b n profile 256) b n profile)

-- how long these may be: a rule and a sum of up to 20 digits for each sum, or a refusal
abbrev pub total_room : ℕ
total_room = 42 * 256

-- they are put, and no longer than that
abbrev pub PutsTotal : Five → ℕ → List ℕ → List ℕ → ℕ → List ℕ → ℕ → Type 0
PutsTotal b n profile before at after r = (length (total_lines b n profile) ≤ total_room) × Puts (total_lines b n profile) before at after r

-- the room for these and for the line of the build
abbrev pub sums_room : ℕ
sums_room = 64 + total_room

-- The summer's answer: a build of the book keeps its promise, and what is written are the lines of what it came to.
abbrev pub SummerAnswer : List ℕ → List ℕ → List ℕ → Type 0
SummerAnswer book profile answer = ProgramAnswer (λ tables rows. total_lines tables rows profile) book answer
