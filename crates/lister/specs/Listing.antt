-- The lines that the lister writes, in the paper's words. Assumes nothing.
use Rattle.std.specs.Prelude.{Result, Ok, Err, List, ℕ, ◌+◌, ◌*◌, ◌≤◌, length}
use Rattle.output.specs.Printed.{Puts, refused_line}
use Rattle.shown.specs.Shown.{shown_lines}
use Rattle.meaning.specs.Tables.{Five}
use Rattle.answers.specs.declared.Walked.{Walked}
use Rattle.answers.specs.declared.WalkRefusal.{WalkRefusal}
use Rattle.answers.specs.Walked.{refusal_number, refusal_value}
use Rattle.walk.specs.Walk.{walk_of, reports_of}
use Rattle.program.specs.Program.{ProgramAnswer}

-- of a walk's answer, with the reports that it made
abbrev pub walked_lines : Result Walked WalkRefusal → List ℕ → List ℕ
walked_lines (Ok w) reports = shown_lines reports w.falls w.held
walked_lines (Err why) reports = refused_line (refusal_number why) (refusal_value why)

-- of the walk over tables of n rows, with room for 8,192 reports
abbrev pub search_lines : Five → ℕ → List ℕ → List ℕ
search_lines b n text = walked_lines (walk_of b n text 16384) (reports_of b.goto b.fall b.out n text)

-- how long these may be: 22 bytes for each report, and the last line
abbrev pub search_room : ℕ
search_room = 22 * 8192 + 64

-- they are put, and no longer than that
abbrev pub PutsSearch : Five → ℕ → List ℕ → List ℕ → ℕ → List ℕ → ℕ → Type 0
PutsSearch b n text before at after r = (length (search_lines b n text) ≤ search_room) × Puts (search_lines b n text) before at after r

-- the room for these and for the line of the build
abbrev pub list_room : ℕ
list_room = 64 + search_room

-- The lister's answer: a build of the book keeps its promise, and what is written are the lines of what it came to.
abbrev pub ListerAnswer : List ℕ → List ℕ → List ℕ → Type 0
ListerAnswer book text answer = ProgramAnswer (λ tables rows. search_lines tables rows text) book answer
