-- The walk over tables, as functions on lists: the run over a text, its reports, and the answer.
-- Any five tables will do; their first n rows count. Assumes nothing.
use Rattle.std.specs.Prelude.{Result, Ok, Err, cond, List, [], ◌∷◌, ◌++◌, ℕ, ◌+◌, ◌*◌, ◌/◌, ◌≤◌, ◌<◌, ltb, length, get_or, drop}
use Rattle.sets.specs.Sets.{members, reports as pairs}
use Rattle.sets.specs.Table.{row_words, rules_at}
use Rattle.meaning.specs.Tables.{Five}
use Rattle.book.specs.Limits.{most_rules, most_bytes}
use Rattle.lent.specs.Lent.{has_rows}
use Rattle.one_byte.specs.Move.{Lent, move_from, on_move}
use Rattle.walk.specs.declared.Run.{Run}
use Rattle.answers.specs.declared.Walked.{Walked}
use Rattle.answers.specs.declared.Damaged.{Damaged}
use Rattle.answers.specs.declared.WalkRefusal.{WalkRefusal}
use Rattle.answers.specs.declared.WalkRefusal.TheVariants.{TooLong, BadRows, NoRoom, Damaged as WalkDamaged}

-- tables and a text that a walk gets to run over
pub record Walkable (goto fall out : List ℕ) (n : ℕ) (text : List ℕ) : Type 0 where
  pub lent : Lent goto fall n
  pub outs : row_words * n ≤ length out
  pub some : 0 < n
  pub short : length text ≤ most_bytes

-- ---- the run over a text

-- a run that reads its text, and one that stops
abbrev pub read : ℕ → ℕ → ℕ → Result Run Damaged
read m f r = Ok (record { made = m; falls = f; row = r })

abbrev pub stopped : ℕ → Result Run Damaged
stopped i = Err (record { at = i })

-- The rules of a row's out, ascending.
unfoldable pub reported : List ℕ → ℕ → List ℕ
reported out row = members most_rules (rules_at out row)

module _ (goto fall out : List ℕ) (n : ℕ) where
  -- From a row, `at` bytes into the text, with the fallbacks and the number of reports so far.
  unfoldable pub run_from : ℕ → ℕ → ℕ → ℕ → List ℕ → Result Run Damaged
  run_from at row falls made [] = read made falls row
  run_from at row falls made (c ∷ text) =
      on_move (move_from goto fall n row c 0) (λ to more. run_from (at + 1) to (falls + more) (made + length (reported out to)) text) (stopped at)

  -- The reports of the same run: two numbers each, the end and the rule.
  unfoldable pub reports_from : ℕ → ℕ → List ℕ → List ℕ
  reports_from at row [] = []
  reports_from at row (c ∷ text) =
      on_move (move_from goto fall n row c 0) (λ to more. pairs (at + 1) (reported out to) ++ reports_from (at + 1) to text) []

  -- The run over a whole text starts in row 0.
  abbrev pub run_of : List ℕ → Result Run Damaged
  run_of text = run_from 0 0 0 0 text

  abbrev pub reports_of : List ℕ → List ℕ
  reports_of text = reports_from 0 0 text

-- ---- the answer

-- What a run leads to, with the held lengths and the room for reports.
abbrev pub answer_of : List ℕ → ℕ → Result Run Damaged → Result Walked WalkRefusal
answer_of held room (Ok r) = cond (ltb room r.made) (Err (NoRoom r.made)) (Ok (record { reports = r.made; falls = r.falls; held = get_or held r.row 0 }))
answer_of held room (Err d) = Err (WalkDamaged d.at)

-- The walk's answer, with a report buffer of the length `space`.
abbrev pub walk_of : Five → ℕ → List ℕ → ℕ → Result Walked WalkRefusal
walk_of b n text space =
    cond (ltb most_bytes (length text)) (Err TooLong)
    (cond (has_rows b n) (answer_of b.held (space / 2) (run_of b.goto b.fall b.out n text))
    (Err (BadRows n)))

-- A buffer with new entries in front, and what stood there after them.
unfoldable pub written : List ℕ → List ℕ → List ℕ
written new old = new ++ drop (length new) old

-- The report buffer after an answer: a refusal leaves it as it was.
abbrev pub buffer_of : Result Walked WalkRefusal → List ℕ → List ℕ → List ℕ
buffer_of (Ok w) reports old = written reports old
buffer_of (Err e) reports old = old
