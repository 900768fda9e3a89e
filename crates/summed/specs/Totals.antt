-- What a tally sums up, in words of the rules and the profile alone. A text that is read is kept latest byte first. Assumes nothing.
use Rattle.std.specs.Prelude.{Bool, true, false, Result, cond, ◌||◌, List, [], ◌∷◌, ◌⊎◌, ◌↔◌, ◌≢◌, ◌≡◌, ℕ, ◌+◌, ◌≤◌, ◌<◌, length, get_or, drop}
use Rattle.rows.specs.Rows.{ByteText}
use Rattle.sets.specs.Sets.{has, among}
use Rattle.sets.specs.Sums.{sum_over}
use Rattle.sets.specs.Table.{rules_at}
use Rattle.meaning.specs.Rules.{Rules, count}
use Rattle.meaning.specs.Standing.{out}
use Rattle.meaning.specs.Tables.{Five, Tables}
use Rattle.book.specs.Limits.{most_rules, most_bytes}
use Rattle.book.specs.Content.{Content}
use Rattle.format.specs.Format.{means, meaning_of}
use Rattle.book.specs.Meant.{rules_of}
use Rattle.lent.specs.Lent.{lent}
use Rattle.promised.specs.Promise.{Built, number_of as number_built, value_of as value_built, Promise}
use Rattle.answers.specs.declared.Walked.{Walked}
use Rattle.answers.specs.declared.WalkRefusal.{WalkRefusal}
use Rattle.answers.specs.Walked.{number_of as number_of_walk, value_of as value_of_walk}
use Rattle.walk.specs.Walk.{reports_of, walk_of}
use Rattle.meaning.specs.Occurrences.{Occurs}
use Rattle.lines.specs.Lines.{lines_of}
use Rattle.lines.specs.Written.{start_of}
use Rattle.lines.specs.Profile.{AllSound, FirstBroken, frames_in, count_in, frame_at, counts}
use Rattle.answers.specs.declared.TallyRefusal.{TallyRefusal}
use Rattle.answers.specs.Tallied.{number_of, value_of}
use Rattle.tally.specs.Tally.{move_by, sums_of, tally_of, buffer_of}

-- ---- a call of the tally

pub record TallyCall : Type 0 where
  pub tables : Five
  pub n : ℕ
  pub profile : List ℕ
  pub sums : List ℕ

-- its answer, and the sums buffer after it
abbrev pub tally_answer : TallyCall → Result Unit TallyRefusal
tally_answer w = tally_of w.tables w.n w.profile (length w.sums)

abbrev pub sums_after : TallyCall → List ℕ
sums_after w = buffer_of (tally_answer w) (sums_of (move_by w.tables w.n) (rules_at w.tables.out) w.profile) w.sums

-- it answers with this number and this value
pub record TallyAnswers (w : TallyCall) (number value : ℕ) : Type 0 where
  pub number_is : number_of (tally_answer w) ≡ number
  pub value_is : value_of (tally_answer w) ≡ value

-- ---- lines and frames

-- what comes before the lines: the profile is not too long, the rows are some and lent, the sums have their places
pub record Ready (w : TallyCall) : Type 0 where
  pub short : length w.profile ≤ most_bytes
  pub some : w.n ≢ 0
  pub lends : w.n ≤ lent w.tables
  pub places : most_rules ≤ length w.sums

-- the walk over a frame as a text of its own; 13 comes before 14, so that it has no room does not matter
abbrev pub walk_over : TallyCall → ℕ → ℕ → Result Walked WalkRefusal
walk_over w i j = walk_of w.tables w.n (frame_at w.profile i j) 0

-- frame j of line i is the first whose walk is refused with 13, at its byte x
pub record FirstLost (w : TallyCall) (i j x : ℕ) : Type 0 where
  pub line : i < length (lines_of w.profile)
  pub frame : j < length (frames_in (get_or (lines_of w.profile) i []))
  pub lost : number_of_walk (walk_over w i j) ≡ 13
  pub byte : value_of_walk (walk_over w i j) ≡ x
  pub lines_before : (k : ℕ) → k < i → (l : ℕ) → l < length (frames_in (get_or (lines_of w.profile) k [])) → number_of_walk (walk_over w k l) ≢ 13
  pub frames_before : (l : ℕ) → l < j → number_of_walk (walk_over w i l) ≢ 13

-- no walk over a frame is refused with 13
abbrev pub NoneLost : TallyCall → Type 0
NoneLost w = (i : ℕ) → i < length (lines_of w.profile) → (j : ℕ) → j < length (frames_in (get_or (lines_of w.profile) i [])) → number_of_walk (walk_over w i j) ≢ 13

-- ---- sums

-- the rules of reports, of two numbers each: the end and the rule
unfoldable pub rules_reported : List ℕ → List ℕ
rules_reported (e ∷ k ∷ reports) = k ∷ rules_reported reports
rules_reported (e ∷ []) = []
rules_reported [] = []

-- whether the walk over a frame reports rule k
abbrev pub reports_in : Five → ℕ → ℕ → List ℕ → Bool
reports_in b n k frame = among k (rules_reported (reports_of b.goto b.fall b.out n frame))

-- for any test of a frame
module _ (test : List ℕ → Bool) where
  -- what frames make of a count: the count, once, if one of them passes the test, and otherwise nothing
  unfoldable pub once : ℕ → List (List ℕ) → ℕ
  once count [] = 0
  once count (f ∷ fs) = cond (test f) count (once count fs)

  -- what a line makes of its own
  abbrev pub part_of : List ℕ → ℕ
  part_of line = once (count_in line) (frames_in line)

  -- The total of the counts of the lines with a frame that passes the test.
  abbrev pub total_where : List ℕ → ℕ
  total_where profile = sum_over part_of (lines_of profile)

-- ---- over any tables

-- It is refused with 11, 12, 16, 15 and 13 in that order, exactly where the paper says; accepted, sum k is the total of the counts of the lines with a
-- frame whose walk reports rule k; no refusal changes the sums, and no place past the sums is written.
pub record TallyRefusals (w : TallyCall) : Type 0 where
  pub too_long : most_bytes < length w.profile → TallyAnswers w 11 most_bytes
  pub bad_rows : length w.profile ≤ most_bytes → (w.n ≡ 0) ⊎ (lent w.tables < w.n) → TallyAnswers w 12 w.n
  pub few_sums : length w.profile ≤ most_bytes → w.n ≢ 0 → w.n ≤ lent w.tables → length w.sums < most_rules → TallyAnswers w 16 (length w.sums)
  pub bad_line : Ready w → (i : ℕ) → FirstBroken (lines_of w.profile) i → TallyAnswers w 15 (start_of 0 (lines_of w.profile) i)
  pub damaged : Ready w → AllSound (lines_of w.profile) → (i j x : ℕ) → FirstLost w i j x
      → TallyAnswers w 13 (start_of 0 (lines_of w.profile) i + start_of 0 (frames_in (get_or (lines_of w.profile) i [])) j + x)
  pub accepted : Ready w → AllSound (lines_of w.profile) → NoneLost w → TallyAnswers w 0 0
  pub sums : TallyAnswers w 0 0 → (k : ℕ) → k < most_rules → get_or (sums_after w) k 0 ≡ total_where (reports_in w.tables w.n k) w.profile
  pub untouched : number_of (tally_answer w) ≢ 0 → sums_after w ≡ w.sums
  pub later : drop most_rules (sums_after w) ≡ drop most_rules w.sums
  pub long : length (sums_after w) ≡ length w.sums

abbrev pub TallyRefuses : Type 0
TallyRefuses = (w : TallyCall) → TallyRefusals w

-- No sum exceeds the total of the lines' counts, whichever the tables.
abbrev pub SumsWithin : Type 0
SumsWithin = (w : TallyCall) → TallyAnswers w 0 0 → (k : ℕ) → k < most_rules → get_or (sums_after w) k 0 ≤ counts w.profile

-- ---- where a rule occurs

module _ (r : Rules) (k : ℕ) where
  -- whether rule k ends in a text, after what was read before
  unfoldable pub ends_from : List ℕ → List ℕ → Bool
  ends_from before [] = false
  ends_from before (c ∷ text) = has (out r (c ∷ before)) k || ends_from (c ∷ before) text

  -- whether it occurs in a text
  abbrev pub occurs_in : List ℕ → Bool
  occurs_in text = ends_from [] text

-- ---- over the tables of rules

-- A call over the tables of the rules, with a profile of bytes.
pub record OverProfile (r : Rules) (w : TallyCall) : Type 0 where
  pub tables : Tables r w.tables w.n
  pub few : count r ≤ most_rules
  pub bytes : ByteText w.profile

pub record Summed (r : Rules) (w : TallyCall) : Type 0 where
  -- never refused for an entry that no build writes
  pub undamaged : number_of (tally_answer w) ≢ 13
  -- accepted, where the lines are sound and what comes before them is as it must be
  pub accepts : length w.profile ≤ most_bytes → w.n ≤ lent w.tables → most_rules ≤ length w.sums → AllSound (lines_of w.profile) → TallyAnswers w 0 0
  -- then sum k is the total of the counts of the lines with a frame in which rule k occurs
  pub sums : TallyAnswers w 0 0 → (k : ℕ) → k < most_rules → get_or (sums_after w) k 0 ≡ total_where (occurs_in r k) w.profile
  -- as demand 2 has it: at some end of that frame
  pub occurrences : (k : ℕ) (text : List ℕ) → (occurs_in r k text ≡ true) ↔ ((e : ℕ) × Occurs r text e k)

abbrev pub Sums : Type 0
Sums = (r : Rules) (w : TallyCall) → OverProfile r w → Summed r w

-- ---- from a book's bytes

-- what a tally over the buffers b with n rows comes to: the bytes mean a book, the rows are lent, and the sums are those of its rules
pub record Tells (bytes : List ℕ) (b : Five) (n : ℕ) (profile sums : List ℕ) : Type 0 where
  pub content : Content
  pub meant : meaning_of bytes ≡ means content
  pub lends : n ≤ lent b
  pub summed : Summed (rules_of content) (record { tables = b; n = n; profile = profile; sums = sums })

-- Any buffers that a build of the bytes left which gave 0, tallied with the value that it gave.
abbrev pub Tallies : Type 0
Tallies = (bytes : List ℕ) → ByteText bytes → (old b : Five) (x : Built) → Promise bytes old b x → number_built x ≡ 0 → (profile sums : List ℕ) → ByteText profile
    → Tells bytes b (value_built x) profile sums
