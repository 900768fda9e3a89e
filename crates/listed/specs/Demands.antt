-- What a walk over the tables of rules finds, in words of the rules and the text alone: demands 2 and 3 of the paper. A text is in reading order here;
-- `meaning` reads one with its latest byte first, so it is handed `reverse text`. Assumes nothing.
use Rattle.std.specs.Prelude.{◌≡◌, ◌⊎◌, ◌≢◌, true, Result, List, [], ◌∷◌, reverse, ℕ, ◌+◌, ◌-◌, ◌*◌, ◌/◌, ◌≤◌, ◌<◌, length, get_or}
use Rattle.rows.specs.Rows.{ByteText, IsRow}
use Rattle.sets.specs.Table.{rules_at}
use Rattle.meaning.specs.Rules.{Rules, count, size, symbol, fits}
use Rattle.meaning.specs.Standing.{Same, held, out}
use Rattle.meaning.specs.Falls.{falls, falls_in}
use Rattle.meaning.specs.Occurrences.{Occurs, Lists}
use Rattle.meaning.specs.Tables.{Five, Tables}
use Rattle.book.specs.Limits.{most_rules, most_bytes}
use Rattle.lent.specs.Lent.{lent}
use Rattle.answers.specs.declared.Walked.{Walked}
use Rattle.answers.specs.declared.WalkRefusal.{WalkRefusal}
use Rattle.answers.specs.Walked.{number_of, values_of}
use Rattle.one_byte.specs.Move.{reached, move_of}
use Rattle.walk.specs.Walk.{read, run_of, reports_of, walk_of, buffer_of}
use Rattle.listed.specs.Looks.{looks_from, goings}

-- ---- a call of the walk

pub record WalkCall : Type 0 where
  pub tables : Five
  pub n : ℕ
  pub text : List ℕ
  pub reports : List ℕ

-- its answer, the report buffer after it, and how many looks of its run go on
abbrev pub walk_answer : WalkCall → Result Walked WalkRefusal
walk_answer w = walk_of w.tables w.n w.text (length w.reports)

abbrev pub reports_after : WalkCall → List ℕ
reports_after w = buffer_of (walk_answer w) (reports_of w.tables.goto w.tables.fall w.tables.out w.n w.text) w.reports

abbrev pub forward : WalkCall → ℕ
forward w = goings (looks_from w.tables.goto w.tables.fall w.n 0 w.text)

-- it answers with this number and these values
pub record WalkAnswers (w : WalkCall) (number : ℕ) (values : List ℕ) : Type 0 where
  pub number_is : number_of (walk_answer w) ≡ number
  pub values_are : values_of (walk_answer w) ≡ values

-- ---- over any tables

-- It is refused with 11 or 12 exactly where the text is too long or the rows are none or not lent, and no refusal changes the report buffer.
pub record WalkRefusals (w : WalkCall) : Type 0 where
  pub too_long : most_bytes < length w.text → WalkAnswers w 11 (most_bytes ∷ [])
  pub bad_rows : length w.text ≤ most_bytes → (w.n ≡ 0) ⊎ (lent w.tables < w.n) → WalkAnswers w 12 (w.n ∷ [])
  pub run : length w.text ≤ most_bytes → w.n ≢ 0 → w.n ≤ lent w.tables → (number_of (walk_answer w) ≢ 11) × (number_of (walk_answer w) ≢ 12)
  pub untouched : number_of (walk_answer w) ≢ 0 → reports_after w ≡ w.reports

abbrev pub WalkRefuses : Type 0
WalkRefuses = (w : WalkCall) → WalkRefusals w

-- A run makes at most as many reports a byte as there may be rules.
abbrev pub FewReports : Type 0
FewReports = (goto fall out text : List ℕ) (n made falls row : ℕ) → run_of goto fall out n text ≡ read made falls row → made ≤ most_rules * length text

-- ---- over the tables of rules

-- One byte's move, from the row of the text t that is read, its latest byte first: it reaches the row of the longer text, after the fallbacks that
-- rules and text determine, and the rules of that row are those that end there.
abbrev pub Moves : Type 0
Moves = (r : Rules) (b : Five) (n : ℕ) (tables : Tables r b n) → n ≤ lent b → (t : List ℕ) (i c : ℕ) → IsRow (Same r) tables.texts t i → c < 256
    → (e : ℕ) × (move_of b.goto b.fall n i c ≡ reached e (falls r t c)) × (rules_at b.out e ≡ out r (c ∷ t)) × IsRow (Same r) tables.texts (c ∷ t) e

-- A call over the tables of the rules, with a text of bytes.
pub record OverTables (r : Rules) (w : WalkCall) : Type 0 where
  pub tables : Tables r w.tables w.n
  pub few : count r ≤ most_rules
  pub bytes : ByteText w.text

-- ---- demand 2

pub record Demand2 (r : Rules) (w : WalkCall) : Type 0 where
  -- never refused for an entry that no build writes
  pub undamaged : number_of (walk_answer w) ≢ 13
  -- accepted, it lists every occurrence of the rules in the text and nothing else, each once, by end and then by rule
  pub finds : (m falls h : ℕ) → WalkAnswers w 0 (m ∷ falls ∷ h ∷ []) → Lists (Occurs r w.text) (reports_after w) m
  -- the occurrences, so many; where the text is not too long and the rows are lent, it is accepted just where they have room, and else tells how many they are
  pub list : List ℕ
  pub m : ℕ
  pub occurrences : Lists (Occurs r w.text) list m
  pub room : length w.text ≤ most_bytes → w.n ≤ lent w.tables → m ≤ length w.reports / 2
      → WalkAnswers w 0 (m ∷ falls_in r (reverse w.text) ∷ held r (reverse w.text) ∷ [])
  pub no_room : length w.text ≤ most_bytes → w.n ≤ lent w.tables → length w.reports / 2 < m → WalkAnswers w 14 (m ∷ [])

-- ---- demand 3

-- The last j bytes of the text fit the first j symbols of some rule.
pub record Opens (r : Rules) (text : List ℕ) (j : ℕ) : Type 0 where
  pub k : ℕ
  pub rule : k < count r
  pub symbols : j ≤ size r k
  pub bytes : j ≤ length text
  pub each : (i : ℕ) → i < j → fits r (get_or text (length text - j + i) 0) (symbol r k i) ≡ true

-- h is the length of the longest such ending, and 0 where there is none.
pub record Longest (r : Rules) (text : List ℕ) (h : ℕ) : Type 0 where
  pub opens : 0 < h → Opens r text h
  pub none_longer : (j : ℕ) → h < j → ¬ Opens r text j

-- Of an accepted walk that answers so many fallbacks and this held length.
pub record Demand3 (r : Rules) (w : WalkCall) (falls h : ℕ) : Type 0 where
  -- the fallbacks are those of the rules and the text alone, and the held length is that of the longest ending that fits an opening
  pub fallbacks : falls ≡ falls_in r (reverse w.text)
  pub holds : h ≡ held r (reverse w.text)
  pub longest : Longest r w.text h
  -- with the held length they are at most the bytes read
  pub bound : falls + h ≤ length w.text
  -- the forward moves are one a byte, so all moves are at most twice the text
  pub one_a_byte : forward w ≡ length w.text
  pub moves : forward w + falls ≤ 2 * length w.text

-- ---- both

pub record Matched (r : Rules) (w : WalkCall) : Type 0 where
  pub demand2 : Demand2 r w
  pub demand3 : (m falls h : ℕ) → WalkAnswers w 0 (m ∷ falls ∷ h ∷ []) → Demand3 r w falls h

abbrev pub Matches : Type 0
Matches = (r : Rules) (w : WalkCall) → OverTables r w → Matched r w
