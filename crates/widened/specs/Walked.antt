-- The walk over widened tables: it keeps demands 2 and 3, whose words name no layout, so a book of 64 rules or fewer keeps its reports. Assumes nothing.
use Rattle.std.specs.Prelude.{◌≡◌, List, [], ◌∷◌, ℕ, ◌≤◌, ◌<◌}
use Rattle.rows.specs.Rows.{ByteText}
use Rattle.meaning.specs.Rules.{Rules, count}
use Rattle.meaning.specs.Tables.{Five}
use Rattle.meaning.specs.Occurrences.{Occurs, end_at, rule_at, Lists}
use Rattle.book.specs.Limits.{most_rules}
use Rattle.listed.specs.Demands.{WalkCall, reports_after, WalkAnswers, OverTables, Matched}
use Rattle.widened.specs.OneWord.{OneWord, wide, Roomy}

-- a walk over old tables, widened
abbrev pub WideMatches : Type 0
WideMatches = (r : Rules) (b : Five) (n live out : ℕ) → OneWord r b n → Roomy b live out → count r ≤ most_rules
    → (text reports : List ℕ) → ByteText text → Matched r (record { tables = wide b live out; n = n; text = text; reports = reports })

-- Any list of the occurrences, as a walk over old tables was promised to leave it, is the list that an accepted walk over tables of the rules leaves.
abbrev pub ListKept : Type 0
ListKept = (r : Rules) (w : WalkCall) → OverTables r w → (m falls h : ℕ) → WalkAnswers w 0 (m ∷ falls ∷ h ∷ [])
    → (xs : List ℕ) (k : ℕ) → Lists (Occurs r w.text) xs k
    → (m ≡ k) × ((i : ℕ) → i < m → (end_at (reports_after w) i ≡ end_at xs i) × (rule_at (reports_after w) i ≡ rule_at xs i))
