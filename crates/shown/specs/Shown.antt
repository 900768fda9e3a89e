-- The lines of a walk's reports and of a tally's sums. Assumes nothing.
use Rattle.std.specs.Prelude.{cond, List, [], ◌∷◌, ◌++◌, ℕ, ◌+◌, eqb}
use Rattle.output.specs.Printed.{pair_line}

-- ---- of a walk

-- one line a report: the end, the rule
unfoldable pub report_lines : List ℕ → List ℕ
report_lines [] = []
report_lines (end ∷ []) = []
report_lines (end ∷ rule ∷ reports) = pair_line [] end (32 ∷ []) rule ++ report_lines reports

-- the reports, then `falls FALLBACKS held LENGTH`
abbrev pub shown_lines : List ℕ → ℕ → ℕ → List ℕ
shown_lines reports falls held = report_lines reports ++ pair_line (102 ∷ 97 ∷ 108 ∷ 108 ∷ 115 ∷ 32 ∷ []) falls (32 ∷ 104 ∷ 101 ∷ 108 ∷ 100 ∷ 32 ∷ []) held

-- ---- of a tally

-- the rule and its sum, where that is not 0
abbrev pub sum_line : ℕ → ℕ → List ℕ
sum_line rule sum = cond (eqb sum 0) [] (pair_line [] rule (32 ∷ []) sum)

-- one after another, from a rule on
unfoldable pub sum_lines : ℕ → List ℕ → List ℕ
sum_lines rule [] = []
sum_lines rule (sum ∷ sums) = sum_line rule sum ++ sum_lines (rule + 1) sums
