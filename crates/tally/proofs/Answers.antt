-- The answer of a tally, by its passes. Assumes nothing.
use mathlib.Core.Bool.{true}
use mathlib.Core.List.{List}
use mathlib.Core.Path.{◌≡◌}
use Prim.Native.Nat.{ℕ, ◌≤◌}
use borrow.Author.Tests.{le-ltb}
use lib.ListN.{length}
use Rattle.meaning.specs.Tables.{Five}
use Rattle.book.specs.Limits.{most_rules, most_bytes}
use Rattle.lent.specs.Lent.{has_rows}
use Rattle.std.specs.Prelude.{Ok}
use Rattle.lines.specs.declared.BadLine.{BadLine}
use Rattle.lines.specs.Lines.{Pass, check_of}
use Rattle.tally.specs.Tally.{lines_pass, move_by, judged, walked, tally_of}

-- of one that reaches its lines, where the pass over them r is q
pub tallied : (b : Five) (n : ℕ) (profile : List ℕ) (places : ℕ) {r q : Pass BadLine} → length profile ≤ most_bytes → has_rows b n ≡ true → most_rules ≤ places
    → r ≡ check_of profile → r ≡ q → judged q (walked (lines_pass (move_by b n) profile) (Ok tt)) ≡ tally_of b n profile places
tallied b n profile places short rows room p q = rw (← q, p) (rw (le-ltb most_bytes (length profile) short, rows, le-ltb places most_rules room))
