-- Each word so far has every number that is below the rules.
use Prim.Native.Nat.{ℕ, ◌+◌, ◌*◌, ◌<◌}
use mathlib.Core.Path.{◌≡◌}
use mathlib.Core.Bool.{true}
use lib.ListN.{length, get_or}
use Rattle.sets.specs.Sets.{has}
use Rattle.sets.specs.Table.{row_words}
use Rattle.sets.proofs.InWords.{Words}
use Rattle.build.proofs.all_of.Given as goal

abbrev pub invariant-loop-i : goal.invariant-loop-i
invariant-loop-i l = record {
  long : length l.all ≡ row_words;
  words : Words l.all;
  every : (i b : ℕ) → i < l.i → b < 64 → 64 * i + b < l.rules → has (get_or l.all i 0) b ≡ true;
}
