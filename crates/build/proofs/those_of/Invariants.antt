-- Each word passed has those of its word that pass.
use Prim.Native.Nat.{ℕ, ◌+◌, ◌*◌, ◌<◌}
use mathlib.Core.Path.{◌≡◌}
use mathlib.Core.Bool.{Bool, ◌&&◌}
use lib.Dec.{ltb}
use lib.ListN.{length, get_or}
use Rattle.sets.specs.Sets.{has}
use Rattle.sets.specs.Table.{row_words}
use Rattle.sets.proofs.InWords.{Words}
use Rattle.build.proofs.those_of.Given as goal

abbrev pub invariant-loop-i : goal.invariant-loop-i
invariant-loop-i g l = record {
  long : length l.those ≡ row_words;
  words : Words l.those;
  passed : (p : ℕ → Bool) → ((k : ℕ) (t : Bool) → k < l.rules → goal.F-post g l.test k t → t ≡ p k) → (i b : ℕ) → i < l.i → b < 64
      → has (get_or l.those i 0) b ≡ (ltb (64 * i + b) l.rules && p (64 * i + b) && has (get_or l.set i 0) b);
}
