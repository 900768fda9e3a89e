-- What the contracts of inner functions ask and leave; no theorem speaks of it. Assumes nothing.
use Rattle.std.specs.Prelude.{OnOk, List, ◌≡◌, ℕ, ◌+◌, ◌*◌, ◌^◌, ◌<◌, get_or}
use Rattle.std.specs.Int.Bits.{bit_or}
use Rattle.sets.specs.Sets.{set_of}
use Rattle.answers.specs.declared.Damaged.{Damaged}
use Rattle.lines.specs.Lines.{most_count, Pass}

-- room in each of the sums for so many counts
pub record Room (counts : ℕ) (sums : List ℕ) : Type 0 where
  pub fits : (k : ℕ) → get_or sums k 0 + most_count * counts < 2 ^ 64

-- A pass that gets through leaves this.
abbrev pub After : {A : Type 0} → Pass Damaged → A → A → Type 0
After r left told = OnOk r (left ≡ told)

-- A pass that gets through leaves a set with these rules beside those that it had.
abbrev pub Unites : Pass Damaged → List ℕ → List ℕ → ℕ → Type 0
Unites r old new rules = After r (set_of new) (bit_or (set_of old) rules)
