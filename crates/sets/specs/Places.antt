-- Where a rule of a row stands in a table of sets, by numbers alone. Assumes nothing.
use Rattle.std.specs.Prelude.{◌≡◌, List, ℕ, ◌+◌, ◌*◌, ◌/◌, ◌%◌, ◌^◌, ◌<◌, eqb, get_or}
use Rattle.sets.specs.Sets.{has}
use Rattle.sets.specs.Table.{rules_at}

-- a row has four words, lowest rules first: rule k of row i is bit k % 64 of the word at 4 * i + k / 64
abbrev pub RuleAtItsBit : Type 0
RuleAtItsBit = (table : List ℕ) → ((j : ℕ) → get_or table j 0 < 2 ^ 64) → (i k : ℕ) → k < 256
    → has (rules_at table i) k ≡ eqb (get_or table (4 * i + k / 64) 0 / 2 ^ (k % 64) % 2) 1
