-- What an input read whole is known to be, and the tables that are lent. Assumes nothing.
use Rattle.std.specs.Prelude.{Option, Some, None, ℕ, ◌<◌, replicate}
use Rattle.meaning.specs.Tables.{Five}
use Rattle.inputs.specs.declared.Both.{Both}

-- an input that was read whole left a place of the buffer free, so it is no longer than it may be
abbrev pub InputFits : Option ℕ → ℕ → Type 0
InputFits (Some n) room = n < room
InputFits None room = Unit {0}

-- the same of both
abbrev pub BothFit : Option Both → ℕ → ℕ → Type 0
BothFit (Some both) books texts = (both.book < books) × (both.text < texts)
BothFit None books texts = Unit {0}

-- the tables that a program lends to a build: 120 rows, with every entry 0
abbrev pub lent_tables : Five
lent_tables = record { goto = replicate 30720 0; fall = replicate 120 0; held = replicate 120 0; live = replicate 480 0; out = replicate 480 0 }
