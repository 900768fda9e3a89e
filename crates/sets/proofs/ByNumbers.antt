-- The cases by numbers, by computation. Assumes nothing.
use mathlib.Core.Path.{refl}
use Rattle.sets.specs.Sets.{has, set_where, adding, those, members, set_of, members_of, united, reports}
use Rattle.sets.specs.Table.{row_set, rules_at}
use Rattle.sets.specs.ByNumbers.{SetsByNumbers}

pub sets_by_numbers : SetsByNumbers
unfolding has set_where adding those members set_of members_of united reports row_set rules_at
sets_by_numbers = record { bits = refl; more = refl; past = refl; words = refl; both = refl; pairs = refl; row0 = refl; row1 = refl }
