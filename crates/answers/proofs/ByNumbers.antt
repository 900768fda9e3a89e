-- The numbers and values are as written out, by computation. Assumes nothing.
use mathlib.Core.Path.{refl}
use Rattle.answers.specs.ByNumbers.{WalkedByNumbers, TalliedByNumbers}

pub walked_by_numbers : WalkedByNumbers
walked_by_numbers = record { accepted = (refl, refl); too_long = (refl, refl); bad_rows = (refl, refl); damaged = (refl, refl); no_room = (refl, refl) }

pub tallied_by_numbers : TalliedByNumbers
tallied_by_numbers = record { accepted = (refl, refl); too_long = (refl, refl); bad_rows = (refl, refl); damaged = (refl, refl); bad_line = (refl, refl); few_sums = (refl, refl) }
