-- The number and the value of each answer by the trait `Numbered` are those of the definitions. Assumes nothing.
use mathlib.Core.Path.{refl}
use Rattle.std.specs.Prelude.{Ok, Err}
use Rattle.numbers.specs.Numbered.{ByTrait}

pub by_trait : ByTrait
by_trait = record {
  read = record { number_is = elim [ Ok u ↦ refl | Err e ↦ refl ]; value_is = elim [ Ok u ↦ refl | Err e ↦ refl ] };
  built = record { number_is = elim [ Ok n ↦ refl | Err e ↦ refl ]; value_is = elim [ Ok n ↦ refl | Err e ↦ refl ] };
  walked = record { number_is = elim [ Ok w ↦ refl | Err e ↦ refl ]; value_is = elim [ Ok w ↦ refl | Err e ↦ refl ] };
  tallied = record { number_is = elim [ Ok u ↦ refl | Err e ↦ refl ]; value_is = elim [ Ok u ↦ refl | Err e ↦ refl ] };
  added = record { number_is = elim [ Ok u ↦ refl | Err e ↦ refl ]; value_is = elim [ Ok u ↦ refl | Err e ↦ refl ] };
  shared = record { number_is = elim [ Ok u ↦ refl | Err e ↦ refl ]; value_is = elim [ Ok u ↦ refl | Err e ↦ refl ] };
  widened = record { number_is = elim [ Ok u ↦ refl | Err e ↦ refl ]; value_is = elim [ Ok u ↦ refl | Err e ↦ refl ] };
}
