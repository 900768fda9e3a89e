-- No answer has the number 4: no refusal of the reader, and none of the other numbers. Assumes nothing.
use mathlib.Core.Logic.{◌≢◌}
use native.Mathlib.Omega.{arith}
use Rattle.std.specs.Prelude.{Result, Ok, Err}
use Rattle.format.specs.Answers.{Answer, number_of}
use Rattle.format.proofs.Numbers.{number_some}
use Rattle.promised.specs.declared.BuildRefusal.TheVariants as build
use Rattle.promised.specs.Promise.{Built, number_of as number_built}
use Rattle.answers.specs.declared.Walked.{Walked}
use Rattle.answers.specs.declared.WalkRefusal.{WalkRefusal}
use Rattle.answers.specs.declared.WalkRefusal.TheVariants as walk
use Rattle.answers.specs.Walked.{number_of as number_walked}
use Rattle.answers.specs.declared.TallyRefusal.{TallyRefusal}
use Rattle.answers.specs.declared.TallyRefusal.TheVariants as tally
use Rattle.answers.specs.Tallied.{number_of as number_tallied}
use Rattle.numbers.specs.Never.{NeverFour}

of_read : (x : Answer) → number_of x ≢ 4
of_read (Ok u) h = omega arith
of_read (Err why) h = (number_some why).2 h

of_built : (x : Built) → number_built x ≢ 4
of_built (Ok n) h = omega arith
of_built (Err (build.NoRoom n)) h = omega arith
of_built (Err (build.Book why)) h = (number_some why).2 h

of_walked : (x : Result Walked WalkRefusal) → number_walked x ≢ 4
of_walked (Ok w) h = omega arith
of_walked (Err walk.TooLong) h = omega arith
of_walked (Err (walk.BadRows n)) h = omega arith
of_walked (Err (walk.Damaged at)) h = omega arith
of_walked (Err (walk.NoRoom made)) h = omega arith

of_tallied : (x : Result Unit TallyRefusal) → number_tallied x ≢ 4
of_tallied (Ok u) h = omega arith
of_tallied (Err tally.TooLong) h = omega arith
of_tallied (Err (tally.BadRows rows)) h = omega arith
of_tallied (Err (tally.FewSums n)) h = omega arith
of_tallied (Err (tally.BadLine at)) h = omega arith
of_tallied (Err (tally.Damaged at)) h = omega arith

pub never_four : NeverFour
never_four = record { read = of_read; built = of_built; walked = of_walked; tallied = of_tallied }
