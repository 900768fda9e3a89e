-- The number that is given no more. Assumes nothing.
use Rattle.std.specs.Prelude.{Result, ◌≢◌}
use Rattle.format.specs.Answers.{Answer, number_of}
use Rattle.promised.specs.Promise.{Built, number_of as number_built}
use Rattle.answers.specs.declared.Walked.{Walked}
use Rattle.answers.specs.declared.WalkRefusal.{WalkRefusal}
use Rattle.answers.specs.Walked.{number_of as number_walked}
use Rattle.answers.specs.declared.TallyRefusal.{TallyRefusal}
use Rattle.answers.specs.Tallied.{number_of as number_tallied}

-- no answer has the number 4
pub record NeverFour : Type 0 where
  pub read : (x : Answer) → number_of x ≢ 4
  pub built : (x : Built) → number_built x ≢ 4
  pub walked : (x : Result Walked WalkRefusal) → number_walked x ≢ 4
  pub tallied : (x : Result Unit TallyRefusal) → number_tallied x ≢ 4
