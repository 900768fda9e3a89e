-- The number and the value of each answer by the trait `Numbered`, which a caller reads, beside those of the definitions. Assumes nothing.
use Rattle.std.specs.Prelude.{Result, ◌≡◌, ℕ}
use denote.Builtin.{unit, usize}
use Rattle.numbered.specs.declared.Numbered.{Ghosts}
use Rattle.numbered.specs.contracts.ResultNumbered.TheImpl.{ghosts as of_result}
use Rattle.numbered.specs.contracts.UnitWorth.TheImpl as unit_worth
use Rattle.numbered.specs.contracts.UsizeWorth.TheImpl as usize_worth
use Rattle.format.specs.contracts.Refusal.{the_row as refusal_row}
use Rattle.format.specs.contracts.RefusalNumbered.TheImpl as refusal
use Rattle.format.specs.Answers.{Answer, number_of, value_of}
use Rattle.promised.specs.contracts.BuildRefusal.{the_row as build_row}
use Rattle.promised.specs.contracts.BuildRefusalNumbered.TheImpl as build
use Rattle.promised.specs.Promise.{Built, number_of as number_built, value_of as value_built}
use Rattle.answers.specs.declared.Walked.{Walked}
use Rattle.answers.specs.contracts.Walked.{the_row as walked_row}
use Rattle.answers.specs.contracts.WalkedWorth.TheImpl as walked_worth
use Rattle.answers.specs.declared.WalkRefusal.{WalkRefusal}
use Rattle.answers.specs.contracts.WalkRefusal.{the_row as walk_row}
use Rattle.answers.specs.contracts.WalkRefusalNumbered.TheImpl as walk
use Rattle.answers.specs.Walked.{number_of as number_walked, value_of as value_walked}
use Rattle.answers.specs.declared.TallyRefusal.{TallyRefusal}
use Rattle.answers.specs.contracts.TallyRefusal.{the_row as tally_row}
use Rattle.answers.specs.contracts.TallyRefusalNumbered.TheImpl as tally
use Rattle.answers.specs.Tallied.{number_of as number_tallied, value_of as value_tallied}
use Rattle.leaf_totals.specs.declared.AddRefusal.{AddRefusal}
use Rattle.leaf_totals.specs.contracts.AddRefusal.{the_row as add_row}
use Rattle.leaf_totals.specs.contracts.AddRefusalNumbered.TheImpl as add
use Rattle.leaf_totals.specs.Totalled.{number_of as number_added, value_of as value_added}
use Rattle.shares.specs.declared.Past.{Past}
use Rattle.shares.specs.contracts.Past.{the_row as past_row}
use Rattle.shares.specs.contracts.PastNumbered.TheImpl as past
use Rattle.shares.specs.Shares.{number_of as number_shared, value_of as value_shared}
use Rattle.widen.specs.declared.Short.{Short}
use Rattle.widen.specs.contracts.Short.{the_row as short_row}
use Rattle.widen.specs.contracts.ShortNumbered.TheImpl as short
use Rattle.widen.specs.Widen.{number_of as number_widened, value_of as value_widened}

-- what the trait gives is this number and this value
pub record AsDefined {A : Type 0} (trait : Ghosts A) (number value : A → ℕ) : Type 0 where
  pub number_is : (x : A) → trait.number_is x ≡ number x
  pub value_is : (x : A) → trait.value_is x ≡ value x

-- so it is for each answer
pub record ByTrait : Type 0 where
  pub read : AsDefined {A = Answer} (of_result unit refusal_row unit_worth.ghosts unit_worth.dict refusal.ghosts refusal.dict) number_of value_of
  pub built : AsDefined {A = Built} (of_result usize build_row usize_worth.ghosts usize_worth.dict build.ghosts build.dict) number_built value_built
  pub walked : AsDefined {A = Result Walked WalkRefusal} (of_result walked_row walk_row walked_worth.ghosts walked_worth.dict walk.ghosts walk.dict) number_walked value_walked
  pub tallied : AsDefined {A = Result Unit TallyRefusal} (of_result unit tally_row unit_worth.ghosts unit_worth.dict tally.ghosts tally.dict) number_tallied value_tallied
  pub added : AsDefined {A = Result Unit AddRefusal} (of_result unit add_row unit_worth.ghosts unit_worth.dict add.ghosts add.dict) number_added value_added
  pub shared : AsDefined {A = Result Unit Past} (of_result unit past_row unit_worth.ghosts unit_worth.dict past.ghosts past.dict) number_shared value_shared
  pub widened : AsDefined {A = Result Unit Short} (of_result unit short_row unit_worth.ghosts unit_worth.dict short.ghosts short.dict) number_widened value_widened
