-- The paper's numbers and values of each answer of a walk and of a tally, written out. Assumes nothing.
use Rattle.std.specs.Prelude.{Result, Ok, Err, List, [], ◌∷◌, ◌≡◌, ℕ}
use Rattle.answers.specs.declared.Walked.{Walked}
use Rattle.answers.specs.declared.WalkRefusal.{WalkRefusal}
use Rattle.answers.specs.declared.WalkRefusal.TheVariants as walk
use Rattle.answers.specs.declared.TallyRefusal.{TallyRefusal}
use Rattle.answers.specs.declared.TallyRefusal.TheVariants as tally
use Rattle.answers.specs.Walked.{number_of, values_of}
use Rattle.answers.specs.Tallied.{number_of as number_tallied, value_of as value_tallied}

-- a walk's answer has the number n and the values vs
abbrev pub WalkedTells : Result Walked WalkRefusal → ℕ → List ℕ → Type 0
WalkedTells a n vs = (number_of a ≡ n) × (values_of a ≡ vs)

-- a tally's answer has the number n and the value v
abbrev pub TalliedTells : Result Unit TallyRefusal → ℕ → ℕ → Type 0
TalliedTells a n v = (number_tallied a ≡ n) × (value_tallied a ≡ v)

-- an accepted walk has three values: its reports, its fallbacks and the held length
pub record WalkedByNumbers : Type 0 where
  pub accepted : WalkedTells (Ok (record { reports = 2; falls = 1; held = 4 })) 0 (2 ∷ 1 ∷ 4 ∷ [])
  pub too_long : WalkedTells (Err walk.TooLong) 11 (1048576 ∷ [])
  pub bad_rows : WalkedTells (Err (walk.BadRows 7)) 12 (7 ∷ [])
  pub damaged : WalkedTells (Err (walk.Damaged 5)) 13 (5 ∷ [])
  pub no_room : WalkedTells (Err (walk.NoRoom 3)) 14 (3 ∷ [])

pub record TalliedByNumbers : Type 0 where
  pub accepted : TalliedTells (Ok tt) 0 0
  pub too_long : TalliedTells (Err tally.TooLong) 11 1048576
  pub bad_rows : TalliedTells (Err (tally.BadRows 7)) 12 7
  pub damaged : TalliedTells (Err (tally.Damaged 5)) 13 5
  pub bad_line : TalliedTells (Err (tally.BadLine 6)) 15 6
  pub few_sums : TalliedTells (Err (tally.FewSums 255)) 16 255
