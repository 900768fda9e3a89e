-- What two answers at once refute, and the number of equal refusals. Assumes nothing.
use mathlib.Core.Path.{◌≡◌, ap}
use Rattle.format.specs.declared.Refusal.{Refusal}
use Rattle.std.specs.Prelude.{Ok, Err}
use Rattle.format.specs.Answers.{Answer, number, number_of}

-- a refusal is no acceptance
pub never : {A : Type 0} {x : Refusal} → ◌≡◌ {A = Answer} (Err x) (Ok tt) → A
never e = absurd (cc)

pub number_same : {x y : Refusal} → ◌≡◌ {A = Answer} (Err x) (Err y) → number x ≡ number y
number_same q = ap number_of q
