-- The numbers of the refusals, and a refusal by its number and its value. Assumes nothing.
use Prim.Native.Nat.{ℕ, ◌≤◌, ◌<◌}
use mathlib.Core.Path.{◌≡◌, refl}
use mathlib.Core.Logic.{◌≢◌}
use mathlib.Core.Bool.{cond}
use native.Mathlib.Omega.{arith}
use lib.Dec.{eqb}
use Rattle.format.specs.declared.Refusal.{Refusal}
use Rattle.format.specs.declared.Refusal.TheVariants.{Cut, OtherTag, PictureBody, PictureMany, RuleBody, RuleLong, RuleMany, NoRule, UnknownKind, UndefinedPicture}
use Rattle.format.specs.Answers.{number, value}

-- a refusal's number is 1 to 9, 17 or 18, and never 4
pub number_some : (r : Refusal) → (1 ≤ number r) × (9 < number r → (17 ≤ number r) × (number r ≤ 18)) × (number r ≢ 4)
number_some (Cut at) = (omega arith, λ h. omega arith, λ h. omega arith)
number_some (OtherTag at) = (omega arith, λ h. omega arith, λ h. omega arith)
number_some (PictureBody at) = (omega arith, λ h. omega arith, λ h. omega arith)
number_some (PictureMany at) = (omega arith, λ h. omega arith, λ h. omega arith)
number_some (RuleBody at) = (omega arith, λ h. omega arith, λ h. omega arith)
number_some (RuleLong at) = (omega arith, λ h. omega arith, λ h. omega arith)
number_some (RuleMany at) = (omega arith, λ h. omega arith, λ h. omega arith)
number_some (NoRule n) = (omega arith, λ h. omega arith, λ h. omega arith)
number_some (UnknownKind at) = (omega arith, λ h. omega arith, λ h. omega arith)
number_some (UndefinedPicture at) = (omega arith, λ h. omega arith, λ h. omega arith)

-- a refusal is known by its number and its value
pub refusal_of : ℕ → ℕ → Refusal
refusal_of i v =
    cond (eqb i 1) (Cut v) (cond (eqb i 2) (OtherTag v) (cond (eqb i 3) (PictureBody v) (cond (eqb i 5) (PictureMany v)
    (cond (eqb i 6) (RuleBody v) (cond (eqb i 7) (RuleLong v) (cond (eqb i 8) (RuleMany v) (cond (eqb i 9) (NoRule v) (cond (eqb i 17) (UnknownKind v)
    (UndefinedPicture v)))))))))

pub is_refusal : (r : Refusal) → refusal_of (number r) (value r) ≡ r
unfolding refusal_of
is_refusal (Cut at) = refl
is_refusal (OtherTag at) = refl
is_refusal (PictureBody at) = refl
is_refusal (PictureMany at) = refl
is_refusal (RuleBody at) = refl
is_refusal (RuleLong at) = refl
is_refusal (RuleMany at) = refl
is_refusal (NoRule n) = refl
is_refusal (UnknownKind at) = refl
is_refusal (UndefinedPicture at) = refl
