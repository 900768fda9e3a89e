-- The refusals of a build are numbered from 1 on. Assumes nothing.
use mathlib.Core.Path.{◌≡◌}
use native.Mathlib.Omega.{arith}
use Rattle.format.specs.declared.Refusal.TheVariants.{Cut, OtherTag, PictureBody, PictureMany, RuleBody, RuleLong, RuleMany, NoRule, UnknownKind, UndefinedPicture}
use Rattle.promised.specs.declared.BuildRefusal.{BuildRefusal}
use Rattle.promised.specs.declared.BuildRefusal.TheVariants.{NoRoom, Book}
use Rattle.promised.specs.Promise.{number_why}

pub not_0 : (why : BuildRefusal) → number_why why ≡ 0 → ⊥
not_0 (NoRoom n) e = omega arith
not_0 (Book (Cut at)) e = omega arith
not_0 (Book (OtherTag at)) e = omega arith
not_0 (Book (PictureBody at)) e = omega arith
not_0 (Book (PictureMany at)) e = omega arith
not_0 (Book (RuleBody at)) e = omega arith
not_0 (Book (RuleLong at)) e = omega arith
not_0 (Book (RuleMany at)) e = omega arith
not_0 (Book (NoRule at)) e = omega arith
not_0 (Book (UnknownKind at)) e = omega arith
not_0 (Book (UndefinedPicture at)) e = omega arith
