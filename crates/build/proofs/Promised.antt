-- What a build promises, from what the reader and `make` ensure. Assumes nothing.
use mathlib.Core.Path.{◌≡◌, subst, subst⁻¹}
use mathlib.Core.List.{List}
use Rattle.std.proofs.Common.{Ok, Err}
use Rattle.std.specs.Result.{IsErrAnd}
use Prim.Native.Nat.{ℕ}
use Rattle.meaning.specs.Rules.{Rules}
use Rattle.meaning.specs.Tables.{Five}
use Rattle.book.specs.declared.Book.{Book}
use Rattle.format.specs.declared.Refusal.{Refusal}
use Rattle.format.specs.Answers.{number, value}
use Rattle.format.specs.Format.{Meaning, refused, meaning_of}
use Rattle.book.specs.Meant.{rules_held}
use Rattle.format.specs.Lawful.{Accepting}
use Rattle.build.specs.Sets.{Within}
use Rattle.promised.specs.Promise.{Built, number_of, value_of, Builds, Answers, builds, refuses, Promise}
use Rattle.promised.specs.declared.BuildRefusal.TheVariants.{Book as OfBook}
use Rattle.build.specs.Course.{Makes}
use Rattle.build.proofs.Laws.{short_in}
use Rattle.build.proofs.Theory.{builds_of}

module _ {s : List ℕ} {b : Book} (A : Accepting s b) where
  pub accepted-within : Within b
  accepted-within = record { few = A.few; short = A.short }

  pub accepted-builds : (old : Five) {new : Five} {x : Built} → Makes (rules_held b) old new x → Promise s old new x
  accepted-builds old {new} {x} m =
      subst⁻¹ (λ (y : Meaning). Answers old y new (number_of x) (value_of x)) A.meant
      (builds (subst (λ (r : Rules). Builds r old new (number_of x) (value_of x)) A.same (builds_of (short_in b accepted-within) old m)))

pub refused_leaves : (s : List ℕ) {why : Refusal} (old : Five) (x : Built) → IsErrAnd x (λ e. e ≡ OfBook why) → meaning_of s ≡ refused why → Promise s old old x
refused_leaves s old (Ok n) q e = absurd q
refused_leaves s {why} old (Err w) q e = rw q (subst⁻¹ (λ (y : Meaning). Answers old y old (number why) (value why)) e refuses)
