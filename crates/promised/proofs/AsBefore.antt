-- The tables of a book whose pictures lie apart are those of the rules by the numbers, as these are its rules. Assumes nothing.
use mathlib.Core.Path.{◌≡◌, refl, sym, subst, ◌∙◌}
use mathlib.Core.List.{List}
use Prim.Native.Nat.{ℕ}
use Rattle.rows.specs.Rows.{ByteText}
use Rattle.meaning.specs.Rules.{Rules}
use Rattle.meaning.specs.Tables.{Five}
use Rattle.book.specs.Content.{Content}
use Rattle.format.specs.Format.{Meaning, means, meaning_of}
use Rattle.book.specs.Meant.{rules_of}
use Rattle.book.specs.Apart.{Apart, rules_before}
use Rattle.format.proofs.Sizes.{lawful}
use Rattle.book.proofs.Meant.{rules-same-held}
use Rattle.book.proofs.Apart.{apart_as_before}
use Rattle.promised.specs.Promise.{number_of, value_of, Builds, Answers, builds, refuses}
use Rattle.promised.specs.AsBefore.{TablesAsBefore}
use Rattle.promised.proofs.Exact.{same_content, not_refused, builds-same}

-- what is promised of a sound book
pub of_sound : {m : Meaning} {old b : Five} {i v : ℕ} (a : Content) → m ≡ means a → Answers old m b i v → Builds (rules_of a) old b i v
of_sound {old = old} {b = b} {i = i} {v = v} a e (builds p) = subst (λ (x : Content). Builds (rules_of x) old b i v) (same_content refl e) p
of_sound a e refuses = not_refused e refl

rules_before_lem : (s : List ℕ) → ByteText s → (a : Content) → meaning_of s ≡ means a → Apart a.pictures → rules_of a ≡ rules_before a
rules_before_lem s small a e apart =
    let S = (lawful s small a e).sound in
    sym ((apart_as_before a S apart).rules ∙ rules-same-held a S refl)

pub tables_as_before : TablesAsBefore
tables_as_before c small a e apart = record { kept = kept; only = λ p w w'. let s = builds-same w w' p kept in (s.number_same, s.value_same, s.buffers_same) }
  where
    kept : Builds (rules_before a) c.old c.new (number_of c.answer) (value_of c.answer)
    kept =
        subst (λ (r : Rules). Builds r c.old c.new (number_of c.answer) (value_of c.answer)) (rules_before_lem c.bytes small a e apart)
        (of_sound a e c.promise)
