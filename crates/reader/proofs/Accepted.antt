-- What an accepted and what a refused read tell of the bytes, for the crates above. Assumes nothing.
use Prim.Native.Nat.{ℕ}
use mathlib.Core.Path.{◌≡◌, refl, ap, ◌∙◌}
use mathlib.Core.List.{List}
use Rattle.reader.specs.declared.ReadBook.{ReadBook}
use Rattle.format.specs.declared.Refusal.{Refusal}
use Rattle.std.specs.Prelude.{Ok, Err}
use Rattle.book.specs.Content.{record_of}
use Rattle.format.specs.Format.{Meaning, means, refused, meaning_of}
use Rattle.reader.specs.Handed.{handed, read_of}
use Rattle.rows.specs.Rows.{ByteText}
use Rattle.format.specs.Lawful.{Accepting}
use Rattle.book.proofs.Held.{rules-held, short_held}
use Rattle.format.proofs.Sizes.{lawful}
use Rattle.book.proofs.Meant.{rules-same-held}

module _ (s : List ℕ) {x : ReadBook} (q : x ≡ read_of s) where
  pub accepting : ByteText s → x.answer ≡ Ok tt → Accepting s x.book
  unfolding read_of handed
  accepting small k = go (meaning_of s) refl q
    where
      go : (m : Meaning) → meaning_of s ≡ m → x ≡ handed m → Accepting s x.book
      go (means a) e w =
          let l = lawful s small a e in
          let h : x.book ≡ record_of a = ap (λ y. y.book) w in
          record {
            content = a;
            meant = e;
            lawful = l;
            held = h;
            same = rules-same-held a l.sound h;
            few = rw (rules-held a h) l.sound.few_rules;
            short = short_held a h l.sound;
          }
      go (refused y) e w = let z : x.answer ≡ Err y = ap (λ y. y.answer) w in absurd (cc)

  pub refusing : {y : Refusal} → x.answer ≡ Err y → meaning_of s ≡ refused y
  unfolding read_of handed
  refusing {y} k = go (meaning_of s) refl q
    where
      go : (m : Meaning) → meaning_of s ≡ m → x ≡ handed m → meaning_of s ≡ refused y
      go (means a) e w = let z : x.answer ≡ Ok tt = ap (λ y. y.answer) w in absurd (cc)
      go (refused y') e w = let z : x.answer ≡ Err y' = ap (λ y. y.answer) w in e ∙ ap refused (let o : y' ≡ y = cc in o)
