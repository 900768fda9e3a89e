-- An accepted book is lawful: it is sound, has a rule, and has no more bytes than fields as large as they may be. Assumes nothing.
use Prim.Native.Nat.{ℕ, zero, suc, ◌+◌, ◌*◌, ◌≤◌}
use mathlib.Core.Path.{◌≡◌, refl}
use mathlib.Core.List.{List, [], ◌∷◌, ◌++◌}
use native.Mathlib.Nat.{suc-mul}
use native.Mathlib.Omega.{arith}
use lib.ListN.{length, get_or}
use Rattle.sets.specs.Sums.{sum_over}
use Rattle.sets.proofs.Sums.{sum_append}
use Rattle.std.specs.Prelude.{Ok}
use Rattle.book.specs.Limits.{most_pictures, most_rules, most_symbols}
use Rattle.book.specs.Content.{Content, nothing, with_picture, with_rule}
use Rattle.book.specs.Grown.{symbols_of}
use Rattle.format.specs.Format.{judge_picture, judge_rule}
use Rattle.rows.specs.Rows.{ByteText}
use Rattle.book.specs.Sound.{Sound}
use Rattle.format.specs.Lawful.{picture_bytes, rule_bytes, bytes_of, AcceptedIsLawful, MostBook}
use Rattle.book.proofs.Records.{length_symbols}
use Rattle.format.proofs.Judged.{picture-sound, rule-sound}
use Rattle.format.proofs.Kept.{kept}
use Rattle.format.proofs.Sounds.{sound-nothing, sound-picture, sound-rule}

-- ---- sums

total-snoc : (w : List ℕ → ℕ) (ls : List (List ℕ)) (l : List ℕ) → sum_over w (ls ++ l ∷ []) ≡ sum_over w ls + w l
unfolding sum_over
total-snoc w ls l = omega (arith, sum_append w ls (l ∷ []))

-- at most n lists, of which none adds more than b
total-most : (w : List ℕ → ℕ) (b n : ℕ) (ls : List (List ℕ)) → length ls ≤ n → ((k : ℕ) → w (get_or ls k []) ≤ b) → sum_over w ls ≤ n * b
unfolding sum_over
total-most w b n [] few h = omega arith
total-most w b zero (l ∷ ls) few h = absurd (omega arith)
total-most w b (suc n) (l ∷ ls) few h = omega (arith, h 0, total-most w b n ls (omega arith) (λ k. h (suc k)), suc-mul n b)

-- ---- the whole book

-- what stands before a place is sound and ends there
record Sized (at : ℕ) (a : Content) : Type 0 where
  pub sound : Sound a
  pub ends : at ≡ bytes_of a

sized_nothing : Sized 0 nothing
unfolding sum_over
sized_nothing = record { sound = sound-nothing; ends = refl }

sized_picture : (at : ℕ) (a : Content) (m : List ℕ) → ByteText m → Sized at a → judge_picture (length a.pictures) at m ≡ Ok tt → Sized (at + 3 + length m) (with_picture a m)
sized_picture at a m small z x =
    let (few, up) = picture-sound (length a.pictures) at m x in
    record {
      sound = sound-picture a z.sound m small few up;
      ends = rw (total-snoc picture_bytes a.pictures m) (omega (arith, z.ends));
    }

sized_rule : (at : ℕ) (a : Content) (l : List ℕ) → ByteText l → Sized at a → judge_rule (length a.rules) (length a.pictures) at l ≡ Ok tt → Sized (at + 3 + length l) (with_rule a (symbols_of l))
sized_rule at a l small z x =
    let h = rule-sound (length a.rules) (length a.pictures) at l refl x in
    record {
      sound = sound-rule a z.sound at l small x;
      ends = rw (total-snoc rule_bytes a.rules (symbols_of l)) (omega (arith, z.ends, length_symbols l, h.3));
    }

pub lawful : AcceptedIsLawful
lawful s small a e =
    let k = kept Sized sized_picture sized_rule s small sized_nothing a e in
    let z = k.0 in
    let S = z.sound in
    record {
      sound = S;
      some_rule = k.1;
      whole = z.ends;
      small =
          omega (
            arith,
            z.ends,
            total-most picture_bytes (3 + 256) most_pictures a.pictures S.few_pictures (λ p. omega (arith, S.up_to p)),
            total-most rule_bytes (3 + 2 * most_symbols) most_rules a.rules S.few_rules (λ k. omega (arith, S.short k)),
          );
    }

pub most_book : MostBook
most_book = refl
