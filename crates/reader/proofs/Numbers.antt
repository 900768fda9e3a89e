-- What a read hands back is what its bytes mean, in the numbers of the paper. Assumes nothing.
use Prim.Native.Nat.{ℕ, ◌≤◌}
use mathlib.Core.Path.{◌≡◌, refl, sym, ap, ap₂, ◌∙◌}
use mathlib.Core.Logic.{◌↔◌}
use mathlib.Core.List.{List}
use native.Mathlib.Omega.{arith}
use Rattle.format.specs.declared.Refusal.{Refusal}
use Rattle.format.specs.declared.Refusal.TheVariants.{UnknownKind, UndefinedPicture}
use Rattle.format.specs.Answers.{number, value, number_of, value_of}
use Rattle.book.specs.Content.{Content}
use Rattle.format.specs.Format.{Meaning, means, refused, meaning_of}
use Rattle.format.specs.Which.{Faulty}
use Rattle.format.specs.Largest.{largest_book}
use Rattle.reader.specs.Handed.{handed, read_of}
use Rattle.reader.specs.Numbers.{ReadGives, IsAccepted, IsRefused, Numbered, WhichSymbol, LargestAccepted}
use Rattle.format.proofs.Numbers.{number_some, refusal_of, is_refusal}
use Rattle.format.proofs.Which.{refused_just}
use Rattle.format.proofs.Largest.{largest-means, largest-long}

module _ (s : List ℕ) where
  is_accepted : (a : Content) → meaning_of s ≡ means a → IsAccepted s a
  unfolding read_of handed
  is_accepted a e = record {
    zero = ap (λ m. number_of (handed m).answer) e;
    none = ap (λ m. value_of (handed m).answer) e;
    held = ap (λ m. (handed m).book) e;
  }

  is_refused : (r : Refusal) → meaning_of s ≡ refused r → IsRefused s r
  unfolding read_of handed
  is_refused r e = record {
    named = ap (λ m. number_of (handed m).answer) e;
    some = (number_some r).0;
    not_four = (number_some r).2;
    later = (number_some r).1;
    placed = ap (λ m. value_of (handed m).answer) e;
    empty = ap (λ m. (handed m).book) e;
  }

  by_zero : (m : Meaning) → meaning_of s ≡ m → number_of (read_of s).answer ≡ 0 → (a : Content) × (meaning_of s ≡ means a)
  by_zero (means a) e z = (a, e)
  by_zero (refused r) e z = absurd (omega (arith, (is_refused r e).named, (number_some r).0))

  by_other : (m : Meaning) → meaning_of s ≡ m → 1 ≤ number_of (read_of s).answer → (r : Refusal) × (meaning_of s ≡ refused r)
  by_other (means a) e z = absurd (omega (arith, (is_accepted a e).zero))
  by_other (refused r) e z = (r, e)

  pub numbered : Numbered s
  numbered = record {
    accepted = is_accepted;
    refusal = is_refused;
    zero = by_zero (meaning_of s) refl;
    other = by_other (meaning_of s) refl;
  }

-- a read gives a refusal's number and value just where that is the refusal
pub gives : (s : List ℕ) (r : Refusal) → ReadGives s (number r) (value r) ↔ (meaning_of s ≡ refused r)
gives s r = (into, λ e. ((is_refused s r e).named, (is_refused s r e).placed))
  where
    into : ReadGives s (number r) (value r) → meaning_of s ≡ refused r
    into (n, v) =
        let (x, e) = by_other s (meaning_of s) refl (rw n (number_some r).0) in
        let f = is_refused s x e in
        e ∙ ap refused (sym (is_refusal x) ∙ ap₂ refusal_of (sym f.named ∙ n) (sym f.placed ∙ v) ∙ is_refusal r)

pub which_symbol : WhichSymbol
which_symbol s v = (told (UnknownKind v) (omega arith), told (UndefinedPicture v) (omega arith))
  where
    told : (r : Refusal) → 17 ≤ number r → ReadGives s (number r) (value r) ↔ Faulty s r
    told r late = (λ g. (refused_just s r late).0 ((gives s r).0 g), λ f. (gives s r).1 ((refused_just s r late).1 f))

pub largest-accepted : LargestAccepted
largest-accepted =
    let n = (numbered largest_book).accepted largest-means.0 largest-means.1 in
    (largest-long, (n.zero, n.none))
