-- Laws of a widened buffer: its places, and the sets of its rows. Assumes nothing.
use mathlib.Core.Path.{◌≡◌, refl, sym, ◌∙◌}
use mathlib.Core.Bool.{Bool, true, false, cond}
use mathlib.Core.List.{List, [], ◌∷◌}
use Prim.Native.Nat.{ℕ, zero, suc, ◌+◌, ◌*◌, ◌/◌, ◌%◌, ◌^◌, ◌≤◌, ◌<◌}
use native.Mathlib.Omega.{arith}
use native.Mathlib.Decide.{dec_lt}
use lib.Dec.{eqb}
use lib.Pow.{pow_pos}
use lib.ListN.{length, get_or, get_or-eq_default}
use borrow.Author.Tests.{eq-eqb, ne_eqb}
use Rattle.sets.specs.Sets.{set_of}
use Rattle.sets.specs.Table.{row_words, rules_at}
use Rattle.sets.proofs.InWords.{Words}
use Rattle.sets.proofs.Table.{rules-words}
use Rattle.meaning.specs.Tables.{ZeroFrom}
use Rattle.book.proofs.Tables.{length_table, get_or_table}
use Rattle.widen.specs.Widen.{widened_at, widened}
use Rattle.widened.specs.OneWord.{SetsKept}

-- ---- the places

pub length-widened : (n : ℕ) (old : List ℕ) → length (widened n old) ≡ n
unfolding widened
length-widened n old = length_table n (widened_at old)

-- a place of the buffer, and a place past it
place : (n : ℕ) (old : List ℕ) (i : ℕ) → i < n → get_or (widened n old) i 0 ≡ widened_at old i
unfolding widened
place n old i h = get_or_table n (widened_at old) i 0 h

past : (n : ℕ) (old : List ℕ) (i : ℕ) → n ≤ i → get_or (widened n old) i 0 ≡ 0
past n old i h = get_or-eq_default (widened n old) 0 (omega (arith, length-widened n old))

-- what holds of the old numbers and of 0 holds of every place
each : (P : ℕ → Type 0) (n : ℕ) (old : List ℕ) (i : ℕ) → P 0 → P (get_or old (i / row_words) 0) → P (get_or (widened n old) i 0)
each P n old i z p = elim (dec_lt i n) [ yes h ↦ rw (place n old i h) (go (eqb (i % row_words) 0)) | no g ↦ let l : n ≤ i = omega arith in rw (past n old i l) z ]
  where
    go : (b : Bool) → P (cond b (get_or old (i / row_words) 0) 0)
    go true = p
    go false = z

pub words-widened : (n : ℕ) (old : List ℕ) → Words old → Words (widened n old)
words-widened n old f i = each (λ x. x < 2 ^ 64) n old i (pow_pos 64) (f (i / row_words))

pub zero-widened : (n m : ℕ) (old : List ℕ) → ZeroFrom m old → ZeroFrom (row_words * m) (widened n old)
zero-widened n m old z i h = each (λ x. x ≡ 0) n old i refl (z (i / row_words) (omega arith))

-- ---- row by row

one_set : (w : ℕ) → set_of (w ∷ []) ≡ w
unfolding set_of
one_set w = omega arith

module _ (n : ℕ) (old : List ℕ) (room : length old ≤ n / row_words) (i : ℕ) where
  -- the first word is the old number, or 0 in both where there is none
  first_word : get_or (widened n old) (row_words * i + 0) 0 ≡ get_or old i 0
  first_word =
      elim (dec_lt i (length old)) [
        | yes h ↦
            let e : (row_words * i + 0) % row_words ≡ 0 = omega arith in
            let q : (row_words * i + 0) / row_words ≡ i = omega arith in
            place n old (row_words * i + 0) (omega arith) ∙ rw (eq-eqb _ 0 e, q)
        | no g ↦ zero-widened n (length old) old (λ j l. get_or-eq_default old 0 l) (row_words * i + 0) (omega arith) ∙ sym (get_or-eq_default old 0 (omega arith))
      ]

  -- the others are 0
  other_word : (j : ℕ) → suc j < row_words → get_or (widened n old) (row_words * i + suc j) 0 ≡ 0
  other_word j h =
      elim (dec_lt (row_words * i + suc j) n) [
        | yes l ↦ place n old (row_words * i + suc j) l ∙ rw (ne_eqb ((row_words * i + suc j) % row_words) 0 (λ e. omega arith))
        | no g ↦ past n old (row_words * i + suc j) (omega arith)
      ]

  pub rules-widened : rules_at (widened n old) i ≡ get_or old i 0
  rules-widened = rules-words (widened n old) i (get_or old i 0 ∷ []) (omega arith) at ∙ one_set (get_or old i 0)
    where
      at : (j : ℕ) → j < row_words → get_or (widened n old) (row_words * i + j) 0 ≡ get_or (get_or old i 0 ∷ []) j 0
      at zero h = first_word
      at (suc j) h = other_word j h

pub sets_kept : SetsKept
sets_kept n old room = record {
  long = length-widened n old;
  sets = rules-widened n old room;
  later = zero-widened n (length old) old (λ i h. get_or-eq_default old 0 h);
}
