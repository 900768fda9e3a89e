-- Laws on sets of rules and on the rules of a record. Assumes nothing.
use Prim.Native.Nat.{ℕ, zero, suc, ◌+◌, ◌-◌, ◌*◌, ◌/◌, ◌%◌, ◌^◌, ◌≤◌, ◌<◌}
use mathlib.Core.Path.{◌≡◌, refl, sym, ap, ◌∙◌}
use mathlib.Core.Logic.{◌≢◌}
use mathlib.Core.Bool.{Bool, true, false, ◌&&◌, ◌||◌, or-false, or-true, true-or, and_assoc}
use mathlib.Core.List.{List, ◌∷◌}
use native.Mathlib.Omega.{arith}
use native.Mathlib.Decide.{dec_lt}
use lib.Dec.{eqb, ltb}
use native.Mathlib.Nat.{pow-suc}
use lib.Pow.{suc_ones}
use lib.ListN.{length, get_or, get_or-eq_default}
use borrow.Author.Tests.{eq-eqb, ne_eqb, le-ltb, lt-ltb}
use Rattle.rows.proofs.Compare.{less, equal, more, order}
use Rattle.sets.specs.Sets.{has, set_where, adding, among, set_of}
use Rattle.sets.specs.Table.{row_words}
use Rattle.sets.proofs.Laws.{same, has_in, has-empty, has-set_where, set_where-ext}
use Rattle.sets.proofs.InWords.{Words, has-set_of}
use Rattle.meaning.specs.Rules.{fits_at}
use Rattle.meaning.specs.Step.{next_live, finished}
use Rattle.book.specs.declared.Book.{Book}
use Rattle.book.specs.Limits.{most_symbols}
use Rattle.book.specs.Meant.{rules_held, SaysWhetherFits}
use Rattle.book.proofs.Meant.{count_in, size_in, symbol_in}
use Rattle.build.specs.Sets.{Within, Short}

-- ---- a set of rules, number by number

either : {A : Type 0} (m n : ℕ) → (m ≡ n → A) → (m ≢ n → A) → A
either m n here there = elim (order m n) [ less l ↦ there (λ q. omega arith) | equal q ↦ here q | more l ↦ there (λ q. omega arith) ]

-- the first of what is left is kept where it passes, and else is passed over
module _ (q : ℕ → Bool) (a k : ℕ) (ks : List ℕ) (b : ℕ) where
  pub kept-in : b < 64 → q k ≡ true → (has (adding 64 a k) b || (q b && among b ks)) ≡ (has a b || (q b && among b (k ∷ ks)))
  unfolding adding among
  kept-in l t =
      rw (has_in 64 b (λ i. has a i || eqb i k) l)
      (either b k
      (λ e. rw (e, eq-eqb k k refl, t, or-true, true-or))
      (λ ne. rw (ne_eqb b k ne, ne_eqb k b (λ e. ne (sym e)), or-false)))

  pub kept_out : q k ≡ false → (has a b || (q b && among b ks)) ≡ (has a b || (q b && among b (k ∷ ks)))
  unfolding among
  kept_out f =
      either b k
      (λ e. rw (e, f))
      (λ ne. rw (ne_eqb k b (λ e. ne (sym e))))

-- words that have, bit by bit, those of a set below n that pass make the set of these
pub set_of_those : (n : ℕ) (p : ℕ → Bool) (us ws : List ℕ) → Words us → Words ws → length ws ≡ row_words → n ≤ 64 * row_words
    → ((i b : ℕ) → i < row_words → b < 64 → has (get_or ws i 0) b ≡ (ltb (64 * i + b) n && p (64 * i + b) && has (get_or us i 0) b))
    → set_of ws ≡ set_where n (λ k. p k && has (set_of us) k)
set_of_those n p us ws f g long few e =
    same _ _ (λ k. has-set_of ws g k ∙ at k (k / 64) (k % 64) (omega arith) (omega arith)
    ∙ sym (has-set_where n k (λ k. p k && has (set_of us) k) ∙ ap (λ t. ltb k n && (p k && t)) (has-set_of us f k)))
  where
    at : (k i b : ℕ) → k ≡ 64 * i + b → b < 64 → has (get_or ws i 0) b ≡ (ltb k n && (p k && has (get_or us i 0) b))
    at k i b q l =
        elim (dec_lt i row_words) [
          | yes h ↦ rw q (e i b h l ∙ and_assoc (ltb (64 * i + b) n) (p (64 * i + b)) (has (get_or us i 0) b))
          | no h ↦
              let past : length ws ≤ i = omega arith in
              rw (get_or-eq_default ws 0 past, has-empty, le-ltb k n (omega arith))
        ]

-- 2 ^ n - 1 has every number below n
full_to : (n : ℕ) → set_where n (λ _. true) ≡ 2 ^ n - 1
unfolding set_where
full_to zero = refl
full_to (suc n) = rw (full_to n, pow-suc 2 n) (let p = suc_ones n in omega arith)

pub in_full : (n b : ℕ) → b < n → has (2 ^ n - 1) b ≡ true
in_full n b l = rw (sym (full_to n)) (has_in n b (λ _. true) l)

-- words that have, bit by bit, every number below n make a set that has them
pub in-all : (n : ℕ) (ws : List ℕ) → Words ws → n ≤ 64 * row_words → ((i b : ℕ) → i < row_words → b < 64 → 64 * i + b < n → has (get_or ws i 0) b ≡ true)
    → (k : ℕ) → k < n → has (set_of ws) k ≡ true
in-all n ws g few e k l = has-set_of ws g k ∙ e (k / 64) (k % 64) (omega arith) (omega arith) (omega arith)

-- ---- the rules that a record holds

module _ (b : Book) where
  pub short_in : Within b → Short (rules_held b)
  short_in w = record { at = λ k h. rw (size_in b.symbols b.lengths b.picture b.rules k (rw count_in at h)) (w.short k) }

  -- whether the byte c fits symbol h of rule k, and that it does not where there is none
  pub fits_in : (h c k : ℕ) {t : Bool} → k < b.rules → h < get_or b.lengths k 0 → SaysWhetherFits b.picture c (get_or b.symbols (most_symbols * k + h) 0) t
      → t ≡ fits_at (rules_held b) c k h
  unfolding fits_at
  fits_in h c k l i j =
      rw (size_in b.symbols b.lengths b.picture b.rules k l, symbol_in b.symbols b.lengths b.picture b.rules k h l i, lt-ltb h (get_or b.lengths k 0) i)
      (j b.symbols b.lengths b.rules)

  pub stops_in : (h c k : ℕ) → k < b.rules → get_or b.lengths k 0 ≤ h → fits_at (rules_held b) c k h ≡ false
  unfolding fits_at
  stops_in h c k l i = rw (size_in b.symbols b.lengths b.picture b.rules k l, le-ltb h (get_or b.lengths k 0) i)

  -- the rules that do, and those of a set that have h symbols
  pub next_in : (h s c u : ℕ) → ((k : ℕ) → k < b.rules → has u k ≡ (eqb h 0 || has s k)) → set_where b.rules (λ k. fits_at (rules_held b) c k h && has u k) ≡ next_live (rules_held b) h s c
  unfolding next_live
  next_in h s c u e = rw (count_in b.symbols b.lengths b.picture b.rules) (set_where-ext b.rules _ _ (λ k l. ap (λ t. fits_at (rules_held b) c k h && t) (e k l)))

  pub finished_in : (h s : ℕ) → set_where b.rules (λ k. eqb (get_or b.lengths k 0) h && has s k) ≡ finished (rules_held b) h s
  unfolding finished
  finished_in h s = rw (count_in b.symbols b.lengths b.picture b.rules) (set_where-ext b.rules _ _ (λ k l. rw (size_in b.symbols b.lengths b.picture b.rules k l)))
