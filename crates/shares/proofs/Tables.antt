-- Laws of tables. Assumes nothing.
use mathlib.Core.Path.{◌≡◌, ◌∙◌}
use mathlib.Core.List.{List}
use Prim.Native.Nat.{ℕ, ◌+◌, ◌<◌}
use native.Mathlib.Omega.{arith}
use native.Mathlib.Decide.{dec_lt}
use lib.ListN.{length, get_or, set, length-set}
use lib.Seq.{get_or-set_same, get_or-set_other}
use Rattle.book.proofs.Tables.{length_table, get_or_table, is_table}
use Rattle.shares.specs.Below.{sum_below}
use Rattle.book.specs.Content.{table}
use Rattle.shares.specs.Shares.{all_places, amount_at, total_of}
use Rattle.shares.proofs.Below.{sum_same}

-- tables of terms that agree, and their total
pub table_same : (n : ℕ) (f g : ℕ → ℕ) → ((k : ℕ) → k < n → f k ≡ g k) → table n f ≡ table n g
table_same n f g e = is_table n g (table n f) (length_table n f) (λ k h. get_or_table n f k 0 h ∙ e k h)

pub total_table : (f : ℕ → ℕ) → total_of (table all_places f) ≡ sum_below f all_places
total_table f = sum_same (amount_at (table all_places f)) f all_places (λ p h. get_or_table all_places f p 0 h)

-- ---- a table that is filled from the front

pub record Filled (f : ℕ → ℕ) (n i : ℕ) (l : List ℕ) : Type 0 where
  pub long : length l ≡ n
  pub done : (k : ℕ) → k < i → get_or l k 0 ≡ f k

pub filled_next : {f : ℕ → ℕ} {n i x : ℕ} {l : List ℕ} → i < n → x ≡ f i → Filled f n i l → Filled f n (i + 1) (set l i x)
filled_next {f} {n} {i} {x} {l} h e w = record {
  long = length-set l i x ∙ w.long;
  done = λ k b. elim (dec_lt k i) [
    | yes m ↦ get_or-set_other l i k x 0 (λ q. omega arith) ∙ w.done k m
    | no m ↦ let q : k ≡ i = omega arith in rw q (get_or-set_same l i x 0 (omega (arith, w.long)) ∙ e)
  ];
}

pub filled-all : {f : ℕ → ℕ} {n i : ℕ} {l : List ℕ} → Filled f n i l → i ≡ n → l ≡ table n f
filled-all {f} {n} {i} {l} w e = is_table n f l w.long (λ k h. w.done k (omega arith))
