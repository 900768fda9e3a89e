-- What the loop over a profile's lines goes by: what is counted so far and what the rest adds is what the profile adds, at each place. Assumes nothing.
use mathlib.Core.List.{List}
use mathlib.Core.Logic.{◌≢◌}
use mathlib.Core.Path.{◌≡◌, refl, sym, ap, ◌∙◌}
use Prim.Native.Nat.{ℕ, ◌+◌, ◌^◌, ◌≤◌, ◌<◌}
use native.Mathlib.Decide.{dec_lt}
use native.Mathlib.Omega.{arith}
use borrow.Author.Tests.{eq-eqb, ne_eqb}
use lib.ListN.{length, get_or, set, drop, replicate, length-set, length-replicate, drop_of_length-le}
use lib.Seq.{get_or-set_same, get_or-set_other}
use Rattle.sets.specs.Sums.{sum_over}
use Rattle.sets.proofs.Zeros.{zero_at}
use Rattle.meaning.specs.Tables.{Five}
use Rattle.book.specs.Limits.{most_bytes}
use Rattle.std.specs.Prelude.{Result, Ok, Err, MatchResult}
use Rattle.answers.specs.declared.Damaged.{Damaged}
use Rattle.lines.specs.Lines.{lf, split, lines_of, up_to, Pass, on_pass, pass_over}
use Rattle.lines.proofs.Lines.{piece, lines_step, lines_pass_lem, lines_end}
use Rattle.lines.proofs.Counts.{counts-fit}
use Rattle.book.specs.Content.{table}
use Rattle.shares.specs.Shares.{all_places, amount_at}
use Rattle.book.proofs.Tables.{is_table}
use Rattle.leaf.specs.declared.Leaf.{Leaf}
use Rattle.leaf.specs.Leaf.{damaged, counts_at, line_leaf, on_leaf}
use Rattle.leaves.specs.Totals.{leaf_pass, leaves_pass, line_adds, profile_adds}
use Rattle.leaves.specs.Steps.{counted_lines}
use Rattle.leaves.proofs.EachPlace.{adds-within}

module _ (b : Five) (n : ℕ) (profile : List ℕ) where
  -- what the lines from `at` on add to a place
  abbrev rest : ℕ → ℕ → ℕ
  rest at p = sum_over (line_adds b n p) (lines_of (drop at profile))

  -- what is counted of the lines before `at`
  pub record Counted (at : ℕ) (parts : List ℕ) : Type 0 where
    pub long : length parts ≡ all_places
    pub each : (p : ℕ) → p < all_places → amount_at parts p + rest at p ≡ profile_adds b n p profile

  pub counted_none : Counted 0 (replicate all_places 0)
  unfolding profile_adds
  counted_none = record { long = length-replicate {A = ℕ} all_places 0; each = λ p h. omega (arith, zero_at all_places p) }

  pub counted-all : {at : ℕ} {parts : List ℕ} → length profile ≤ at → Counted at parts → parts ≡ table all_places (λ p. profile_adds b n p profile)
  unfolding split sum_over
  counted-all {at} {parts} h c =
      is_table all_places (λ p. profile_adds b n p profile) parts c.long (λ p l. omega (arith, c.each p l, none p))
    where
      none : (p : ℕ) → rest at p ≡ 0
      none p = rw drop_of_length-le

  -- the next line, which ends before `end`
  module _ {at end : ℕ} (l : at < length profile) (e : end ≡ at + up_to lf (drop at profile)) (m : end ≤ length profile) where
    rest_step : (p : ℕ) → rest at p ≡ line_adds b n p (piece profile at end) + rest (end + 1) p
    unfolding sum_over
    rest_step p = ap (sum_over (line_adds b n p)) (lines_step profile at end l e m)

    module _ {place count : ℕ} (w : counts_at place count ≡ line_leaf b n (piece profile at end)) (place-there : place < all_places) where
      own : line_adds b n place (piece profile at end) ≡ count
      unfolding line_adds
      own = rw (← w, eq-eqb place place refl)

      other : (p : ℕ) → place ≢ p → line_adds b n p (piece profile at end) ≡ 0
      unfolding line_adds
      other p d = rw (← w, ne_eqb place p d)

      pub count_fits : {parts : List ℕ} → length profile ≤ most_bytes → Counted at parts → get_or parts place 0 + count < 2 ^ 64
      count_fits short c = omega (arith, c.each place place-there, rest_step place, own, adds-within b n place profile, counts-fit profile short)

      pub counted_next : {parts : List ℕ} → Counted at parts → Counted (end + 1) (set parts place (get_or parts place 0 + count))
      counted_next {parts} c = record {
        long = length-set parts place (get_or parts place 0 + count) ∙ c.long;
        each = λ p h. elim (dec_lt p place) [
          | yes g ↦ differs p h (λ z. omega arith)
          | no g ↦ elim (dec_lt place p) [ yes k ↦ differs p h (λ z. omega arith) | no k ↦ let z : p ≡ place = omega arith in rw z same ]
        ];
      }
        where
          more : List ℕ
          more = set parts place (get_or parts place 0 + count)

          same : amount_at more place + rest (end + 1) place ≡ profile_adds b n place profile
          same = omega (arith, get_or-set_same parts place (get_or parts place 0 + count) 0 (omega (arith, c.long, place-there)), c.each place place-there, rest_step place, own)

          differs : (p : ℕ) → p < all_places → place ≢ p → amount_at more p + rest (end + 1) p ≡ profile_adds b n p profile
          differs p h d = omega (arith, get_or-set_other parts place p (get_or parts place 0 + count) 0 (λ z. d (sym z)), c.each p h, rest_step p, other p d)

    -- its part in the pass, where its leaf is q
    pub leaf_turn : (q : Result Leaf Damaged) → q ≡ line_leaf b n (piece profile at end) → pass_over (leaf_pass b n) at (lines_of (drop at profile)) ≡ leaves_pass b n profile
        → on_pass (on_leaf {A = Pass Damaged} q (λ place count. Ok tt) (λ i. damaged (at + i))) (pass_over (leaf_pass b n) (end + 1) (lines_of (drop (end + 1) profile))) ≡ leaves_pass b n profile
    unfolding leaf_pass
    leaf_turn q w so = rw w (sym (lines_pass_lem (leaf_pass b n) profile at end l e m) ∙ so)

    -- the answer x where its walk fails
    pub leaf_ends : (q : Result Leaf Damaged) {x : Result (List ℕ) Damaged} → q ≡ line_leaf b n (piece profile at end)
        → pass_over (leaf_pass b n) at (lines_of (drop at profile)) ≡ leaves_pass b n profile → MatchResult q (λ l. ⊥) (λ d. x ≡ damaged (at + d.at)) → x ≡ counted_lines b n profile
    leaf_ends (Ok k) w so h = absurd h
    leaf_ends (Err d) w so h = rw (← leaf_turn (Err d) w so) h

  pub leaves_end : {at : ℕ} → length profile ≤ at → pass_over (leaf_pass b n) at (lines_of (drop at profile)) ≡ leaves_pass b n profile → Ok tt ≡ leaves_pass b n profile
  leaves_end h so = sym (lines_end (leaf_pass b n) profile _ h) ∙ so
