-- A line's leaf by what the line is and by where the leaf's walk ends. Assumes nothing.
use mathlib.Core.List.{List, [], ◌∷◌}
use mathlib.Core.Path.{◌≡◌, refl, sym, ap, ◌∙◌}
use Prim.Native.Nat.{ℕ, zero, suc, ◌+◌, ◌-◌, ◌≤◌, ◌<◌}
use native.Mathlib.Omega.{arith}
use lib.ListN.{length, take, drop, length-take, length-drop}
use Rattle.meaning.specs.Tables.{Five}
use Rattle.one_byte.specs.declared.Moved.{Moved}
use Rattle.one_byte.specs.Move.{move_of}
use Rattle.lines.specs.Lines.{sound_line, line_of}
use Rattle.answers.specs.declared.Damaged.{Damaged}
use Rattle.std.specs.Prelude.{Option, None, Result, Ok, Err, MatchResult}
use Rattle.leaf.specs.declared.Leaf.{Leaf}
use Rattle.leaf.specs.Leaf.{leaf_of, leaf_start, damaged, end_of, counts_at, unnamed, family_at, stack_leaf, line_leaf}
use Rattle.leaf.proofs.Frames.{start-within, leaf_is}

drop-take : (i n : ℕ) (l : List ℕ) → drop i (take n l) ≡ take (n - i) (drop i l)
drop-take zero n l = let q : n - 0 ≡ n = omega arith in rw q
drop-take (suc i) zero l = let q : 0 - suc i ≡ 0 = omega arith in rw q
drop-take (suc i) (suc n) [] = go (suc n - suc i)
  where
    go : (k : ℕ) → [] ≡ take {A = ℕ} k []
    go zero = refl
    go (suc k) = refl
drop-take (suc i) (suc n) (x ∷ l) = let q : suc n - suc i ≡ n - i = omega arith in rw q (drop-take i n l)

-- the last frame of the first bytes of a line, which are its stack, as the part of the line that it is
module _ (line : List ℕ) {stack start : ℕ} (l : stack < length line) (s : start ≡ leaf_start (take stack line)) where
  starts : start ≤ stack
  starts = omega (arith, start-within (take stack line), length-take stack line)

  bytes : take (stack - start) (drop start line) ≡ leaf_of (take stack line)
  bytes = sym (drop-take start stack line) ∙ rw s (sym (leaf_is (take stack line)))

  size : length (leaf_of (take stack line)) ≡ stack - start
  size = rw (← bytes) (simp (length-take, length-drop) (omega (arith, starts)))

  -- where its walk ends
  ends : (move : ℕ → ℕ → Option Moved) {x : Result ℕ Damaged} → x ≡ end_of move (take (stack - start) (drop start line)) → end_of move (leaf_of (take stack line)) ≡ x
  ends move w = sym (ap (end_of move) bytes) ∙ sym w

module _ (b : Five) (n : ℕ) (line : List ℕ) where
  abbrev move : ℕ → ℕ → Option Moved
  move = move_of b.goto b.fall n

  pub leaf_broken : None ≡ line_of line → counts_at unnamed 0 ≡ line_leaf b n line
  unfolding line_leaf
  leaf_broken e = rw (← e)

  -- a line that is sound, and where the walk of its leaf ends
  module _ {stack count start : ℕ} (e : line_of line ≡ sound_line stack count) (l : stack < length line) (s : start ≡ leaf_start (take stack line)) where
    pub leaf_counts : {row place : ℕ} → Ok row ≡ end_of move (take (stack - start) (drop start line)) → place ≡ family_at b.held b.live b.out row (stack - start)
        → counts_at place count ≡ line_leaf b n line
    unfolding line_leaf stack_leaf
    leaf_counts w f = rw (e, ends line l s move w, size line l s, f)

    -- the answer x where it ends at a byte
    pub leaf_stops : (r : Result ℕ Damaged) {x : Result Leaf Damaged} → r ≡ end_of move (take (stack - start) (drop start line))
        → MatchResult r (λ row. ⊥) (λ d. x ≡ damaged (start + d.at)) → x ≡ line_leaf b n line
    unfolding line_leaf stack_leaf
    leaf_stops (Err d) w h = rw (e, ends line l s move w) (rw s at h)
    leaf_stops (Ok row) w h = absurd h
