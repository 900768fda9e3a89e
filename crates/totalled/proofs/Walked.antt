-- A leaf is walked as `walk` walks a text: the walk fails where that one is refused with 13, at the same byte. Assumes nothing.
use mathlib.Core.List.{List, [], ◌∷◌}
use mathlib.Core.Logic.{◌≢◌}
use mathlib.Core.Path.{◌≡◌, refl, ◌∙◌}
use Prim.Native.Nat.{ℕ, ◌+◌, ◌≤◌, ◌<◌}
use native.Mathlib.Omega.{arith}
use lib.ListN.{length}
use Rattle.meaning.specs.Tables.{Five}
use Rattle.book.specs.Limits.{most_bytes}
use Rattle.lent.specs.Lent.{lent}
use Rattle.std.specs.Prelude.{Option, Some, None, Result, Ok}
use Rattle.answers.specs.declared.Damaged.{Damaged}
use Rattle.walk.specs.declared.Run.{Run}
use Rattle.one_byte.specs.declared.Moved.{Moved}
use Rattle.answers.specs.Walked.{number_of, value_of}
use Rattle.one_byte.specs.Move.{move_from, move_of}
use Rattle.walk.specs.Walk.{reported, run_from, run_of, walk_of}
use Rattle.one_byte.proofs.Laws.{Within, move-within}
use Rattle.walk.proofs.Stops.{on_run, move_is, run-stops, run_ends}
use Rattle.lines.specs.Lines.{Pass}
use Rattle.leaf.specs.Leaf.{end_from, end_of, on_end}

module _ (b : Five) (n : ℕ) (lends : n ≤ lent b) where
  abbrev moving : ℕ → ℕ → Option Moved
  moving row c = move_from b.goto b.fall n row c 0

  abbrev run : ℕ → ℕ → ℕ → ℕ → List ℕ → Result Run Damaged
  run = run_from b.goto b.fall b.out n

  module _ {A : Type 0} (f g : ℕ → A) where
    -- the leaf's walk ends where the run does
    end_is : (leaf : List ℕ) (at row falls made : ℕ) → row < n → on_end (end_from (move_of b.goto b.fall n) at row leaf) f g ≡ on_run (run at row falls made leaf) f g
    unfolding end_from run_from
    end_is [] at row falls made l = refl
    end_is (c ∷ leaf) at row falls made l = go (moving row c) refl (move-within b.goto b.fall n row c 0) (λ to x m h. end_is leaf (at + 1) to x m h)
      where
        go : (m : Option Moved) → moving row c ≡ m → Within n m
            → ((to x m : ℕ) → to < n → on_end (end_from (move_of b.goto b.fall n) (at + 1) to leaf) f g ≡ on_run (run (at + 1) to x m leaf) f g)
            → on_end (end_from (move_of b.goto b.fall n) at row (c ∷ leaf)) f g ≡ on_run (run at row falls made (c ∷ leaf)) f g
        go (Some m) e w ih = rw (move_is b n lends row c l, e) (ih m.row (falls + m.falls) (made + length (reported b.out m.row)) w)
        go None e w ih = rw (move_is b n lends row c l, e)

  module _ (some : n ≢ 0) (leaf : List ℕ) (short : length leaf ≤ most_bytes) (g : ℕ → Pass Damaged) where
    leaf_run : on_end (end_of (move_of b.goto b.fall n) leaf) (λ row. Ok tt) g ≡ on_run (run_of b.goto b.fall b.out n leaf) (λ row. Ok tt) g
    unfolding end_of
    leaf_run = end_is (λ row. Ok tt) g leaf 0 0 0 0 (omega arith)

    pub leaf_fails : (x : ℕ) → number_of (walk_of b n leaf 0) ≡ 13 → value_of (walk_of b n leaf 0) ≡ x
        → on_end (end_of (move_of b.goto b.fall n) leaf) (λ row. Ok tt) g ≡ g x
    leaf_fails x e v = leaf_run ∙ run-stops b n lends some leaf short (Ok tt) g x e v

    pub leaf_kept : number_of (walk_of b n leaf 0) ≢ 13 → on_end (end_of (move_of b.goto b.fall n) leaf) (λ row. Ok tt) g ≡ Ok tt
    leaf_kept ne = leaf_run ∙ run_ends b n lends some leaf short (Ok tt) g ne
