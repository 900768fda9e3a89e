-- The leaf of a line by where the walk of its last frame ends. Assumes nothing.
use mathlib.Core.Bool.{cond}
use mathlib.Core.List.{List}
use mathlib.Core.Path.{◌≡◌, refl}
use Prim.Native.Nat.{ℕ, ◌+◌}
use lib.Dec.{eqb}
use lib.ListN.{length}
use Rattle.meaning.specs.Tables.{Five}
use Rattle.one_byte.specs.Move.{move_of}
use Rattle.std.specs.Prelude.{Result, Ok, Err}
use Rattle.answers.specs.declared.Damaged.{Damaged}
use Rattle.lines.specs.Lines.{Pass}
use Rattle.leaf.specs.Leaf.{leaf_of, leaf_start, damaged, end_of, on_end, unnamed, family_at, counts_at, stack_leaf, on_leaf}

module _ {A : Type 0} (b : Five) (n : ℕ) (f : ℕ → ℕ → A) (g : ℕ → A) where
  pub stack_by_end : (stack : List ℕ) (count : ℕ) → on_leaf (stack_leaf b n stack count) f g
      ≡ on_end (end_of (move_of b.goto b.fall n) (leaf_of stack)) (λ row. f (family_at b.held b.live b.out row (length (leaf_of stack))) count) (λ at. g (leaf_start stack + at))
  unfolding stack_leaf
  stack_by_end stack count = go (end_of (move_of b.goto b.fall n) (leaf_of stack))
    where
      go : (e : Result ℕ Damaged) → on_leaf (on_end e (λ row. counts_at (family_at b.held b.live b.out row (length (leaf_of stack))) count) (λ at. damaged (leaf_start stack + at))) f g
          ≡ on_end e (λ row. f (family_at b.held b.live b.out row (length (leaf_of stack))) count) (λ at. g (leaf_start stack + at))
      go (Ok row) = refl
      go (Err d) = refl

-- A count at the place of a row's family is there by the family, where the walk gets through.
pub kept_end : (e : Result ℕ Damaged) (family : ℕ → ℕ) (p count : ℕ) (fails : ℕ → ℕ) → on_end {A = Pass Damaged} e (λ row. Ok tt) (λ i. damaged (fails i)) ≡ Ok tt
    → on_end e (λ row. cond (eqb (family row) p) count 0) (λ at. 0) ≡ cond (eqb (on_end e family (λ at. unnamed)) p) count 0
kept_end (Ok row) family p count fails t = refl
kept_end (Err d) family p count fails t = cc
