-- The count of a line goes to one of the places, all of it. Assumes nothing.
use mathlib.Core.List.{List}
use mathlib.Core.Path.{◌≡◌, refl}
use Prim.Native.Nat.{ℕ, ◌+◌, ◌≤◌}
use native.Mathlib.Omega.{arith}
use lib.ListN.{length, take}
use Rattle.meaning.specs.Tables.{Five}
use Rattle.one_byte.specs.Move.{move_of}
use Rattle.lines.specs.declared.Line.{Line}
use Rattle.lines.specs.Lines.{line_of, on_line}
use Rattle.lines.specs.Profile.{count_in}
use Rattle.answers.specs.declared.Damaged.{Damaged}
use Rattle.leaf.specs.declared.Leaf.{Leaf}
use Rattle.std.specs.Prelude.{Option, Some, None, Result, Ok, Err}
use Rattle.leaf.specs.Leaf.{damaged, end_of, on_end, leaf_of, leaf_start, unnamed, family_at, counts_at, stack_leaf, line_leaf}
use Rattle.leaf.proofs.InBoth.{family_within}

-- what the leaf of a line of this count tells

abbrev pub OnePlace : ℕ → Result Leaf Damaged → Type 0
OnePlace all (Ok l) = (l.place ≤ unnamed) × (l.count ≡ all)
OnePlace all (Err d) = Unit {0}

module _ (b : Five) (n : ℕ) where
  stack_placed : (stack : List ℕ) (count : ℕ) → OnePlace count (stack_leaf b n stack count)
  unfolding stack_leaf
  stack_placed stack count = go (end_of (move_of b.goto b.fall n) (leaf_of stack))
    where
      go : (e : Result ℕ Damaged) → OnePlace count (on_end e (λ row. counts_at (family_at b.held b.live b.out row (length (leaf_of stack))) count) (λ at. damaged (leaf_start stack + at)))
      go (Ok row) = (family_within b.held b.live b.out row (length (leaf_of stack)), refl)
      go (Err d) = tt

  pub line_placed : (line : List ℕ) → OnePlace (count_in line) (line_leaf b n line)
  unfolding line_leaf
  line_placed line = go (line_of line)
    where
      go : (l : Option Line) → OnePlace (on_line l (λ stack count. count) 0) (on_line l (λ stack count. stack_leaf b n (take stack line) count) (counts_at unnamed 0))
      go (Some l) = stack_placed (take l.stack line) l.count
      go None = (omega arith, refl)
