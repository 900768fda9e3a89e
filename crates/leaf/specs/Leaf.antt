-- The leaf of a line: where it starts, its walk over tables, and its family. Any five tables will do; their first n rows count. Assumes nothing.
use Rattle.std.specs.Prelude.{cond, ◌&&◌, Option, Result, Ok, Err, List, [], ◌∷◌, ℕ, ◌+◌, ◌-◌, eqb, length, get_or, take}
use Rattle.sets.specs.Sets.{has, those}
use Rattle.sets.specs.Table.{rules_at}
use Rattle.meaning.specs.Tables.{Five}
use Rattle.book.specs.Limits.{most_rules}
use Rattle.one_byte.specs.declared.Moved.{Moved}
use Rattle.one_byte.specs.Move.{move_of, on_move}
use Rattle.lines.specs.Lines.{frames_of, line_of, on_line}
use Rattle.lines.specs.Written.{start_of}
use Rattle.answers.specs.declared.Damaged.{Damaged}
use Rattle.leaf.specs.declared.Leaf.{Leaf}

-- ---- the last frame

-- The leaf of a stack is its last frame, which may be empty; and where that starts.
abbrev pub leaf_of : List ℕ → List ℕ
leaf_of stack = get_or (frames_of stack) (length (frames_of stack) - 1) []

abbrev pub leaf_start : List ℕ → ℕ
leaf_start stack = start_of 0 (frames_of stack) (length (frames_of stack) - 1)

-- ---- its walk

-- the walk fails at this byte
abbrev pub damaged : {A : Type 0} → ℕ → Result A Damaged
damaged at = Err (record { at = at })

module _ (move : ℕ → ℕ → Option Moved) where
  -- From a row, `at` bytes into the leaf: it ends in a row, or at the byte whose move is lost.
  unfoldable pub end_from : ℕ → ℕ → List ℕ → Result ℕ Damaged
  end_from at row [] = Ok row
  end_from at row (c ∷ leaf) = on_move (move row c) (λ to falls. end_from (at + 1) to leaf) (damaged at)

  -- The walk of a leaf starts in row 0, as that of any text.
  unfoldable pub end_of : List ℕ → Result ℕ Damaged
  end_of leaf = end_from 0 0 leaf

-- f of the row that a walk ends in, or g of the byte
abbrev pub on_end : {A : Type 0} → Result ℕ Damaged → (ℕ → A) → (ℕ → A) → A
on_end (Ok row) f g = f row
on_end (Err d) f g = g d.at

-- ---- its family

-- the place of a leaf that has no family, after those of the rules
abbrev pub unnamed : ℕ
unnamed = most_rules

-- the lowest rule that is in both sets, or `unnamed` where there is none
unfoldable pub lowest_of : ℕ → ℕ → ℕ
lowest_of live out = get_or (those (λ k. has live k && has out k) 0 most_rules) 0 unnamed

-- The family of a leaf of so many bytes whose walk ends in the row: the lowest rule in both live and out, when held is that many.
unfoldable pub family_at : List ℕ → List ℕ → List ℕ → ℕ → ℕ → ℕ
family_at held live out row size = cond (eqb (get_or held row 0) size) (lowest_of (rules_at live row) (rules_at out row)) unnamed

-- ---- a line

-- the line's count goes to this place
abbrev pub counts_at : ℕ → ℕ → Result Leaf Damaged
counts_at place count = Ok (record { place = place; count = count })

module _ (b : Five) (n : ℕ) where
  -- what the leaf of a stack comes to, where the line has this count: the count goes to a place, or the walk fails at a byte of the stack
  unfoldable pub stack_leaf : List ℕ → ℕ → Result Leaf Damaged
  stack_leaf stack count =
      on_end (end_of (move_of b.goto b.fall n) (leaf_of stack)) (λ row. counts_at (family_at b.held b.live b.out row (length (leaf_of stack))) count) (λ at. damaged (leaf_start stack + at))

  -- A line's leaf; a line that breaks the rules counts nothing.
  unfoldable pub line_leaf : List ℕ → Result Leaf Damaged
  line_leaf line = on_line (line_of line) (λ stack count. stack_leaf (take stack line) count) (counts_at unnamed 0)

-- f of the place and the count, or g of the byte
abbrev pub on_leaf : {A : Type 0} → Result Leaf Damaged → (ℕ → ℕ → A) → (ℕ → A) → A
on_leaf (Ok l) f g = f l.place l.count
on_leaf (Err d) f g = g d.at
