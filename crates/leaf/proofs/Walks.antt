-- Laws of the walk of a leaf: what the loop goes by. Assumes nothing.
use mathlib.Core.List.{List}
use mathlib.Core.Path.{◌≡◌}
use Prim.Native.Nat.{ℕ, ◌+◌, ◌≤◌, ◌<◌}
use native.Mathlib.Numerals.{add-one}
use lib.ListN.{length, get_or, drop, drop_of_length-le}
use lib.Seq.{drop-cons}
use Rattle.one_byte.specs.declared.Moved.{Moved}
use Rattle.std.specs.Prelude.{Option, Ok}
use Rattle.one_byte.specs.Move.{on_move}
use Rattle.leaf.specs.Leaf.{damaged, end_from}

module _ (move : ℕ → ℕ → Option Moved) where
  module _ (leaf : List ℕ) (at row : ℕ) where
    pub end_here : length leaf ≤ at → end_from move at row (drop at leaf) ≡ Ok row
    unfolding end_from
    end_here h = rw drop_of_length-le

    pub end_move : (m : Option Moved) → at < length leaf → move row (get_or leaf at 0) ≡ m
        → end_from move at row (drop at leaf) ≡ on_move m (λ to falls. end_from move (at + 1) to (drop (at + 1) leaf)) (damaged at)
    unfolding end_from
    end_move m h e = rw (drop-cons leaf at 0, e, add-one at)
