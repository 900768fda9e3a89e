-- A frame is no longer than its profile. Assumes nothing.
use Prim.Native.Nat.{ℕ, zero, suc, ◌≤◌}
use mathlib.Core.List.{List, [], ◌∷◌}
use native.Mathlib.Omega.{arith}
use lib.ListN.{length, get_or, take, length-take}
use Rattle.sets.specs.Sums.{sum_over}
use Rattle.std.specs.Prelude.{Option, Some, None}
use Rattle.lines.specs.declared.Line.{Line}
use Rattle.lines.specs.Lines.{lf, semicolon, lines_of, frames_of, line_of, on_line}
use Rattle.lines.specs.Profile.{frames_in, frame_at}
use Rattle.lines.proofs.Lines.{bytes_in, split-bytes}

piece-le : (ps : List (List ℕ)) (i : ℕ) → length (get_or ps i []) ≤ bytes_in ps
unfolding sum_over
piece-le [] i = omega arith
piece-le (p ∷ ps) zero = omega arith
piece-le (p ∷ ps) (suc i) = omega (arith, piece-le ps i)

frames-le : (line : List ℕ) → bytes_in (frames_in line) ≤ length line
unfolding sum_over
frames-le line = go (line_of line)
  where
    go : (l : Option Line) → bytes_in (on_line l (λ stack count. frames_of (take stack line)) []) ≤ length line
    go (Some l) = omega (arith, split-bytes semicolon ([] ∷ []) (take l.stack line), length-take l.stack line)
    go None = omega arith

pub frame_le : (profile : List ℕ) (i j : ℕ) → length (frame_at profile i j) ≤ length profile
unfolding sum_over
frame_le profile i j =
    let line = get_or (lines_of profile) i [] in
    omega (arith, piece-le (frames_in line) j, frames-le line, piece-le (lines_of profile) i, split-bytes lf [] profile)
