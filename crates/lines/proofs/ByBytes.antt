-- The cases by bytes, by computation. Assumes nothing.
use mathlib.Core.Path.{refl}
use Rattle.sets.specs.Sums.{sum_over}
use Rattle.lines.specs.Lines.{split, last_mark_of, pass_over, number_from, count_of, line_of, line_check, check_of}
use Rattle.lines.specs.ByBytes.{ByBytes}

pub by_bytes : ByBytes
unfolding sum_over split last_mark_of pass_over number_from count_of line_of line_check check_of
by_bytes = record {
  lines = record { none = refl; two = refl; ended = refl; empty = refl; others = refl };
  frames = record { two = refl; last = refl; empty = refl; others = refl; line = refl };
  counted = record { none = refl; zero = refl; zeros = refl; leading = refl; digits = refl; largest = refl; more = refl; nines = refl; eleven = refl; below = refl; above = refl; added = refl };
  line = record { sound = refl; last = refl; spaces = refl; none = refl; no_space = refl; no_count = refl; no_stack = refl; others = refl; cr = refl };
  check = record { none = refl; ended = refl; unended = refl; first = refl; empty = refl };
}
