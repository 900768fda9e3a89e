-- Widening by numbers, by computing. Assumes nothing.
use mathlib.Core.Path.{refl}
use Rattle.book.specs.Content.{table}
use Rattle.widen.specs.Widen.{widened}
use Rattle.widen.specs.Lengths.{WidenedLengths, WidenedBuffers}

pub widened_lengths : WidenedLengths
widened_lengths = record {
  room = record { number_is = refl; value_is = refl };
  more_room = record { number_is = refl; value_is = refl };
  no_row = record { number_is = refl; value_is = refl };
  live_short = record { number_is = refl; value_is = refl };
  out_short = record { number_is = refl; value_is = refl };
  both_short = record { number_is = refl; value_is = refl };
  most = record { number_is = refl; value_is = refl };
  most_short = record { number_is = refl; value_is = refl };
}

pub widened_buffers : WidenedBuffers
unfolding widened table
widened_buffers = record { done = refl; longer = refl; short = refl }
