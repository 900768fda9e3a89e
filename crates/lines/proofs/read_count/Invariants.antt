-- What the loop keeps: the number that the digits left make is that of all.
use Rattle.std.proofs.Common.{◌≡◌, ◌≤◌, drop}
use Rattle.lines.specs.Lines.{most_count, number_from, limited, count_of}
use Rattle.lines.proofs.read_count.Given as goal

abbrev pub invariant-loop-byte : goal.invariant-loop-byte
invariant-loop-byte l = (l.value ≤ most_count) × (limited (number_from l.value (drop l.byte-index l.digits)) ≡ count_of l.digits)
