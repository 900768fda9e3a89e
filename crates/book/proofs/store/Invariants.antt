-- What is left to store makes of the room what the whole body makes of the room at entry.
use Rattle.std.proofs.Common.{◌≡◌, ◌+◌, ◌/◌, length}
use Rattle.std.proofs.lemmas.List.Edits.{sets}
use Rattle.book.specs.Grown.{symbols_of}
use Rattle.book.proofs.store.Given as goal

abbrev pub invariant-loop-j : goal.invariant-loop-j
invariant-loop-j l = record {
  pairs : l.j-iterator.iter.size ≡ 2;
  places : l.j-iterator.count + length l.j-iterator.iter.rest.now / 2 ≡ length l.body / 2;
  rest : sets l.fn.room l.from (symbols_of l.body) ≡ sets l.room (l.from + l.j-iterator.count) (symbols_of l.j-iterator.iter.rest.now);
}
