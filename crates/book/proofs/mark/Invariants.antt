-- What is left to mark makes of the map what the whole body makes of the map at entry.
use Rattle.std.proofs.Common.{◌≡◌, drop}
use Rattle.book.specs.Grown.{mark}
use Rattle.book.proofs.mark.Given as goal

abbrev pub invariant-loop-c : goal.invariant-loop-c
invariant-loop-c l = mark l.p l.fn.map l.body ≡ mark l.p l.map (drop l.c-index l.body)
