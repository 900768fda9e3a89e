-- What is left of the words passed, as digits; those still to come are the first of the set.
use mathlib.Core.Path.{◌≡◌}
use Prim.Native.Nat.{ℕ, ◌%◌, ◌<◌, ◌≤◌}
use lib.ListN.{length, get_or, drop}
use Rattle.sets.specs.Sets.{set_of}
use Rattle.build.proofs.remainder.Given as goal

abbrev pub invariant-loop-word : goal.invariant-loop-word
invariant-loop-word l =
    let left = l.word-iterator.iter.rest.now in
    (length left ≤ length l.set) × ((i : ℕ) → i < length left → get_or left i 0 ≡ get_or l.set i 0) × (l.rest ≡ set_of (drop (length left) l.set) % 4093)
