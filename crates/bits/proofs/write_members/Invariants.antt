-- To store the reports of what is left and has room, from `to` on, gives what the whole call is to give.
use Rattle.std.proofs.Common.{◌≡◌, ℕ, ◌+◌, ◌*◌, ◌≤◌, List, length, take}
use lib.Seq.{sets}
use Rattle.sets.specs.Sets.{members, reports, pairs_from, plus_each}
use Rattle.bits.proofs.write_members.Given as goal

-- the members of s that have room in a buffer of n places, from `to` on
abbrev pub due : ℕ → ℕ → ℕ → List ℕ
due n to s = take (pairs_from n to) (members 64 s)

abbrev pub invariant-loop-k : goal.invariant-loop-k
invariant-loop-k l =
    (length l.out ≡ length l.fn.out) × (l.to ≤ length l.fn.out)
    × (l.to + 2 * length (due (length l.fn.out) l.to l.k-iterator.0) ≡ l.at + 2 * length (due (length l.fn.out) l.at l.set))
    × (sets l.out l.to (reports l.end (plus_each l.base (due (length l.fn.out) l.to l.k-iterator.0))) ≡ sets l.fn.out l.at (reports l.end (plus_each l.base (due (length l.fn.out) l.at l.set))))
