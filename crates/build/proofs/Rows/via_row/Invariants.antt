-- Each entry passed is where its byte leads.
use Prim.Native.Nat.{ℕ, ◌<◌}
use mathlib.Core.Path.{◌≡◌}
use lib.ListN.{length, get_or}
use Rattle.build.specs.Course.{Leads}
use Rattle.build.proofs.Rows.via_row.Given as goal

abbrev pub invariant-loop-c : goal.invariant-loop-c
invariant-loop-c l = (length l.via ≡ 256) × ((k : ℕ) → k < l.c → Leads l.goto l.self.fall.now k (get_or l.self.fall.now l.s 0) (get_or l.via k 0))
