-- Tables of zeros: what a build starts from, and what it leaves where there is no room. Assumes nothing.
use mathlib.Core.Path.{◌≡◌}
use mathlib.Core.Logic.{◌≢◌, inr}
use native.Mathlib.Omega.{arith}
use lib.ListN.{length, length-replicate}
use Rattle.meaning.specs.Tables.{Five}
use Rattle.lent.specs.Lent.{lent, zeroed, AsLong}
use Rattle.build.specs.Course.{IsEntry, Sane, sides}
use Rattle.std.proofs.lemmas.List.Elements.{All-replicate}
use Rattle.sets.proofs.Zeros.{zero_at}

pub zero_sane : (b : Five) → lent b ≢ 0 → Sane (lent b) 1 (zeroed b).goto (sides (zeroed b))
zero_sane b ne =
    record {
      room =
          record {
            used = omega arith;
            few = omega arith;
            fall_room = rw length-replicate (omega arith);
            held_room = rw length-replicate (omega arith);
            live_room = rw length-replicate (omega arith);
            out_room = rw length-replicate (omega arith);
          };
      rows = record { down = λ i h nz. absurd (nz (omega arith)); first = zero_at (length b.fall) 0; short_held = λ i h. rw zero_at (omega arith) };
      goto_room = rw length-replicate (omega arith);
      entries = All-replicate (IsEntry 1) (length b.goto) 0 (inr (omega arith));
      last = λ c h q. omega (arith, zero_at (length b.goto) c);
    }

-- tables as long as those are zeros again
pub zero_again : (a b : Five) → AsLong (zeroed a) b → zeroed b ≡ zeroed a
zero_again a b k = rw (k.goto_long, k.fall_long, k.held_long, k.live_long, k.out_long) (simp length-replicate)
