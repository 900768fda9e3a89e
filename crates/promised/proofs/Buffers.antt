-- What a build leaves in the buffers, from its promise. Assumes nothing.
use mathlib.Core.Path.{◌≡◌, refl}
use mathlib.Core.Logic.{◌≢◌}
use Prim.Native.Nat.{ℕ}
use native.Mathlib.Omega.{arith}
use lib.ListN.{length, length-replicate}
use Rattle.sets.proofs.Zeros.{zero_at}
use Rattle.meaning.specs.Rules.{Rules}
use Rattle.meaning.specs.Tables.{Five}
use Rattle.format.specs.Format.{Meaning}
use Rattle.format.proofs.Numbers.{number_some}
use Rattle.lent.specs.Lent.{zeroed, AsLong}
use Rattle.promised.specs.Promise.{Builds, accepted, no_room, Answers, builds, refuses}
use Rattle.promised.specs.Buffers.{Cleared, ZeroPast, AfterBuild}
use Rattle.promised.proofs.Exact.{not_ten}

pub all-zero : (b : Five) → Cleared b (zeroed b)
all-zero b = record {
  long = record {
    goto_long = length-replicate {A = ℕ} (length b.goto) 0;
    fall_long = length-replicate {A = ℕ} (length b.fall) 0;
    held_long = length-replicate {A = ℕ} (length b.held) 0;
    live_long = length-replicate {A = ℕ} (length b.live) 0;
    out_long = length-replicate {A = ℕ} (length b.out) 0;
  };
  goto_is = zero_at (length b.goto);
  fall_is = zero_at (length b.fall);
  held_is = zero_at (length b.held);
  live_is = zero_at (length b.live);
  out_is = zero_at (length b.out);
}

-- the same of the numbers that a promise has
record After (old b : Five) (i v : ℕ) : Type 0 where
  found : i ≢ 0 → i ≢ 10 → b ≡ old
  zeroes : i ≡ 10 → Cleared old b
  past : i ≡ 0 → ZeroPast v b
  long : AsLong old b

built : {r : Rules} {old b : Five} {i v : ℕ} → Builds r old b i v → After old b i v
built (accepted l t k) = record {
  found = λ some ten. absurd (some refl);
  zeroes = λ z. absurd (omega arith);
  past = λ z. record {
    goto_past = t.rest.goto_rest;
    fall_past = t.rest.fall_rest;
    held_past = t.rest.held_rest;
    live_past = t.rest.live_rest;
    out_past = t.rest.out_rest;
  };
  long = k;
}
built {old = old} (no_room m) = record { found = λ some ten. absurd (ten refl); zeroes = λ z. all-zero old; past = λ z. absurd (omega arith); long = (all-zero old).long }

answered : {m : Meaning} {old b : Five} {i v : ℕ} → Answers old m b i v → After old b i v
answered (builds p) = built p
answered (refuses {why}) = record {
  found = λ some ten. refl;
  zeroes = λ z. absurd (not_ten why z);
  past = λ z. absurd (omega (arith, (number_some why).0));
  long = record { goto_long = refl; fall_long = refl; held_long = refl; live_long = refl; out_long = refl };
}

pub after_build : AfterBuild
after_build c = let a = answered c.promise in record { found = a.found; zeroes = a.zeroes; past = a.past; long = a.long }
