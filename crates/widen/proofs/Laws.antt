-- When widening is done, and what it answers otherwise. Assumes nothing.
use mathlib.Core.Path.{◌≡◌}
use Prim.Native.Nat.{ℕ, ◌/◌, ◌≤◌, ◌<◌}
use native.Mathlib.Omega.{arith}
use native.Mathlib.Decide.{dec_lt}
use borrow.Author.Tests.{lt-ltb, le-ltb}
use Rattle.sets.specs.Table.{row_words}
use Rattle.widen.specs.Widen.{short, widen_of, LiveFirst}
use Rattle.std.specs.Prelude.{Result, Ok}
use Rattle.widen.specs.declared.Short.{Short}

not_short : {A : Type 0} {n : ℕ} {x : Result Unit Short} → x ≡ short n → x ≡ Ok tt → A
not_short p q = cc

pub judged : LiveFirst
judged a b live out = record {
  done = (room, λ (x, y). rw (le-ltb (live / row_words) a x, le-ltb (out / row_words) b y));
  live_short = no_live;
  out_short = no_out;
}
  where
    no_live : live / row_words < a → widen_of a b live out ≡ short a
    no_live h = rw (lt-ltb (live / row_words) a h)

    no_out : a ≤ live / row_words → out / row_words < b → widen_of a b live out ≡ short b
    no_out l h = rw (le-ltb (live / row_words) a l, lt-ltb (out / row_words) b h)

    room : widen_of a b live out ≡ Ok tt → (a ≤ live / row_words) × (b ≤ out / row_words)
    room e =
        elim (dec_lt (live / row_words) a) [
          | yes h ↦ not_short (no_live h) e
          | no g ↦ elim (dec_lt (out / row_words) b) [ yes h ↦ not_short (no_out (omega arith) h) e | no k ↦ (omega arith, omega arith) ]
        ]
