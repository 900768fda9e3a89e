-- A book built, and its tables walked: demands 2 and 3 hold of what the build promises. Assumes nothing.
use mathlib.Core.Path.{◌≡◌, refl}
use Prim.Native.Nat.{ℕ, ◌≤◌}
use native.Mathlib.Omega.{arith}
use Rattle.meaning.specs.Rules.{Rules}
use Rattle.meaning.specs.Tables.{Five, Tables}
use Rattle.format.specs.Format.{Meaning, meaning_of}
use Rattle.book.specs.Meant.{rules_of}
use Rattle.format.proofs.Sizes.{lawful}
use Rattle.reader.proofs.Numbers.{numbered}
use Rattle.lent.specs.Lent.{lent}
use Rattle.promised.specs.Promise.{Builds, accepted, no_room, Answers, builds, refuses}
use Rattle.listed.specs.Whole.{Searched, Searches}
use Rattle.listed.proofs.Demands.{matches}

-- the buffers are as long as before, so the rows are lent
pub built : {r : Rules} {old b : Five} {i v : ℕ} → Builds r old b i v → i ≡ 0 → Tables r b v × (v ≤ lent b)
built (accepted l t long) z = (t, rw (long.goto_long, long.fall_long, long.held_long, long.live_long, long.out_long) l)
built (no_room m) z = absurd (omega arith)

pub searches : Searches
searches bytes byte old b x p z text reports t = go refl p z
  where
    go : {m : Meaning} {c : Five} {i v : ℕ} → meaning_of bytes ≡ m → Answers old m c i v → i ≡ 0 → Searched bytes c v text reports
    go e (builds {a} y) z =
        let (tables, lends) = built y z in
        record {
          content = a;
          meant = e;
          lends = lends;
          matched = matches (rules_of a) _ (record { tables = tables; few = (lawful bytes byte a e).sound.few_rules; bytes = t });
        }
    go e (refuses {why}) z = absurd (omega (arith, ((numbered bytes).refusal why e).some))
