-- As the rows are filled, in the same buffers.
use mathlib.Core.Path.{◌≡◌}
use Rattle.std.proofs.Common.{Some, None, rules}
use Prim.Native.Nat.{ℕ}
use Rattle.meaning.specs.Rules.{Rules}
use Rattle.meaning.specs.Tables.{Five}
use Rattle.build.specs.Course.{Others, sides, EveryRow, AllFilled, filled, crowded}
use Rattle.build.proofs.fill.Goals as goal

-- the five with other tables beside goto, equal to them
module _ {r : Rules} {lent m : ℕ} {a b : Five} {u : Others} (fall : b.fall ≡ u.fall) (held : b.held ≡ u.held) (live : b.live ≡ u.live) (out : b.out ≡ u.out) where
  filled_in : EveryRow r lent a.goto (sides a) b.goto u m (Some tt) → AllFilled r lent a b (Some m)
  filled_in x = filled (rw (fall, held, live, out) x)

  crowded_in : EveryRow r lent a.goto (sides a) b.goto u m None → AllFilled r lent a b None
  crowded_in x = crowded {n = m} (rw (fall, held, live, out) x)

pub fill_all-requires-clause-ready : goal.fill_all-requires-clause-ready
fill_all-requires-clause-ready c = record { within = c.requires.within; room = c.requires.sane.room; chained = c.empty.ensures _ }

pub returns-in_err-fill_all-clause-course : goal.returns-in_err-fill_all-clause-course
returns-in_err-fill_all-clause-course c = rw c.from_residual.ensures (crowded_in (search rules) (search rules) (search rules) (search rules) c.in_err-fill_all.ensures.course)

pub returns-clause-course : goal.returns-clause-course
returns-clause-course c = filled_in (search rules) (search rules) (search rules) (search rules) c.in_ok-fill_all.ensures.course
