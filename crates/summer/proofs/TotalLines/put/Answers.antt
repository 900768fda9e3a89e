-- The lines shown are those of the sums that the tally left, and the line of a refusal is that of its answer.
use Rattle.std.proofs.Common.{arith}
use Rattle.lent.specs.Lent.{tables_of}
use Rattle.summer.proofs.Laws.{total-refused, total-shown}
use Rattle.summer.proofs.TotalLines.put.Goals as goal

pub returns-in-Ok : goal.returns-in-Ok
returns-in-Ok c =
    let a = c.args in
    let (short, put) =
    total-shown
    (tables_of a.tables.now)
    a.tables.now.rows
    a.self.now.profile.now
    c.tally.new.sums
    (rw c.in-Ok.is at c.tally.ensures.answer)
    (rw c.in-Ok.is at c.tally.ensures.buffer)
    (omega arith)
    c.put_sums.ensures.bounded
    c.put_sums.ensures.puts.puts in
    record { fits = short; puts = record { puts = put; same = c.put_sums.ensures.puts.same } }

pub returns-in-Err : goal.returns-in-Err
returns-in-Err c =
    let a = c.args in
    let line = rw (c.number.ensures, c.value.ensures) at c.put_refusal.ensures in
    let (short, put) = total-refused (tables_of a.tables.now) a.tables.now.rows a.self.now.profile.now (rw c.in-Err.is at c.tally.ensures.answer) line.puts in
    record { fits = short; puts = record { puts = put; same = line.same } }
