-- The lines shown are those of the walk's reports, and the line of a refusal is that of its answer.
use Rattle.std.proofs.Common.{arith, replicate}
use Rattle.lent.specs.Lent.{tables_of}
use Rattle.lister.proofs.Laws.{search-shown, search-refused}
use Rattle.lister.proofs.SearchLines.put.Goals as goal

pub returns-in-Ok : goal.returns-in-Ok
returns-in-Ok c =
    let a = c.args in
    let (short, put) =
    search-shown
    (tables_of a.tables.now)
    a.tables.now.rows
    a.self.now.text.now
    (replicate 16384 0)
    c.walk.new.reports
    c.in-Ok.ensures.answer
    c.in-Ok.ensures.buffer
    (omega arith)
    c.put_walk.ensures.bounded
    c.put_walk.ensures.puts.puts in
    record { fits = short; puts = record { puts = put; same = c.put_walk.ensures.puts.same } }

pub returns-in-Err : goal.returns-in-Err
returns-in-Err c =
    let a = c.args in
    let line = rw (c.number.ensures, c.value.ensures) at c.put_refusal.ensures in
    let (short, put) = search-refused (tables_of a.tables.now) a.tables.now.rows a.self.now.text.now c.in-Err.ensures.answer line.puts in
    record { fits = short; puts = record { puts = put; same = line.same } }
