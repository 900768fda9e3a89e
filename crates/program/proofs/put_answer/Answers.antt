-- The line of a refusal stands alone; that of a build that is accepted is followed by the program's lines.
use Rattle.std.proofs.Common.{arith, rules, Ok, Err, ℕ, ◌≤◌, List, length, take, drop, ap, subst, ◌∙◌}
use Rattle.lent.specs.Lent.{buffers_of}
use Rattle.output.proofs.Laws.{puts_append}
use Rattle.output.proofs.Room.{alone, put_ends, whole-refused, whole-accepted}
use Rattle.promised.specs.Promise.{number_why, value_why}
use Rattle.program.proofs.Laws.{not_0}
use Rattle.program.proofs.put_answer.Goals as goal

pub returns-in_default-clause-rest : goal.returns-in_default-clause-rest
returns-in_default-clause-rest g c = ap (drop c.put_built.new.self.end) (search rules) ∙ (put_ends c.put_built.ensures.puts).1

pub returns-in_default-clause-puts : goal.returns-in_default-clause-puts
returns-in_default-clause-puts g c =
    let why = c.in_default.field-0 in
    let tables = buffers_of c.build-built.new.buffers in
    let lines = g.L.Lines.lines_of c.args.lines.now tables (value_why why) in
    let line = rw (c.number.ensures, c.value.ensures, c.in_default.is) at c.put_built.ensures in
    let all = rw (alone (number_why why) (value_why why) lines (not_0 why)) at line.puts in
    record {
      built = Err why;
      tables = tables;
      kept = rw c.in_default.is at c.build-built.ensures.promise;
      puts = record { filled = search rules ∙ all.filled; behind = all.behind };
    }

pub returns-in_default-clause-answers : goal.returns-in_default-clause-answers
returns-in_default-clause-answers g c room =
    let why = c.in_default.field-0 in
    let tables = buffers_of c.build-built.new.buffers in
    let line = rw (c.number.ensures, c.value.ensures, c.in_default.is) at c.put_built.ensures in
    let whole = whole-refused (number_why why) (value_why why) (g.L.Lines.lines_of c.args.lines.now tables (value_why why)) (omega (arith, room)) (not_0 why) line.puts in
    record {
      built = Err why;
      tables = tables;
      kept = rw c.in_default.is at c.build-built.ensures.promise;
      lines_are = ap (take c.put_built.new.self.end) (search rules) ∙ whole;
    }

pub returns-clause-within : goal.returns-clause-within
returns-clause-within g c = subst (λ (x : List ℕ). c.put.new.answer.end ≤ length x) (search rules) (put_ends (puts_append c.put_built.ensures.puts c.put.ensures.puts.puts)).0

pub returns-clause-rest : goal.returns-clause-rest
returns-clause-rest g c = ap (drop c.put.new.answer.end) (search rules) ∙ (put_ends (puts_append c.put_built.ensures.puts c.put.ensures.puts.puts)).1

pub returns-clause-puts : goal.returns-clause-puts
returns-clause-puts g c =
    let rows = c.in-Ok.rows in
    let tables = buffers_of c.build-built.new.buffers in
    let line = rw (c.number.ensures, c.value.ensures, c.in-Ok.is) at c.put_built.ensures in
    let more = rw (c.machine.ensures.tables, c.machine.ensures.rows) at c.put.ensures.puts in
    let all = puts_append line.puts more.puts in
    record {
      built = Ok rows;
      tables = tables;
      kept = rw c.in-Ok.is at c.build-built.ensures.promise;
      puts = record { filled = search rules ∙ all.filled; behind = all.behind };
    }

pub returns-clause-answers : goal.returns-clause-answers
returns-clause-answers g c room =
    let rows = c.in-Ok.rows in
    let tables = buffers_of c.build-built.new.buffers in
    let line = rw (c.number.ensures, c.value.ensures, c.in-Ok.is) at c.put_built.ensures in
    let more = rw (c.machine.ensures.tables, c.machine.ensures.rows) at c.put.ensures.puts in
    let fits = rw (c.machine.ensures.tables, c.machine.ensures.rows) at c.put.ensures.fits in
    let whole = whole-accepted rows (g.L.Lines.lines_of c.args.lines.now tables rows) (omega (arith, fits, room)) line.puts more.puts in
    record {
      built = Ok rows;
      tables = tables;
      kept = rw c.in-Ok.is at c.build-built.ensures.promise;
      lines_are = ap (take c.put.new.answer.end) (search rules) ∙ whole;
    }
