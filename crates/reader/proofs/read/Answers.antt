-- The record is what the fields left, or the empty one.
use Rattle.std.proofs.Common.{rules}
use Rattle.reader.proofs.Readings.{accepted-read, refused-read}
use Rattle.reader.proofs.read.Goals as goal

pub returns-in-Ok : goal.returns-in-Ok
returns-in-Ok c = accepted-read _ _ c.in-Ok.ensures

pub returns-in-Err : goal.returns-in-Err
returns-in-Err c = refused-read _ _ _ c.in-Err.ensures (search rules)
