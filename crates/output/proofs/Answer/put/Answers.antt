-- What is copied are the bytes that have room.
use Rattle.std.proofs.Common.{arith, refl}
use Rattle.output.proofs.Laws.{put-part}
use Rattle.output.proofs.Answer.put.Goals as goal

pub returns : goal.returns
returns c =
    record {
      puts = record { filled = put-part _ _ _ _ _ _ _ (omega arith) (omega arith) (omega arith) c.copy_from_slice.ensures.after; behind = omega arith };
      same = refl;
    }
