-- By what the reader and `make` ensure.
use native.Mathlib.Omega.{arith}
use Rattle.reader.proofs.Accepted.{accepting, refusing}
use Rattle.build.proofs.Promised.{accepted-within, accepted-builds, refused_leaves}
use Rattle.build.proofs.build.Goals as goal

pub make-requires : goal.make-requires
make-requires c = accepted-within (accepting c.args.bytes.now c.read-read.ensures (λ i. omega (arith, c.type_inv.bytes i)) c.in_ok-read.was)

pub returns-in_err-read-clause-promise : goal.returns-in_err-read-clause-promise
returns-in_err-read-clause-promise c =
    refused_leaves c.args.bytes.now _ c.from_residual.result c.from_residual.ensures.1 (refusing c.args.bytes.now c.read-read.ensures c.in_err-read.was)

pub returns-clause-promise : goal.returns-clause-promise
returns-clause-promise c =
    accepted-builds (accepting c.args.bytes.now c.read-read.ensures (λ i. omega (arith, c.type_inv.bytes i)) c.in_ok-read.was) _ c.make.ensures.course
