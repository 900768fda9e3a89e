-- No row but 0 is in a chain.
use mathlib.Core.Path.{refl}
use Rattle.book.specs.Limits.{most_rows}
use Rattle.build.proofs.InChains.{chains_start}
use Rattle.build.proofs.Chains.empty.Goals as goal

pub returns : goal.returns
returns c = chains_start most_rows refl
