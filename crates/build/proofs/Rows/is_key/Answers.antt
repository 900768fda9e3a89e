-- A row's set is that of its words.
use mathlib.Core.Path.{sym, ◌∙◌}
use native.Mathlib.Omega.{arith}
use Rattle.build.proofs.Steps.{same_row}
use Rattle.build.proofs.Rows.is_key.Goals as goal

pub returns-then-same : goal.returns-then-same
returns-then-same c =
    let same = same_row c.args.self.now.live.now c.args.key.now.live c.args.i (c.same.ensures ∙ rw c.words_of.ensures) c.requires.1 (omega arith) in
    rw (sym same ∙ c.if-same.true)

pub returns-else-same : goal.returns-else-same
returns-else-same c =
    let same = same_row c.args.self.now.live.now c.args.key.now.live c.args.i (c.same.ensures ∙ rw c.words_of.ensures) c.requires.1 (omega arith) in
    rw (sym same ∙ c.if-same.false) c.if-same.false
