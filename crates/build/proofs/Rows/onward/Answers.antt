-- Of the row's words.
use mathlib.Core.Path.{sym}
use Rattle.sets.proofs.Table.{rules-part}
use Rattle.build.proofs.Rows.onward.Goals as goal

pub returns : goal.returns
returns c =
    let e = c.extended.ensures in
    (rw (c.words_of.ensures, c.from.ensures, sym (rules-part c.args.self.now.live.now c.args.s)) at e.0, e.1)
