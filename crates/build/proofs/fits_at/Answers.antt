-- Each way is one case of the definition.
use mathlib.Core.Path.{sym, ◌∙◌}
use borrow.Author.Tests.{le-ltb}
use Rattle.build.proofs.Laws.{fits_in, stops_in}
use Rattle.build.proofs.fits_at.Goals as goal

pub returns-then-held-from : goal.returns-then-held-from
returns-then-held-from c = let a = c.args in fits_in a.book.now a.held a.byte a.k c.requires.1 (rw c.from.ensures at c.if-held-from.true) c.fits.ensures

pub returns-else-held-from : goal.returns-else-held-from
returns-else-held-from c =
    let a = c.args in
    le-ltb a.held c.from.result c.if-held-from.false ∙ sym (stops_in a.book.now a.held a.byte a.k c.requires.1 (rw c.from.ensures at c.if-held-from.false))
