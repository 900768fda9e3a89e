-- Of all rules, or of those of the live set.
use mathlib.Core.Path.{◌∙◌}
use borrow.Author.Tests.{eq-eqb, ne_eqb}
use Rattle.sets.specs.Sets.{set_of}
use Rattle.build.proofs.Laws.{next_in}
use Rattle.build.proofs.extended.Goals as goal

pub returns-then-held-eq0 : goal.returns-then-held-eq0
returns-then-held-eq0 c =
    let a = c.args in (
      c.fitting.ensures.0 ∙ next_in a.book.now a.held (set_of a.live.now) a.byte (set_of c.all_of.result) (λ k l. rw (eq-eqb a.held 0 c.if-held-eq0.true) (c.all_of.ensures.all k l)),
      c.fitting.ensures.1,
    )

pub returns : goal.returns
returns c =
    let a = c.args in (
      c.fitting-2.ensures.0 ∙ next_in a.book.now a.held (set_of a.live.now) a.byte (set_of a.live.now) (λ k l. rw (ne_eqb a.held 0 c.if-held-eq0.false)),
      c.fitting-2.ensures.1,
    )
