-- `rule` meets its contract: each symbol is two bytes more, as far as there is room. Assumes nothing.
use Rattle.std.proofs.Common.{◌≡◌, ◌+◌, ◌*◌, min}
use Rattle.drawn.proofs.page.Page.rule.Given as goal

abbrev pub invariant-loop-j : goal.invariant-loop-j
invariant-loop-j g l = l.self.size ≡ min 2560 (l.fn.self.size + 3 + 2 * l.j)
