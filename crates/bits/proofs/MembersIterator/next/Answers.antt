-- The empty set has no members; the least of another is below 64, and the rest are what is left.
use Rattle.std.proofs.Common.{arith, ◌≡◌, sym, ap, ap₂, [], ◌∷◌, ◌∙◌, length}
use Rattle.sets.specs.Sets.{members}
use Rattle.sets.proofs.Members.{members-empty, members-cons, first-lt}
use Rattle.bits.proofs.MembersIterator.next.Goals as goal
use Rattle.bits.proofs.MembersIterator.next.Goals.{After-rest-self}

turn : (c : After-rest-self) → members 64 c.args.self.now.0 ≡ c.first-least.result ∷ members 64 c.rest-self.result
turn c = members-cons 64 c.args.self.now.0 (omega arith) (omega arith) ∙ ap₂ ◌∷◌ (sym c.first-least.ensures) (sym c.rest-self.ensures)

pub returns-then-self-eq0-clause-steps : goal.returns-then-self-eq0-clause-steps
returns-then-self-eq0-clause-steps c = let e : members 64 c.args.self.now.0 ≡ [] = rw c.if-self-eq0.true (members-empty 64) in (e, e)

pub returns-clause-steps : goal.returns-clause-steps
returns-clause-steps c =
    (omega (arith, first-lt 64 c.args.self.now.0 (omega arith) (omega arith), c.first-least.ensures), turn (goal.at.returns-clause-steps c).After-rest-self)

pub returns-clause-goes : goal.returns-clause-goes
returns-clause-goes c = record {
  on = λ h. (tt, tt, omega (arith, ap length (turn (goal.at.returns-clause-goes c).After-rest-self)));
  keeps = tt;
  rests = λ h. tt;
}
