-- The mark that `position` finds is the first.
use Rattle.std.proofs.Common.{rules, arith, ◌≡◌, drop, length-drop}
use Rattle.std.proofs.lemmas.Grind.{common_steps}
use Rattle.lines.specs.Lines.{up_to}
use Rattle.lines.proofs.Lines.{FirstAt, first_is, up_le}
use Rattle.lines.proofs.find.Goals as goal

pub returns : goal.returns
returns c =
    let mark = c.args.mark in
    let rest = c.iter.result.rest.now in
    let at : FirstAt mark rest c.position.result = search rules in
    let e = first_is mark rest c.position.result at in
    let d : rest ≡ drop c.args.from c.args.text.now = grind (arith, common_steps) in
    let r : c.unwrap_or.result ≡ up_to mark (drop c.args.from c.args.text.now) = cc in
    (omega (arith, r), omega (arith, r, up_le mark (drop c.args.from c.args.text.now), length-drop c.args.from c.args.text.now))
