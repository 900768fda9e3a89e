-- The move of the byte reaches a row, whose pairs come first among the reports to come.
use Rattle.std.proofs.Common.{arith, ◌≡◌, refl, sym, ◌∙◌, Some, None, ℕ, List, ◌+◌, ◌<◌, ◌++◌, length, get_or, drop, length-append}
use Rattle.sets.specs.Sets.{reports as pairs}
use Rattle.sets.proofs.Members.{reports-length, sets_append}
use Rattle.one_byte.specs.declared.Moved.{Moved}
use Rattle.one_byte.specs.Move.{Lent, move_of}
use Rattle.one_byte.proofs.Laws.{moved, move-lent}
use Rattle.walk.specs.Walk.{reported, reports_from}
use Rattle.walk.proofs.Laws.{reports-move, reports_end, stored_all}
use Rattle.walk.proofs.write.Goals as goal

module _ (goto fall out : List ℕ) (n : ℕ) (text : List ℕ) (at row : ℕ) (x : Lent goto fall n) (h : row < n) (l : at < length text) where
  reached : {m : Moved} → Some m ≡ move_of goto fall n row (get_or text at 0)
      → (m.row < n) × (reports_from goto fall out n at row (drop at text) ≡ pairs (at + 1) (reported out m.row) ++ reports_from goto fall out n (at + 1) m.row (drop (at + 1) text))
  reached {m} e =
      let r = moved goto fall n row (get_or text at 0) 0 (e ∙ move-lent goto fall n row (get_or text at 0) x h) refl in
      (r.0, reports-move goto fall out n text at row (Some m) l r.1)

pub loop-at-init : goal.loop-at-init
loop-at-init c = let p = c.requires.room in (omega arith, refl, omega (arith, p), stored_all _ _ (omega (arith, p)))

pub ending-requires : goal.ending-requires
ending-requires c =
    let t = c.args.tables.now in
    let l = c.loop-at in
    let k = reached t.goto.now t.fall.now t.out.now t.rows c.args.text.now l.at l.row c.requires.walkable.lent l.invariant.0 c.loop-at-test.true c.in-Some.ensures in
    omega (arith, k.0)

pub report-to-requires : goal.report-to-requires
report-to-requires c =
    let t = c.args.tables.now in
    let l = c.loop-at in
    let k = reached t.goto.now t.fall.now t.out.now t.rows c.args.text.now l.at l.row c.requires.walkable.lent l.invariant.0 c.loop-at-test.true c.in-Some.ensures in
    let i = simp (k.1, length-append, reports-length) at l.invariant.2 in
    (c.ending.ensures.words, rw c.ending.ensures.members (omega arith))

pub loop-at-preserved : goal.loop-at-preserved
loop-at-preserved c =
    let t = c.args.tables.now in
    let l = c.loop-at in
    let w = rw c.ending.ensures.members at c.report-to.ensures in
    let k = reached t.goto.now t.fall.now t.out.now t.rows c.args.text.now l.at l.row c.requires.walkable.lent l.invariant.0 c.loop-at-test.true c.in-Some.ensures in
    let i = simp (k.1, length-append, reports-length) at l.invariant.2 in (
      k.0,
      omega arith,
      omega (arith, w.0),
      rw (w.1, w.0) (simp (k.1, sets_append, reports-length) at l.invariant.3),
    )

pub returns-after-loop-at : goal.returns-after-loop-at
returns-after-loop-at c =
    let t = c.args.tables.now in
    let l = c.loop-at in
    rw (reports_end t.goto.now t.fall.now t.out.now t.rows c.args.text.now l.at l.row c.loop-at-test.false) at l.invariant.3

pub returns-in_default : goal.returns-in_default
returns-in_default c =
    let t = c.args.tables.now in
    let l = c.loop-at in
    let e = c.in_default.ensures ∙ move-lent t.goto.now t.fall.now t.rows l.row (get_or c.args.text.now l.at 0) c.requires.walkable.lent l.invariant.0 in
    rw (reports-move t.goto.now t.fall.now t.out.now t.rows c.args.text.now l.at l.row None c.loop-at-test.true (sym e)) at l.invariant.3
