-- The rows so far are a course.
use Prim.Native.Nat.{◌-◌, ◌≤◌}
use Rattle.book.specs.Meant.{rules_held}
use Rattle.build.specs.Course.{Building, others_of, RowsReady, SameRows}
use Rattle.build.proofs.Rows.fill_all.Given as goal

abbrev pub invariant-loop-s : goal.invariant-loop-s
invariant-loop-s l = record {
  so_far : l.s ≤ l.self.used;
  building : Building (rules_held l.initial.self.book.now) l.initial.self.lent l.initial.goto (others_of l.initial.self) l.s l.goto l.self.used (others_of l.self);
  ready : RowsReady l.self;
  same : SameRows l.initial.self l.self;
}

abbrev pub decreases-loop-s : goal.decreases-loop-s
decreases-loop-s l = l.self.lent - l.s
