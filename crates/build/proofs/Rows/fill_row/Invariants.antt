-- The first c entries are filled.
use Rattle.book.specs.Meant.{rules_held}
use Rattle.build.specs.Course.{others_of, RowsReady, Filling, SameRows}
use Rattle.build.proofs.Rows.fill_row.Given as goal

abbrev pub invariant-loop-c : goal.invariant-loop-c
invariant-loop-c l = record {
  filling : Filling (rules_held l.initial.self.book.now) l.initial.self.lent l.s l.via l.initial.row l.initial.self.used (others_of l.initial.self) l.c l.row l.self.used (others_of l.self);
  ready : RowsReady l.self;
  same : SameRows l.initial.self l.self;
}
