-- What a program's answer is, by the lines that come behind that of a build. Assumes nothing.
use Rattle.std.specs.Prelude.{List, ◌≡◌, ℕ}
use Rattle.inputs.specs.Inputs.{lent_tables}
use Rattle.output.specs.Printed.{Puts, answer_lines}
use Rattle.meaning.specs.Tables.{Five}
use Rattle.promised.specs.Promise.{Built, Promise, number_of, value_of}

-- A build of the book keeps its promise, and what is written are the lines of what it came to, and where it is accepted those that its tables lead to.
pub record ProgramAnswer (lines : Five → ℕ → List ℕ) (book answer : List ℕ) : Type 0 where
  pub built : Built
  pub tables : Five
  pub kept : Promise book lent_tables tables built
  pub lines_are : answer ≡ answer_lines (number_of built) (value_of built) (lines tables (value_of built))

-- The same of a buffer of any length, which is the whole promise: of these lines as many bytes as have room stand in front, the answer ends behind them, and all else is as it was.
pub record PutsAnswer (lines : Five → ℕ → List ℕ) (book before after : List ℕ) (end : ℕ) : Type 0 where
  pub built : Built
  pub tables : Five
  pub kept : Promise book lent_tables tables built
  pub puts : Puts (answer_lines (number_of built) (value_of built) (lines tables (value_of built))) before 0 after end
