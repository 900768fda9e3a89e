-- The arrays of zeros hold nothing.
use Rattle.book.proofs.Records.{empty-held}
use Rattle.book.proofs.Book.empty.Goals as goal

pub returns-clause-holds_nothing : goal.returns-clause-holds_nothing
returns-clause-holds_nothing c = empty-held
