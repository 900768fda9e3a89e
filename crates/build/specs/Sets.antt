-- What the builder's loops over the rules rest on. Assumes nothing.
use Rattle.std.specs.Prelude.{ℕ, ◌≤◌, ◌<◌, get_or}
use Rattle.meaning.specs.Rules.{Rules, count, size}
use Rattle.book.specs.declared.Book.{Book}
use Rattle.book.specs.Limits.{most_rules, most_symbols}

-- the rules and their lengths keep the book's limits
pub record Within (b : Book) : Type 0 where
  pub few : b.rules ≤ most_rules
  pub short : (k : ℕ) → get_or b.lengths k 0 ≤ most_symbols

-- so the rules are short
pub record Short (r : Rules) : Type 0 where
  pub at : (k : ℕ) → k < count r → size r k ≤ most_symbols
