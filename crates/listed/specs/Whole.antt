-- A book built, and its tables walked: what comes out, in words of the book's bytes and the text alone. Assumes nothing.
use Rattle.std.specs.Prelude.{◌≡◌, List, ℕ, ◌≤◌}
use Rattle.rows.specs.Rows.{ByteText}
use Rattle.meaning.specs.Tables.{Five}
use Rattle.book.specs.Content.{Content}
use Rattle.format.specs.Format.{means, meaning_of}
use Rattle.book.specs.Meant.{rules_of}
use Rattle.lent.specs.Lent.{lent}
use Rattle.promised.specs.Promise.{Built, number_of, value_of, Promise}
use Rattle.listed.specs.Demands.{Matched}

-- what a walk over the buffers b with n rows comes to: the bytes mean a book, the rows are lent, and demands 2 and 3 hold of its rules
pub record Searched (bytes : List ℕ) (b : Five) (n : ℕ) (text reports : List ℕ) : Type 0 where
  pub content : Content
  pub meant : meaning_of bytes ≡ means content
  pub lends : n ≤ lent b
  pub matched : Matched (rules_of content) (record { tables = b; n = n; text = text; reports = reports })

-- Any buffers that a build of the bytes left which gave 0, walked with the value that it gave.
abbrev pub Searches : Type 0
Searches = (bytes : List ℕ) → ByteText bytes → (old b : Five) (x : Built) → Promise bytes old b x → number_of x ≡ 0 → (text reports : List ℕ) → ByteText text
    → Searched bytes b (value_of x) text reports
