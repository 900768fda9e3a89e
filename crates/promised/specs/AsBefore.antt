-- A book whose pictures lie apart has the rows and the tables that it had while the map held one number a byte. Assumes nothing.
use Rattle.std.specs.Prelude.{◌≡◌, ℕ}
use Rattle.rows.specs.Rows.{ByteText}
use Rattle.meaning.specs.Tables.{Five}
use Rattle.book.specs.Content.{Content}
use Rattle.format.specs.Format.{means, meaning_of}
use Rattle.book.specs.Apart.{Apart, rules_before}
use Rattle.promised.specs.Promise.{number_of, value_of, Builds}
use Rattle.promised.specs.Exact.{BuildCall, OfWords}

-- what a call answers and leaves is what was promised for the rules by the numbers, and nothing else is
pub record BuiltAsBefore (c : BuildCall) (a : Content) : Type 0 where
  pub kept : Builds (rules_before a) c.old c.new (number_of c.answer) (value_of c.answer)
  pub only : {b : Five} {i v : ℕ} → Builds (rules_before a) c.old b i v → OfWords b → OfWords c.new
      → (i ≡ number_of c.answer) × (v ≡ value_of c.answer) × (b ≡ c.new)

abbrev pub TablesAsBefore : Type 0
TablesAsBefore = (c : BuildCall) → ByteText c.bytes → (a : Content) → meaning_of c.bytes ≡ means a → Apart a.pictures → BuiltAsBefore c a
