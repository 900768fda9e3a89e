-- Old tables, widened, are what a build of the same book leaves in buffers of the same lengths. Assumes nothing.
use Rattle.std.specs.Prelude.{◌≡◌, ℕ}
use Rattle.meaning.specs.Rules.{Rules}
use Rattle.meaning.specs.Tables.{Five, Tables}
use Rattle.book.specs.Content.{Content}
use Rattle.format.specs.Format.{means, meaning_of}
use Rattle.book.specs.Meant.{rules_of}
use Rattle.lent.specs.Lent.{AsLong}
use Rattle.promised.specs.Promise.{number_of, value_of}
use Rattle.promised.specs.Exact.{BuildCall, OfWords}
use Rattle.widened.specs.OneWord.{OneWord, wide, Roomy}

-- they are any tables of the same rules, with as many rows
abbrev pub WideSame : Type 0
WideSame = (r : Rules) (b b' : Five) (n n' live out : ℕ) → OneWord r b n → Roomy b live out → Tables r b' n'
    → AsLong (wide b live out) b' → OfWords b → OfWords b' → (n ≡ n') × (wide b live out ≡ b')

-- so they are the buffers of a build that gave 0, and their rows are the value that it gave
abbrev pub WideBuilt : Type 0
WideBuilt = (c : BuildCall) → number_of c.answer ≡ 0 → (a : Content) → meaning_of c.bytes ≡ means a
    → (b : Five) (n live out : ℕ) → OneWord (rules_of a) b n → Roomy b live out → AsLong (wide b live out) c.new → OfWords b → OfWords c.new
    → (n ≡ value_of c.answer) × (wide b live out ≡ c.new)
