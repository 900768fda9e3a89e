-- The families of leaves over the tables of rules, and over the buffers that a build of a book left. Assumes nothing.
use Rattle.std.specs.Prelude.{List, ◌≢◌, ◌≡◌, ℕ, ◌+◌, ◌≤◌, ◌<◌, length}
use Rattle.rows.specs.Rows.{ByteText}
use Rattle.meaning.specs.Rules.{Rules, count}
use Rattle.meaning.specs.Tables.{Five, Tables}
use Rattle.meaning.specs.Occurrences.{FitsWhole}
use Rattle.book.specs.Limits.{most_rules, most_bytes}
use Rattle.book.specs.Content.{Content}
use Rattle.book.specs.Meant.{rules_of}
use Rattle.format.specs.Format.{means, meaning_of}
use Rattle.lent.specs.Lent.{lent}
use Rattle.promised.specs.Promise.{number_of as number_built, value_of as value_built, Built, Promise}
use Rattle.lines.specs.Lines.{lines_of}
use Rattle.lines.specs.Profile.{AllSound, counts}
use Rattle.shares.specs.Shares.{limit}
use Rattle.leaf_totals.specs.declared.LeafTotals.{LeafTotals}
use Rattle.leaf.specs.Leaf.{unnamed}
use Rattle.leaf_totals.specs.Record.{most_profiles, whole_in}
use Rattle.leaf_totals.specs.Totalled.{number_of}
use Rattle.totalled.specs.Adding.{comes_to, AddAnswers, family_over}

-- p is the family of the leaf: the lowest rule that fits the whole of it, and `unnamed` where none does
pub record IsFamily (r : Rules) (leaf : List ℕ) (p : ℕ) : Type 0 where
  pub within : p ≤ unnamed
  pub fits : p < unnamed → FitsWhole r leaf p
  pub lowest : (k : ℕ) → k < p → ¬ FitsWhole r leaf k
  pub none : p ≡ unnamed → (k : ℕ) → ¬ FitsWhole r leaf k

-- it is one
abbrev pub OneFamily : Type 0
OneFamily = (r : Rules) (leaf : List ℕ) (p q : ℕ) → IsFamily r leaf p → IsFamily r leaf q → p ≡ q

-- Over the tables of the rules.
abbrev pub Families : Type 0
Families = (r : Rules) (b : Five) (n : ℕ) → Tables r b n → n ≤ lent b → count r ≤ most_rules → (leaf : List ℕ) → ByteText leaf → IsFamily r leaf (family_over b n leaf)

-- ---- from a book's bytes

-- what adding a profile over the buffers b with n rows comes to: the bytes mean a book, the rows are lent, and the families are those of its rules
pub record Named (bytes : List ℕ) (b : Five) (n : ℕ) (profile : List ℕ) (t : LeafTotals) : Type 0 where
  pub content : Content
  pub meant : meaning_of bytes ≡ means content
  pub lends : n ≤ lent b
  pub families : (leaf : List ℕ) → ByteText leaf → IsFamily (rules_of content) leaf (family_over b n leaf)
  -- never refused for an entry that no build writes
  pub undamaged : number_of (comes_to (record { tables = b; n = n; profile = profile; old = t })).answer ≢ 13
  -- accepted, where the record has room, the profile is not too long, its lines are sound, and the total stays within the limit
  pub accepts : t.profiles < most_profiles → length profile ≤ most_bytes → AllSound (lines_of profile) → whole_in t + counts profile ≤ limit
      → AddAnswers (record { tables = b; n = n; profile = profile; old = t }) 0 0

-- Any buffers that a build of the bytes left which gave 0, with the value that it gave.
abbrev pub Names : Type 0
Names = (bytes : List ℕ) → ByteText bytes → (old b : Five) (x : Built) → Promise bytes old b x → number_built x ≡ 0 → (profile : List ℕ) → ByteText profile
    → (t : LeafTotals) → Named bytes b (value_built x) profile t
