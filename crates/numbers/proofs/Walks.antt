-- What a walk over the tables of a book gives: what its text comes to over the rules is left to be computed. Assumes nothing.
use mathlib.Core.Path.{◌≡◌}
use mathlib.Core.Bool.{Bool, true, false, ◌&&◌, and-eq-true_iff}
use mathlib.Core.List.{List, [], ◌∷◌, reverse}
use Prim.Native.Nat.{ℕ, ◌/◌, ◌≤◌}
use native.Mathlib.Omega.{arith}
use lib.Dec.{leb}
use lib.ListN.{length}
use borrow.Author.Tests.{leb-true, leb-false}
use Rattle.rows.specs.Rows.{ByteText}
use Rattle.rows.proofs.Bytes.{is_bytes, bytes_of}
use Rattle.meaning.specs.Rules.{count}
use Rattle.meaning.specs.Standing.{held}
use Rattle.meaning.specs.Falls.{falls_in}
use Rattle.meaning.specs.Tables.{Five, Tables}
use Rattle.book.specs.Content.{Content}
use Rattle.book.specs.Limits.{most_rules, most_bytes}
use Rattle.book.specs.Meant.{rules_of}
use Rattle.promised.proofs.AsBefore.{of_sound}
use Rattle.answers.specs.Walked.{number_of, values_of}
use Rattle.walk.specs.Walk.{written}
use Rattle.listed.specs.Demands.{WalkCall, walk_answer, reports_after, OverTables}
use Rattle.meaning.proofs.Occurrences.{occurrences}
use Rattle.listed.proofs.Demands.{found, roomy, crowded}
use Rattle.listed.proofs.Whole.{built}
use Rattle.numbers.specs.Cases.{Gives, walk, Holds}
use Rattle.numbers.proofs.Books.{Means}

-- a walk that is computed whole
pub gives : {w : WalkCall} {number : ℕ} {values buffer : List ℕ} → number_of (walk_answer w) ≡ number → values_of (walk_answer w) ≡ values → reports_after w ≡ buffer
    → Gives w number values buffer
gives n v b = record { answers = record { number_is = n; values_are = v }; leaves = b }

-- ---- what is tested of a book and a text

abbrev pub is_small : Content → List ℕ → Bool
is_small a text = leb (count (rules_of a)) most_rules && (is_bytes text && leb (length text) most_bytes)

pub record Small (a : Content) (text : List ℕ) : Type 0 where
  pub few : count (rules_of a) ≤ most_rules
  pub bytes : ByteText text
  pub short : length text ≤ most_bytes

pub small : (a : Content) (text : List ℕ) → is_small a text ≡ true → Small a text
small a text e =
    let (few, rest) = (and-eq-true_iff (leb (count (rules_of a)) most_rules) (is_bytes text && leb (length text) most_bytes)).0 e in
    let (bytes, short) = (and-eq-true_iff (is_bytes text) (leb (length text) most_bytes)).0 rest in
    record { few = leb-true _ _ few; bytes = bytes_of text bytes; short = leb-true _ _ short }

-- ---- over the tables of a book

module _ (a : Content) (text : List ℕ) where
  -- two numbers a report
  abbrev many : ℕ
  many = length (occurrences most_rules (rules_of a) text) / 2

  over : Small a text → (reports : List ℕ) {b : Five} {n : ℕ} → Tables (rules_of a) b n → OverTables (rules_of a) (record { tables = b; n = n; text = text; reports = reports })
  over x reports t = record { tables = t; few = x.few; bytes = x.bytes }

  so_many : (x : Small a text) (reports : List ℕ) {b : Five} {n : ℕ} (t : Tables (rules_of a) b n) → (found (over x reports t)).m ≡ many
  so_many x reports t = omega (arith, (found (over x reports t)).long)

module _ {a : Content} {bytes : List ℕ} (e : Means bytes a) {text : List ℕ} (x : is_small a text ≡ true) {reports : List ℕ} where
  -- with room for the reports
  pub fitting : leb (many a text) (length reports / 2) ≡ true
      → Holds (walk bytes text reports 0 (many a text ∷ falls_in (rules_of a) (reverse text) ∷ held (rules_of a) (reverse text) ∷ []) (written (occurrences most_rules (rules_of a) text) reports))
  fitting l old b y p z =
      let (t, lends) = built (of_sound a e.meant p) z in
      let s = small a text x in
      let q = so_many a text s reports t in
      let (r, d) = roomy (over a text s reports t) s.short lends (omega (arith, leb-true (many a text) (length reports / 2) l)) in
      gives (rw r) (rw (r, q)) d

  -- with less
  pub lacking : leb (many a text) (length reports / 2) ≡ false → Holds (walk bytes text reports 14 (many a text ∷ []) reports)
  lacking l old b y p z =
      let (t, lends) = built (of_sound a e.meant p) z in
      let s = small a text x in
      let q = so_many a text s reports t in
      let (r, d) = crowded (over a text s reports t) s.short lends (omega (arith, leb-false (many a text) (length reports / 2) l)) in
      gives (rw r) (rw (r, q)) d
