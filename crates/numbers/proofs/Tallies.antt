-- What a tally over the tables of a book gives, where the totals of its profile are computed, and a tally of a profile whose first line is refused.
-- Assumes nothing.
use mathlib.Core.Path.{◌≡◌, ◌∙◌}
use mathlib.Core.Bool.{true}
use mathlib.Core.List.{List}
use Prim.Native.Nat.{ℕ, ◌≤◌}
use native.Mathlib.Omega.{arith}
use lib.Seq.{get_or-take, length-take-le}
use lib.ListN.{length, take}
use Rattle.book.specs.Content.{Content, table}
use Rattle.book.specs.Limits.{most_rules, most_bytes}
use Rattle.book.specs.Meant.{rules_of}
use Rattle.book.proofs.Tables.{is_table}
use Rattle.promised.specs.Promise.{value_of}
use Rattle.promised.proofs.AsBefore.{of_sound}
use Rattle.listed.proofs.Whole.{built}
use Rattle.lines.specs.Lines.{lines_of}
use Rattle.lines.specs.Written.{start_of}
use Rattle.lines.specs.Profile.{FirstBroken}
use Rattle.lines.proofs.First.{are_sound, are_sound_lem}
use Rattle.summed.specs.Totals.{TallyCall, sums_after, total_where, occurs_in}
use Rattle.summed.proofs.Demands.{refuses, sums}
use Rattle.numbers.specs.Cases.{tally, refusal, Holds}
use Rattle.numbers.proofs.Books.{Means}
use Rattle.numbers.proofs.Walks.{is_small, small}

-- ---- a refused line

pub refused : (profile : List ℕ) {i : ℕ} → length profile ≤ most_bytes → FirstBroken (lines_of profile) i → Holds (refusal profile 15 (start_of 0 (lines_of profile) i))
refused profile {i} short broken b n buffer some lends places =
    let w : TallyCall = record { tables = b; n = n; profile = profile; sums = buffer } in
    let a = (refuses w).bad_line (record { short = short; some = some; lends = lends; places = places }) i broken in
    record { answers = a; found = (refuses w).untouched (λ z. omega (arith, a.number_is, z)) }

-- ---- sums

pub summing : {a : Content} {bytes : List ℕ} → Means bytes a → (profile : List ℕ) → is_small a profile ≡ true → are_sound (lines_of profile) ≡ true
    → Holds (tally bytes profile 0 0 (table most_rules (λ k. total_where (occurs_in (rules_of a) k) profile)))
summing {a} e profile x lines old b y p z buffer places =
    let (t, lends) = built (of_sound a e.meant p) z in
    let s = small a profile x in
    let w : TallyCall = record { tables = b; n = value_of y; profile = profile; sums = buffer } in
    let told = sums (rules_of a) w (record { tables = t; few = s.few; bytes = s.bytes }) in
    let accepted = told.accepts s.short lends places (are_sound_lem (lines_of profile) lines) in
    let long = length-take-le most_rules (sums_after w) (omega (arith, (refuses w).long)) in
    record {
      answers = accepted;
      sums_are = is_table most_rules (λ k. total_where (occurs_in (rules_of a) k) profile) (take most_rules (sums_after w)) long (λ k l. get_or-take most_rules (sums_after w) k 0 l ∙ told.sums accepted k l);
      later_are = (refuses w).later;
    }
