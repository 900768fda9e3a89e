-- Leaf totals by numbers: where each line's count goes is computed from the book's rules, and the theorems say the rest. Assumes nothing.
use mathlib.Core.Bool.{Bool, true, false, ◌&&◌, and-eq-true_iff}
use mathlib.Core.List.{List, [], ◌∷◌, ◌++◌}
use mathlib.Core.Logic.{◌⊎◌, inl, inr, ◌≢◌}
use mathlib.Core.Path.{◌≡◌, refl, ◌∙◌}
use Prim.Native.Nat.{ℕ, zero, suc, ◌+◌, ◌≤◌, ◌<◌}
use native.Mathlib.Omega.{arith}
use lib.Dec.{T, ltb, leb, eqb, eqb→eq}
use lib.ListN.{length, get_or}
use borrow.Author.Tests.{ltb-true, leb-true, leb-false}
use Rattle.rows.specs.Rows.{ByteText}
use Rattle.rows.proofs.Bytes.{is_bytes, bytes_of}
use Rattle.sets.specs.Sets.{those}
use Rattle.sets.specs.Sums.{sum_over}
use Rattle.meaning.specs.Rules.{count, fits}
use Rattle.meaning.specs.Tables.{Five, Tables}
use Rattle.meaning.proofs.Tested.{below, below_at}
use Rattle.book.specs.Content.{Content}
use Rattle.book.specs.Grown.{symbols_of}
use Rattle.book.specs.Limits.{most_rules, most_bytes}
use Rattle.book.specs.Meant.{rules_of}
use Rattle.format.specs.Format.{means, meaning_of, fields, follow, ended, field_at, field_of, head_at, rule_field, outcome, judge_rule, judge_symbol, first_of, judge_symbols}
use Rattle.lent.specs.Lent.{lent}
use Rattle.promised.specs.Promise.{number_of as number_built, value_of as value_built, Built, Promise}
use Rattle.promised.proofs.AsBefore.{of_sound}
use Rattle.std.specs.Prelude.{None}
use Rattle.lines.specs.Lines.{split, lines_of, last_mark_of, number_from, count_of, line_of}
use Rattle.lines.specs.Written.{start_of}
use Rattle.lines.specs.Profile.{AllSound, FirstBroken, counts}
use Rattle.lines.proofs.First.{are_sound, are_sound_lem}
use Rattle.listed.proofs.Whole.{built}
use Rattle.shares.specs.Below.{sum_below}
use Rattle.book.specs.Content.{table}
use Rattle.shares.specs.Shares.{limit}
use Rattle.shares.proofs.Demands.{demands}
use Rattle.leaf_totals.specs.declared.LeafTotals.{LeafTotals}
use Rattle.leaf_totals.specs.Record.{most_profiles, total_at, totals_in, whole_in, empty_totals}
use Rattle.totalled.specs.Adding.{AddCall, record_left, AddAnswers, Begins}
use Rattle.totalled.specs.Cases.{four_rules, six_leaves, three_leaves, b_1, b_2, ab_01, four_totals, adds, refuses, breaks, full, unshared, long, rows, AddedSo, RefusedSo, LeafHolds, none, also, LeafCasesHold}
use Rattle.totalled.proofs.Adding.{add_refuses}
use Rattle.totalled.proofs.Families.{begins, none_fails}
use Rattle.totalled.proofs.Computed.{fits_all, family_in, Filed, filed, filed_at, counts-filed}
use Rattle.totalled.proofs.Rounded.{AtEnds, whole_is}
use Rattle.totalled.proofs.Shared.{SharesAre, shares_41, shares_9, shares_50, shares_limit, shares_1, shares_0}
use Rattle.totalled.proofs.OneRow.{lost_at_0, lost_at_3, not_met, empty_named, one_byte, many-bytes}
use Rattle.totalled.proofs.Four.{totals_are_lem, FourOf, four-first, at_ends, four_shares}

-- ---- the book

abbrev four : Content
four = record { pictures = []; rules = (98 ∷ []) ∷ (97 ∷ 98 ∷ []) ∷ (97 ∷ 98 ∷ 99 ∷ []) ∷ (97 ∷ 98 ∷ []) ∷ [] }

four_meant : meaning_of four_rules ≡ means four
unfolding meaning_of fields follow ended field_at field_of head_at rule_field outcome judge_rule judge_symbols judge_symbol first_of symbols_of
four_meant = refl

four-tables : (found b : Five) (x : Built) → Promise four_rules found b x → number_built x ≡ 0 → Tables (rules_of four) b (value_built x) × (value_built x ≤ lent b)
four-tables found b x p z = built (of_sound four four_meant p) z

four-few : count (rules_of four) ≤ most_rules
four-few = omega arith

-- ---- what is tested of a profile and a record

-- the record has room, and the profile is of bytes, not too long, and of sound lines
abbrev is_fit : List ℕ → LeafTotals → Bool
is_fit profile old = (ltb old.profiles most_profiles && is_bytes profile) && (leb (length profile) most_bytes && are_sound (lines_of profile))

record Fit (profile : List ℕ) (old : LeafTotals) : Type 0 where
  room : old.profiles < most_profiles
  bytes : ByteText profile
  short : length profile ≤ most_bytes
  sound : AllSound (lines_of profile)

fit : (profile : List ℕ) (old : LeafTotals) → is_fit profile old ≡ true → Fit profile old
fit profile old x =
    let (y, z) = (and-eq-true_iff (ltb old.profiles most_profiles && is_bytes profile) (leb (length profile) most_bytes && are_sound (lines_of profile))).0 x in
    let (room, bytes) = (and-eq-true_iff (ltb old.profiles most_profiles) (is_bytes profile)).0 y in
    let (short, sound) = (and-eq-true_iff (leb (length profile) most_bytes) (are_sound (lines_of profile))).0 z in
    record {
      room = ltb-true old.profiles most_profiles room;
      bytes = bytes_of profile bytes;
      short = leb-true (length profile) most_bytes short;
      sound = are_sound_lem (lines_of profile) sound;
    }

-- the total after it is within the limit
abbrev is_within : List ℕ → LeafTotals → Bool
is_within profile old = leb (whole_in old + counts profile) limit

-- where the counts go, and the totals that they make
record Goes (profile : List ℕ) (old : LeafTotals) (fs : List Filed) (a b c d rest : ℕ) : Type 0 where
  files : filed (rules_of four) profile ≡ fs
  totals : T (below 257 (λ p. eqb (total_at old p + filed_at p fs) (totals_are_lem a b c d rest p)))
  most : leb (a + b + c + d + rest) limit ≡ true

-- ---- a call over the book's tables

module _ {profile : List ℕ} {old : LeafTotals} (x : Fit profile old) {g : Five} {n : ℕ} (tables : Tables (rules_of four) g n) (lends : n ≤ lent g) where
  abbrev call : AddCall
  call = record { tables = g; n = n; profile = profile; old = old }

  begun : Begins call
  begun = begins call tables lends four-few x.bytes x.room x.short

  past : is_within profile old ≡ false → RefusedSo call 20 9007199254740991
  past over =
      let a = (add_refuses call).past begun x.sound (none_fails call tables lends four-few x.bytes) (leb-false (whole_in old + counts profile) limit over) in
      record { answers = a; unaltered = (add_refuses call).unaltered (λ z. omega (arith, a.number_is, z)) }

  accepted : is_within profile old ≡ true → AddAnswers call 0 0
  accepted within = (add_refuses call).accepted begun x.sound (none_fails call tables lends four-few x.bytes) (leb-true (whole_in old + counts profile) limit within)

  module _ (within : is_within profile old ≡ true) {fs : List Filed} {a b c d rest : ℕ} (y : Goes profile old fs a b c d rest) where
    sum_at : (p : ℕ) → p < 257 → total_at old p + filed_at p fs ≡ totals_are_lem a b c d rest p
    sum_at p l = eqb→eq _ _ (below_at 257 (λ p. eqb (total_at old p + filed_at p fs) (totals_are_lem a b c d rest p)) y.totals p l)

    left : FourOf (record_left call) a b c d rest
    left = record { at = λ p l. (add_refuses call).totals (accepted within) p l ∙ rw (counts-filed tables lends four-few profile x.bytes p, y.files) (sum_at p l) }

    added : {s u v z w : ℕ} → ((totals : List ℕ) → AtEnds totals a b c d rest → SharesAre totals s u v z w)
        → AddedSo call (a ∷ b ∷ c ∷ d ∷ []) rest (old.profiles + 1) (s ∷ u ∷ v ∷ z ∷ []) w
    added shares =
        let q = shares (totals_in (record_left call)) (at_ends left) in
        record {
          answers = accepted within;
          totals_are = four-first left;
          unnamed_is = left.at 256 (omega arith);
          profiles_are = (add_refuses call).profiles (accepted within);
          given = (demands (totals_in (record_left call))).given (omega (arith, whole_is (at_ends left), leb-true (a + b + c + d + rest) limit y.most));
          shares_are = four_shares left q;
          rest_is = q.last;
        }

-- ---- the cases

adding : (profile : List ℕ) (old : LeafTotals) (fs : List Filed) {a b c d rest s u v z w : ℕ} → is_fit profile old ≡ true → is_within profile old ≡ true
    → Goes profile old fs a b c d rest → ((totals : List ℕ) → AtEnds totals a b c d rest → SharesAre totals s u v z w)
    → LeafHolds (adds profile old (a ∷ b ∷ c ∷ d ∷ []) rest (old.profiles + 1) (s ∷ u ∷ v ∷ z ∷ []) w)
adding profile old fs x within y shares found g k p e =
    let (tables, lends) = four-tables found g k p e in
    added (fit profile old x) tables lends within y shares

passing : (profile : List ℕ) (old : LeafTotals) → is_fit profile old ≡ true → is_within profile old ≡ false → LeafHolds (refuses profile old 20 9007199254740991)
passing profile old x over found g k p e =
    let (tables, lends) = four-tables found g k p e in
    past (fit profile old x) tables lends over

breaking : (profile : List ℕ) {i : ℕ} → length profile ≤ most_bytes → FirstBroken (lines_of profile) i → LeafHolds (breaks profile 15 (start_of 0 (lines_of profile) i))
breaking profile {i} short broken b n old some lends room =
    let w : AddCall = record { tables = b; n = n; profile = profile; old = old } in
    let a = (add_refuses w).bad_line (record { few = room; short = short; some = some; lends = lends }) i broken in
    record { answers = a; unaltered = (add_refuses w).unaltered (λ z. omega (arith, a.number_is, z)) }

filling : LeafHolds (full 1024 21 1024)
filling b n profile old e =
    let w : AddCall = record { tables = b; n = n; profile = profile; old = old } in
    let a = (add_refuses w).full (omega arith) in
    record { answers = a; unaltered = (add_refuses w).unaltered (λ z. omega (arith, a.number_is, z)) }

unsharing : (t : LeafTotals) → ltb limit (whole_in t) ≡ true → LeafHolds (unshared t 20 9007199254740991)
unsharing t over =
    let l = ltb-true limit (whole_in t) over in
    let (number, value) = (demands (totals_in t)).past l in
    record { number_is = number; value_is = value; none = (demands (totals_in t)).past_none l }

longer : LeafHolds (long 1048577 11 1048576)
longer b n profile old e room =
    let w : AddCall = record { tables = b; n = n; profile = profile; old = old } in
    let a = (add_refuses w).too_long room (omega arith) in
    record { answers = a; unaltered = (add_refuses w).unaltered (λ z. omega (arith, a.number_is, z)) }

rowless : (n : ℕ) → LeafHolds (rows n 12 n)
rowless n b profile old e short room =
    let w : AddCall = record { tables = b; n = n; profile = profile; old = old } in
    let a = (add_refuses w).bad_rows room short (none_of n) in
    record { answers = a; unaltered = (add_refuses w).unaltered (λ z. omega (arith, a.number_is, z)) }
  where
    none_of : (n : ℕ) → (n ≡ 0) ⊎ (lent b < n)
    none_of zero = inl refl
    none_of (suc n) = inr (omega arith)

-- the first line, and the second
first-broken : FirstBroken (lines_of ab_01) 0
unfolding split last_mark_of number_from count_of line_of
first-broken = record { below = omega arith; broken = refl; before = λ j l. absurd (omega arith) }

second_broken : FirstBroken (lines_of (b_2 ++ 10 ∷ ab_01)) 1
unfolding split last_mark_of number_from count_of line_of
second_broken = record { below = omega arith; broken = refl; before = before }
  where
    before : (j : ℕ) → j < 1 → line_of (get_or (lines_of (b_2 ++ 10 ∷ ab_01)) j []) ≢ None
    before zero l q = let z : ◌≡◌ {A = ℕ} 0 1 = cc in omega arith
    before (suc j) l q = omega arith

-- so many to place p
abbrev to : ℕ → ℕ → Filed
to p k = record { place = p; count = k }

pub leaf_cases : LeafCasesHold
unfolding is_bytes are_sound below split last_mark_of number_from count_of line_of start_of those fits fits_all family_in sum_over sum_below table
leaf_cases =
    also (adding six_leaves empty_totals (to 1 3 ∷ to 0 2 ∷ to 2 5 ∷ to 256 7 ∷ to 256 11 ∷ to 256 13 ∷ []) refl refl (record { files = refl; totals = tt; most = refl }) shares_41)
    (also (adding three_leaves empty_totals (to 1 4 ∷ to 256 4 ∷ to 0 1 ∷ []) refl refl (record { files = refl; totals = tt; most = refl }) shares_9)
    (also (adding three_leaves (four_totals 2 3 5 0 31 1) (to 1 4 ∷ to 256 4 ∷ to 0 1 ∷ []) refl refl (record { files = refl; totals = tt; most = refl }) shares_50)
    (also (adding b_1 (four_totals 0 0 0 0 9007199254740990 1) (to 0 1 ∷ []) refl refl (record { files = refl; totals = tt; most = refl }) shares_limit)
    (also (passing b_2 (four_totals 0 0 0 0 9007199254740990 1) refl refl)
    (also (adding b_1 (four_totals 0 0 0 0 0 1023) (to 0 1 ∷ []) refl refl (record { files = refl; totals = tt; most = refl }) shares_1)
    (also filling
    (also (adding [] empty_totals [] refl refl (record { files = refl; totals = tt; most = refl }) shares_0)
    (also (passing [] (four_totals 0 0 0 0 9007199254740992 1) refl refl)
    (also (unsharing (four_totals 0 0 0 0 9007199254740992 1) refl)
    (also (unsharing (four_totals 9223372036854775808 9223372036854775808 0 0 0 1) refl)
    (also (breaking ab_01 (omega arith) first-broken)
    (also (breaking (b_2 ++ 10 ∷ ab_01) (omega arith) second_broken)
    (also longer
    (also (rowless 0)
    (also (rowless 1)
    (also lost_at_0
    (also lost_at_3
    (also not_met
    (also empty_named
    (also one_byte
    (also many-bytes
    none)))))))))))))))))))))
