-- What a tally answers and leaves: over any tables, over the tables of rules, and over the buffers that a build left. Assumes nothing.
use mathlib.Core.Bool.{Bool}
use mathlib.Core.List.{List, ◌++◌}
use mathlib.Core.Logic.{◌⊎◌, inl, inr, ◌≢◌}
use mathlib.Core.Path.{◌≡◌, refl, sym, ap, fun_ext, ◌∙◌}
use Prim.Native.Nat.{ℕ, ◌≤◌, ◌<◌}
use native.Mathlib.Omega.{arith}
use native.Mathlib.Decide.{dec_lt}
use borrow.Author.Tests.{lt-ltb, le-ltb}
use lib.ListN.{length, get_or, drop, replicate, length-append, length-drop, length-replicate, get_or-append}
use lib.Seq.{drop-append_seam}
use Rattle.std.specs.Prelude.{Result, Ok, Err}
use Rattle.sets.specs.Table.{rules_at}
use Rattle.meaning.specs.Rules.{Rules}
use Rattle.meaning.specs.Tables.{Five}
use Rattle.meaning.proofs.Looks.{row_first}
use Rattle.book.specs.Limits.{most_rules, most_bytes}
use Rattle.format.specs.Format.{Meaning, meaning_of}
use Rattle.format.proofs.Sizes.{lawful}
use Rattle.reader.proofs.Numbers.{numbered}
use Rattle.lent.specs.Lent.{lent}
use Rattle.promised.specs.Promise.{Answers, builds, refuses as refuses-build}
use Rattle.walk.specs.Walk.{written}
use Rattle.lent.proofs.HasRows.{rows-lent, no_rows, few-lent}
use Rattle.listed.proofs.Whole.{built}
use Rattle.lines.specs.declared.BadLine.{BadLine}
use Rattle.answers.specs.declared.Damaged.{Damaged}
use Rattle.answers.specs.declared.TallyRefusal.{TallyRefusal}
use Rattle.answers.specs.declared.TallyRefusal.TheVariants as refusal
use Rattle.lines.specs.Lines.{Pass, lines_of, check_of}
use Rattle.answers.specs.Tallied.{number_of, value_of}
use Rattle.tally.specs.Tally.{lines_pass, sums_of, move_by, judged, walked, buffer_of}
use Rattle.lines.specs.Profile.{AllSound}
use Rattle.summed.specs.Totals.{TallyCall, tally_answer, sums_after, TallyAnswers, Ready, reports_in, total_where, TallyRefusals, TallyRefuses, SumsWithin, occurs_in, OverProfile, Summed, Sums, Tells, Tallies}
use Rattle.tally.proofs.Walks.{sums_length}
use Rattle.tally.proofs.Answers.{tallied}
use Rattle.summed.proofs.Occurring.{occurrences}
use Rattle.summed.proofs.Walked.{frame_reports}
use Rattle.summed.proofs.Lost.{none_lost, first_lost}
use Rattle.summed.proofs.Totals.{sum_is, total-le, lines-through, sum_occurs}
use Rattle.lines.proofs.First.{checked, broken_at}

-- ---- over any tables

-- each refusal has a number of its own, and none is 0
numbered_why : (e : TallyRefusal) → number_of (Err e) ≢ 0
numbered_why refusal.TooLong z = omega arith
numbered_why (refusal.BadRows rows) z = omega arith
numbered_why (refusal.FewSums places) z = omega arith
numbered_why (refusal.BadLine at) z = omega arith
numbered_why (refusal.Damaged at) z = omega arith

untouched : (a : Result Unit TallyRefusal) (sums old : List ℕ) → number_of a ≢ 0 → buffer_of a sums old ≡ old
untouched (Ok u) sums old ne = absurd (ne refl)
untouched (Err e) sums old ne = refl

later : (a : Result Unit TallyRefusal) (sums old : List ℕ) → length sums ≡ most_rules → drop most_rules (buffer_of a sums old) ≡ drop most_rules old
unfolding written
later (Ok u) sums old e = ap (λ n. drop n (sums ++ drop (length sums) old)) (sym e) ∙ drop-append_seam sums (drop (length sums) old) ∙ ap (λ n. drop n old) e
later (Err why) sums old e = refl

long : (a : Result Unit TallyRefusal) (sums old : List ℕ) → length sums ≡ most_rules → (number_of a ≡ 0 → most_rules ≤ length old) → length (buffer_of a sums old) ≡ length old
unfolding written
long (Ok u) sums old e h = simp (length-append, length-drop) (omega (arith, h refl))
long (Err why) sums old e h = refl

accepted : (a : Result Unit TallyRefusal) (sums old : List ℕ) (k : ℕ) → number_of a ≡ 0 → k < length sums → get_or (buffer_of a sums old) k 0 ≡ get_or sums k 0
unfolding written
accepted (Ok u) sums old k e l = get_or-append sums (drop (length sums) old) 0 k l
accepted (Err why) sums old k e l = absurd (numbered_why why e)

module _ (w : TallyCall) where
  abbrev found : List ℕ
  found = sums_of (move_by w.tables w.n) (rules_at w.tables.out) w.profile

  found_length : length found ≡ most_rules
  found_length = sums_length (move_by w.tables w.n) (rules_at w.tables.out) w.profile (replicate most_rules 0) ∙ length-replicate {A = ℕ} most_rules 0

  answers : {a : Result Unit TallyRefusal} → tally_answer w ≡ a → TallyAnswers w (number_of a) (value_of a)
  answers e = record { number_is = rw e; value_is = rw e }

  -- ---- before the lines

  too_long : most_bytes < length w.profile → TallyAnswers w 11 most_bytes
  too_long l = answers {a = Err refusal.TooLong} (rw (lt-ltb most_bytes (length w.profile) l))

  bad_rows : length w.profile ≤ most_bytes → (w.n ≡ 0) ⊎ (lent w.tables < w.n) → TallyAnswers w 12 w.n
  bad_rows short (inl q) = answers {a = Err (refusal.BadRows w.n)} (rw (le-ltb most_bytes (length w.profile) short, no_rows w.tables w.n q))
  bad_rows short (inr l) =
      let ne : w.n ≢ 0 = omega arith in
      answers {a = Err (refusal.BadRows w.n)} (rw (le-ltb most_bytes (length w.profile) short, few-lent w.tables w.n ne l))

  few_sums : length w.profile ≤ most_bytes → w.n ≢ 0 → w.n ≤ lent w.tables → length w.sums < most_rules → TallyAnswers w 16 (length w.sums)
  few_sums short ne lends l =
      answers {a = Err (refusal.FewSums (length w.sums))} (rw (le-ltb most_bytes (length w.profile) short, rows-lent w.tables w.n ne lends, lt-ltb (length w.sums) most_rules l))

  -- it is refused before its lines, or gets to them
  data Start : Type 0 where
    refused : number_of (tally_answer w) ≢ 0 → number_of (tally_answer w) ≢ 13 → Start
    ready : Ready w → Start

  refused_with : {number value : ℕ} → TallyAnswers w number value → number ≢ 0 → number ≢ 13 → Start
  refused_with x a b = refused (rw x.number_is a) (rw x.number_is b)

  start-rows : length w.profile ≤ most_bytes → w.n ≢ 0 → w.n ≤ lent w.tables → Start
  start-rows short ne lends =
      elim (dec_lt (length w.sums) most_rules) [
        | yes l ↦ refused_with (few_sums short ne lends l) (λ z. omega arith) (λ z. omega arith)
        | no j ↦ ready (record { short = short; some = ne; lends = lends; places = omega arith })
      ]

  start : Start
  start =
      elim (dec_lt most_bytes (length w.profile)) [
        | yes l ↦ refused_with (too_long l) (λ z. omega arith) (λ z. omega arith)
        | no g ↦
            let short : length w.profile ≤ most_bytes = omega arith in
            elim (dec_lt 0 w.n) [
              | no h ↦ refused_with (bad_rows short (inl (omega arith))) (λ z. omega arith) (λ z. omega arith)
              | yes p ↦
                  elim (dec_lt (lent w.tables) w.n) [
                    | yes l ↦ refused_with (bad_rows short (inr l)) (λ z. omega arith) (λ z. omega arith)
                    | no h ↦ start-rows short (omega arith) (omega arith)
                  ]
            ]
      ]

  -- ---- by the passes

  answer_is : Ready w → {q : Pass BadLine} → check_of w.profile ≡ q → tally_answer w ≡ judged q (walked (lines_pass (move_by w.tables w.n) w.profile) (Ok tt))
  answer_is x e = sym (tallied w.tables w.n w.profile (length w.sums) x.short (rows-lent w.tables w.n x.some x.lends) x.places refl e)

  -- where the lines are sound and the walks' pass is q
  walks_answer : Ready w → AllSound (lines_of w.profile) → {q : Pass Damaged} → lines_pass (move_by w.tables w.n) w.profile ≡ q
      → TallyAnswers w (number_of (walked q (Ok tt))) (value_of (walked q (Ok tt)))
  walks_answer x s {q} e = answers {a = walked q (Ok tt)} (answer_is x (checked w.profile s) ∙ ap (λ p. walked p (Ok tt)) e)

  -- the sums of an accepted call
  sums_are : TallyAnswers w 0 0 → (k : ℕ) → k < most_rules → get_or (sums_after w) k 0 ≡ get_or found k 0
  sums_are a k l = accepted (tally_answer w) found w.sums k a.number_is (omega (arith, found_length))

  sums-told : Start → TallyAnswers w 0 0 → (k : ℕ) → k < most_rules → get_or (sums_after w) k 0 ≡ total_where (reports_in w.tables w.n k) w.profile
  sums-told (refused ne _) a k l = absurd (ne a.number_is)
  sums-told (ready x) a k l =
      sums_are a k l ∙ sum_is (move_by w.tables w.n) (rules_at w.tables.out) k l w.profile
      ∙ ap (λ (test : List ℕ → Bool). total_where test w.profile) (fun_ext (λ frame. sym (frame_reports w.tables w.n x.lends x.some frame k l)))

  roomy : Start → number_of (tally_answer w) ≡ 0 → most_rules ≤ length w.sums
  roomy (refused ne _) z = absurd (ne z)
  roomy (ready x) z = x.places

  refusals : TallyRefusals w
  refusals = record {
    too_long = too_long;
    bad_rows = bad_rows;
    few_sums = few_sums;
    bad_line = λ x i b. answers (answer_is x (broken_at w.profile i b));
    damaged = λ x s i j c f. walks_answer x s (first_lost w x i j c f);
    accepted = λ x s h. walks_answer x s (none_lost w x h);
    sums = sums-told start;
    untouched = untouched (tally_answer w) found w.sums;
    later = later (tally_answer w) found w.sums found_length;
    long = long (tally_answer w) found w.sums found_length (roomy start);
  }

pub refuses : TallyRefuses
refuses w = refusals w

pub sums-within : SumsWithin
sums-within w a k l = rw ((refuses w).sums a k l) (total-le (reports_in w.tables w.n k) w.profile)

-- ---- over the tables of rules

no_damage : (q : Pass BadLine) → number_of (judged q (walked (Ok tt) (Ok tt))) ≢ 13
no_damage (Ok u) = λ z. omega arith
no_damage (Err e) = λ z. omega arith

module _ {r : Rules} {w : TallyCall} (over : OverProfile r w) where
  walks_through : w.n ≤ lent w.tables → lines_pass (move_by w.tables w.n) w.profile ≡ Ok tt
  walks_through lends = lines-through over.tables lends w.profile over.bytes

  undamaged : Start w → number_of (tally_answer w) ≢ 13
  undamaged (refused _ ne) = ne
  undamaged (ready x) = rw (answer_is w x refl, walks_through x.lends) (no_damage (check_of w.profile))

  sum_of : Start w → TallyAnswers w 0 0 → (k : ℕ) → k < most_rules → get_or (sums_after w) k 0 ≡ total_where (occurs_in r k) w.profile
  sum_of (refused ne _) a k l = absurd (ne a.number_is)
  sum_of (ready x) a k l = sums_are w a k l ∙ sum_occurs over.tables x.lends k l w.profile over.bytes

  some : w.n ≢ 0
  some = omega (arith, (row_first over.tables).below, over.tables.count)

  summed : Summed r w
  summed = record {
    undamaged = undamaged (start w);
    accepts = λ short lends places s. walks_answer w (record { short = short; some = some; lends = lends; places = places }) s (walks_through lends);
    sums = sum_of (start w);
    occurrences = λ k text. occurrences r over.few k text;
  }

pub sums : Sums
sums r w over = summed over

-- ---- from a book's bytes

pub tallies : Tallies
tallies bytes byte old b x p z profile sums t = go refl p z
  where
    go : {m : Meaning} {c : Five} {i v : ℕ} → meaning_of bytes ≡ m → Answers old m c i v → i ≡ 0 → Tells bytes c v profile sums
    go e (builds {a} y) z =
        let (tables, lends) = built y z in
        record {
          content = a;
          meant = e;
          lends = lends;
          summed = summed (record { tables = tables; few = (lawful bytes byte a e).sound.few_rules; bytes = t });
        }
    go e (refuses-build {why}) z = absurd (omega (arith, ((numbered bytes).refusal why e).some))
