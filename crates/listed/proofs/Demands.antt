-- Demands 2 and 3 of the paper: what a walk over the tables of rules finds, in words of the rules and the text alone. Assumes nothing.
use Rattle.std.specs.Prelude.{Result, Ok, Err}
use mathlib.Core.List.{List, [], ◌∷◌, reverse}
use mathlib.Core.Logic.{◌⊎◌, inl, inr, ◌≢◌}
use mathlib.Core.Path.{◌≡◌, refl, sym, ap, ◌∙◌}
use Prim.Native.Nat.{ℕ, ◌/◌, ◌≤◌, ◌<◌}
use native.Mathlib.Omega.{arith}
use Rattle.std.proofs.lemmas.Grind.{common_steps}
use native.Mathlib.Decide.{dec_lt}
use lib.ListN.{length, get_or, length-reverse}
use borrow.Author.Tests.{lt-ltb, le-ltb}
use Rattle.meaning.specs.Rules.{Rules}
use Rattle.meaning.specs.Standing.{held}
use Rattle.meaning.specs.Falls.{falls, falls_in}
use Rattle.meaning.specs.Tables.{no_entry}
use Rattle.meaning.specs.Occurrences.{Occurs}
use Rattle.meaning.proofs.Falls.{falls_in-le}
use Rattle.meaning.proofs.Looks.{row_held, row_first, row_out}
use Rattle.book.specs.Limits.{most_rules, most_bytes}
use Rattle.lent.specs.Lent.{lent}
use Rattle.walk.specs.declared.Run.{Run as RunMade}
use Rattle.answers.specs.declared.Walked.{Walked}
use Rattle.answers.specs.declared.Damaged.{Damaged}
use Rattle.answers.specs.declared.WalkRefusal.{WalkRefusal}
use Rattle.answers.specs.declared.WalkRefusal.TheVariants.{TooLong, BadRows, NoRoom}
use Rattle.answers.specs.Walked.{number_of}
use Rattle.one_byte.specs.Move.{Lent, reached}
use Rattle.walk.specs.Walk.{read, run_of, reports_of, answer_of, written, buffer_of}
use Rattle.listed.specs.Demands.{WalkCall, walk_answer, reports_after, WalkAnswers, WalkRefusals, WalkRefuses, Moves, OverTables, Demand2, Demand3, Matches}
use Rattle.lent.proofs.HasRows.{rows-lent, no_rows, few-lent}
use Rattle.one_byte.proofs.Laws.{move-lent}
use Rattle.walk.proofs.Laws.{counted, walked}
use Rattle.meaning.proofs.Lists.{lists_append}
use Rattle.meaning.proofs.Occurrences.{occurrences, All, all-occurrences}
use Rattle.listed.proofs.Longest.{held-longest}
use Rattle.listed.proofs.Moves.{one_a_byte}
use Rattle.listed.proofs.Follow.{at_below, move, Followed, follow}

-- ---- over any tables

-- an accepted walk's answer
abbrev accepting : ℕ → ℕ → ℕ → Result Walked WalkRefusal
accepting k f h = Ok (record { reports = k; falls = f; held = h })

-- the ways of an answer
untouched : (a : Result Walked WalkRefusal) (reports old : List ℕ) → number_of a ≢ 0 → buffer_of a reports old ≡ old
untouched (Ok w) reports old ne = absurd (ne refl)
untouched (Err e) reports old ne = refl

no_start : (held : List ℕ) (room : ℕ) (q : Result RunMade Damaged) → (number_of (answer_of held room q) ≢ 11) × (number_of (answer_of held room q) ≢ 12)
no_start held room (Ok r) = grind (arith, common_steps)
no_start held room (Err d) = (λ z. omega arith, λ z. omega arith)

module _ (w : WalkCall) where
  none_lent : length w.text ≤ most_bytes → (w.n ≡ 0) ⊎ (lent w.tables < w.n) → walk_answer w ≡ Err (BadRows w.n)
  none_lent short (inl q) = rw (le-ltb most_bytes (length w.text) short, no_rows w.tables w.n q)
  none_lent short (inr l) =
      let ne : w.n ≢ 0 = omega arith in
      rw (le-ltb most_bytes (length w.text) short, few-lent w.tables w.n ne l)

  refusals : WalkRefusals w
  refusals = record {
    too_long = λ l. let e : walk_answer w ≡ Err TooLong = rw (lt-ltb most_bytes (length w.text) l) in record { number_is = rw e; values_are = rw e };
    bad_rows = λ short h. let e = none_lent short h in record { number_is = rw e; values_are = rw e };
    run = λ short ne lends.
        rw (← walked w.tables w.n w.text (length w.reports) short (rows-lent w.tables w.n ne lends) refl refl) (no_start w.tables.held (length w.reports / 2) (run_of w.tables.goto w.tables.fall w.tables.out w.n w.text));
    untouched = untouched (walk_answer w) (reports_of w.tables.goto w.tables.fall w.tables.out w.n w.text) w.reports;
  }

pub refuses : WalkRefuses
refuses w = refusals w

-- ---- one byte's move

pub moves : Moves
moves r b n tables lends t i c x byte =
    let few : n ≤ no_entry = omega arith in
    let enough : Lent b.goto b.fall n = record { few = omega arith; entries = omega arith; falls = omega arith } in
    let (e, m, y) = move tables few c x byte in
    (e, ◌∙◌ {c = reached e (falls r t c)} (move-lent b.goto b.fall n i c enough (at_below tables few x)) m, row_out tables {e = e} y, y)

-- ---- the run

-- the occurrences that a call is about, and the fallbacks and the held length of its text
abbrev pub found : {r : Rules} {w : WalkCall} → OverTables r w → All (Occurs r w.text) (occurrences most_rules r w.text)
found {r} {w} over = all-occurrences r over.few w.text

abbrev fallbacks : Rules → WalkCall → ℕ
fallbacks r w = falls_in r (reverse w.text)

abbrev holding : Rules → WalkCall → ℕ
holding r w = held r (reverse w.text)

-- whatever the report buffer is
record Run (r : Rules) (w : WalkCall) (m : ℕ) : Type 0 where
  last : ℕ
  run : run_of w.tables.goto w.tables.fall w.tables.out w.n w.text ≡ read m (fallbacks r w) last
  reports : reports_of w.tables.goto w.tables.fall w.tables.out w.n w.text ≡ occurrences most_rules r w.text
  holds : get_or w.tables.held last 0 ≡ holding r w

over-some : {r : Rules} {w : WalkCall} → OverTables r w → 0 < w.n
over-some over = omega (arith, (row_first over.tables).below, over.tables.count)

over_ne : {r : Rules} {w : WalkCall} → OverTables r w → w.n ≢ 0
over_ne over = omega (arith, over-some over)

runs : {r : Rules} {w : WalkCall} (over : OverTables r w) → w.n ≤ no_entry → Run r w (found over).m
unfolding falls_in
runs {r} {w} over rows = go (follow over.tables rows w.text over.bytes 0 (row_first over.tables))
  where
    go : Followed over.tables rows 0 [] 0 w.text → Run r w (found over).m
    go x =
        let (made, e) = x.run 0 in
        let (_, long) = counted w.tables.goto w.tables.fall w.tables.out w.n w.text (over-some over) refl e in
        let q : made ≡ (found over).m = omega (arith, ap length x.reports, (found over).long) in
        record { last = x.last; run = e ∙ rw q; reports = x.reports; holds = row_held over.tables x.row }

-- ---- the four ways of a walk

data Way (r : Rules) (w : WalkCall) (m : ℕ) : Type 0 where
  too_long : most_bytes < length w.text → walk_answer w ≡ Err TooLong → Way r w m
  bad_rows : lent w.tables < w.n → walk_answer w ≡ Err (BadRows w.n) → Way r w m
  no_room : Run r w m → length w.reports / 2 < m → walk_answer w ≡ Err (NoRoom m) → Way r w m
  accepted : Run r w m → m ≤ length w.reports / 2 → walk_answer w ≡ accepting m (fallbacks r w) (holding r w) → Way r w m

module _ {r : Rules} {w : WalkCall} (over : OverTables r w) where
  abbrev m : ℕ
  m = (found over).m

  ran : length w.text ≤ most_bytes → w.n ≤ lent w.tables → Run r w m → Way r w m
  ran short lends x =
      let room = length w.reports / 2 in
      let a = walked w.tables w.n w.text (length w.reports) short (rows-lent w.tables w.n (over_ne over) lends) refl x.run in
      elim (dec_lt room m) [
        | yes l ↦ no_room x l (sym a ∙ rw (lt-ltb room m l))
        | no g ↦ let l : m ≤ room = omega arith in accepted x l (sym a ∙ rw (le-ltb room m l, x.holds))
      ]

  way : Way r w m
  way =
      elim (dec_lt most_bytes (length w.text)) [
        | yes l ↦ too_long l (rw (lt-ltb most_bytes (length w.text) l))
        | no g ↦
            let short : length w.text ≤ most_bytes = omega arith in
            elim (dec_lt (lent w.tables) w.n) [
              | yes l ↦ bad_rows l (none_lent w short (inr l))
              | no h ↦ ran short (omega arith) (runs over (omega arith))
            ]
      ]

  -- accepted, it went the last of these ways
  when : {k falls h : ℕ} → WalkAnswers w 0 (k ∷ falls ∷ h ∷ [])
      → Run r w m × (walk_answer w ≡ accepting m (fallbacks r w) (holding r w)) × (k ≡ m) × (falls ≡ fallbacks r w) × (h ≡ holding r w)
  when a =
      elim way [
        | too_long _ e ↦ absurd (omega (arith, rw e at a.number_is))
        | bad_rows _ e ↦ absurd (omega (arith, rw e at a.number_is))
        | no_room _ _ e ↦ absurd (omega (arith, rw e at a.number_is))
        | accepted x _ e ↦ let v = rw e at a.values_are in (x, e, (cc), (cc), (cc))
      ]

  -- ---- demand 2

  undamaged : number_of (walk_answer w) ≡ 13 → ⊥
  undamaged z =
      elim way [
        | too_long _ e ↦ omega (arith, rw e at z)
        | bad_rows _ e ↦ omega (arith, rw e at z)
        | no_room _ _ e ↦ omega (arith, rw e at z)
        | accepted _ _ e ↦ omega (arith, rw e at z)
      ]

  -- the answer and the buffer by the room
  pub roomy : length w.text ≤ most_bytes → w.n ≤ lent w.tables → m ≤ length w.reports / 2
      → (walk_answer w ≡ accepting m (fallbacks r w) (holding r w)) × (reports_after w ≡ written (occurrences most_rules r w.text) w.reports)
  roomy short lends l =
      elim way [
        | too_long g _ ↦ absurd (omega arith)
        | bad_rows g _ ↦ absurd (omega arith)
        | no_room _ g _ ↦ absurd (omega arith)
        | accepted x _ e ↦ (e, rw (e, x.reports))
      ]

  pub crowded : length w.text ≤ most_bytes → w.n ≤ lent w.tables → length w.reports / 2 < m → (walk_answer w ≡ Err (NoRoom m)) × (reports_after w ≡ w.reports)
  crowded short lends l =
      elim way [
        | too_long g _ ↦ absurd (omega arith)
        | bad_rows g _ ↦ absurd (omega arith)
        | no_room _ _ e ↦ (e, rw e)
        | accepted _ g _ ↦ absurd (omega arith)
      ]

  demand2 : Demand2 r w
  unfolding written
  demand2 = record {
    undamaged = undamaged;
    finds = λ k falls h a. let (x, e, z, _, _) = when a in rw (e, x.reports, z) (lists_append _ (omega (arith, (found over).long)) (found over).lists);
    list = occurrences most_rules r w.text;
    m = m;
    occurrences = (found over).lists;
    room = λ short lends l. let e = (roomy short lends l).0 in record { number_is = rw e; values_are = rw e };
    no_room = λ short lends l. let e = (crowded short lends l).0 in record { number_is = rw e; values_are = rw e };
  }

  -- ---- demand 3

  demand3 : (k falls h : ℕ) → WalkAnswers w 0 (k ∷ falls ∷ h ∷ []) → Demand3 r w falls h
  demand3 k falls h a =
      let (x, _, _, p, q) = when a in
      let l = falls_in-le r (reverse w.text) in
      let n = length-reverse w.text in
      let f = one_a_byte w.tables.goto w.tables.fall w.tables.out w.n w.text 0 0 0 0 x.run in
      record { fallbacks = p; holds = q; longest = rw q (held-longest r w.text); bound = omega arith; one_a_byte = f; moves = omega arith }

pub matches : Matches
matches r w over = record { demand2 = demand2 over; demand3 = demand3 over }
