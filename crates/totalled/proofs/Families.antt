-- The families of leaves over the tables of rules, and over the buffers that a build of a book left. Assumes nothing.
use mathlib.Core.Bool.{Bool, true, false, cond, and-eq-true_iff, true≢false}
use mathlib.Core.List.{List, [], ◌∷◌, reverse, reverse_aux}
use mathlib.Core.Logic.{◌≢◌}
use mathlib.Core.Path.{◌≡◌, refl, sym, ◌∙◌}
use Prim.Native.Nat.{ℕ, suc, ◌+◌, ◌≤◌, ◌<◌}
use native.Mathlib.Omega.{arith}
use native.Mathlib.Decide.{dec_lt}
use lib.Dec.{eqb}
use lib.ListN.{length}
use borrow.Author.Tests.{eqb-true, eqb-false}
use Rattle.rows.specs.Rows.{ByteText, IsRow}
use Rattle.rows.proofs.Compare.{less, equal, more, order}
use Rattle.sets.specs.Sets.{has}
use Rattle.meaning.specs.Rules.{Rules, count}
use Rattle.meaning.specs.Standing.{Same, held, live, out}
use Rattle.meaning.specs.Tables.{Five, columns, Tables}
use Rattle.meaning.specs.Occurrences.{FitsWhole}
use Rattle.meaning.proofs.Held.{same_live}
use Rattle.meaning.proofs.Looks.{row_first, row_held, row_out}
use Rattle.book.specs.Limits.{most_rules, most_bytes}
use Rattle.book.specs.Meant.{rules_of}
use Rattle.format.specs.Format.{Meaning, meaning_of}
use Rattle.format.proofs.Sizes.{lawful}
use Rattle.reader.proofs.Numbers.{numbered}
use Rattle.lent.specs.Lent.{lent}
use Rattle.promised.specs.Promise.{Answers, builds, refuses}
use Rattle.lines.specs.Lines.{lines_of}
use Rattle.lines.specs.Profile.{AllSound, counts}
use Rattle.lines.proofs.Bytes.{frame_bytes}
use Rattle.shares.specs.Shares.{limit}
use Rattle.std.specs.Prelude.{Option}
use Rattle.one_byte.specs.declared.Moved.{Moved}
use Rattle.one_byte.specs.Move.{move_of}
use Rattle.listed.proofs.Demands.{moves, matches}
use Rattle.listed.proofs.Whole.{built}
use Rattle.leaf.specs.Leaf.{end_from, end_of, on_end, unnamed, lowest_of, family_at}
use Rattle.leaf.proofs.InBoth.{lowest_first}
use Rattle.leaf_totals.specs.Record.{most_profiles, whole_in}
use Rattle.leaf_totals.specs.Totalled.{number_of}
use Rattle.totalled.specs.Adding.{AddCall, comes_to, AddAnswers, line_at, leaf_in, NoneFails, family_over, Begins, AddRefusals}
use Rattle.totalled.specs.Families.{IsFamily, OneFamily, Families, Named, Names}
use Rattle.totalled.proofs.Adding.{none_damaged, add_refuses}
use Rattle.totalled.proofs.Whole.{both-fits, fits-held, fits-live, fits_out}

pub one_family : OneFamily
one_family r leaf p q x y =
    elim (order p q) [
      | less l ↦ absurd (y.lowest p l (x.fits (omega (arith, y.within))))
      | equal e ↦ e
      | more l ↦ absurd (x.lowest q l (y.fits (omega (arith, x.within))))
    ]

-- there is no rule past the most
pub is_family : {r : Rules} {leaf : List ℕ} {p : ℕ} → count r ≤ most_rules → p ≤ unnamed → (p < unnamed → FitsWhole r leaf p) → ((k : ℕ) → k < p → ¬ FitsWhole r leaf k)
    → IsFamily r leaf p
is_family few l f g = record { within = l; fits = f; lowest = g; none = λ e k x. g k (omega (arith, x.rule)) x }

-- ---- by the standing of the leaf

module _ (r : Rules) (few : count r ≤ most_rules) (leaf : List ℕ) where
  abbrev read : List ℕ
  read = reverse leaf

  -- what a row of the leaf's standing comes to
  abbrev by_standing : ℕ
  by_standing = cond (eqb (held r read) (length leaf)) (lowest_of (live r read) (out r read)) unnamed

  whole-held : held r read ≡ length leaf → IsFamily r leaf (lowest_of (live r read) (out r read))
  whole-held h =
      let x = lowest_first (live r read) (out r read) in
      is_family few x.within (λ l. let (a, b) = (and-eq-true_iff (has (live r read) _) (has (out r read) _)).0 (x.passes l) in both-fits r leaf _ h a b)
      (λ k l f. true≢false (sym ((and-eq-true_iff (has (live r read) k) (has (out r read) k)).1 (fits-live r leaf k f, fits_out r leaf k f)) ∙ x.before k (omega arith) l))

  standing_family : IsFamily r leaf by_standing
  standing_family = go (eqb (held r read) (length leaf)) refl
    where
      go : (t : Bool) → eqb (held r read) (length leaf) ≡ t → IsFamily r leaf (cond t (lowest_of (live r read) (out r read)) unnamed)
      go true e = whole-held (eqb-true (held r read) (length leaf) e)
      go false e = is_family few (omega arith) (λ l. absurd (omega arith)) (λ k l f. eqb-false (held r read) (length leaf) e (fits-held r leaf k f))

-- ---- over the tables of rules

module _ {r : Rules} {b : Five} {n : ℕ} (tables : Tables r b n) (lends : n ≤ lent b) (few : count r ≤ most_rules) where
  abbrev moving : ℕ → ℕ → Option Moved
  moving = move_of b.goto b.fall n

  -- the walk ends in the row of the text read
  from_row : (leaf : List ℕ) → ByteText leaf → (at : ℕ) {t : List ℕ} {i : ℕ} → IsRow (Same r) tables.texts t i
      → (e : ℕ) × ((f g : ℕ → ℕ) → on_end (end_from moving at i leaf) f g ≡ f e) × IsRow (Same r) tables.texts (reverse_aux leaf t) e
  unfolding end_from
  from_row [] bytes at {i = i} x = (i, λ f g. refl, x)
  from_row (c ∷ leaf) bytes at {t} {i} x =
      let (to, m, _, y) = moves r b n tables lends t i c x (bytes 0) in
      let (e, q, z) = from_row leaf (λ j. bytes (suc j)) (at + 1) y in
      (e, rw m q, z)

  end_row : (leaf : List ℕ) → ByteText leaf → (e : ℕ) × ((f g : ℕ → ℕ) → on_end (end_of moving leaf) f g ≡ f e) × IsRow (Same r) tables.texts (reverse leaf) e
  unfolding end_of
  end_row leaf bytes = from_row leaf bytes 0 (row_first tables)

  row_live : {t : List ℕ} {e : ℕ} → IsRow (Same r) tables.texts t e → (columns b).live e ≡ live r t
  row_live x = tables.numbers.live_is _ x.below ∙ sym (same_live x.same)

  family_is : (leaf : List ℕ) → ByteText leaf → family_over b n leaf ≡ by_standing r few leaf
  unfolding family_at
  family_is leaf bytes =
      let (e, q, x) = end_row leaf bytes in
      q (λ row. family_at b.held b.live b.out row (length leaf)) (λ at. unnamed) ∙ rw (row_held tables x, row_live x, row_out tables x)

pub families : Families
families r b n tables lends few leaf bytes = rw (family_is tables lends few leaf bytes) (standing_family r few leaf)

-- ---- from a book's bytes

-- a call over the tables of rules, with a profile of bytes
module _ {r : Rules} (w : AddCall) (tables : Tables r w.tables w.n) (lends : w.n ≤ lent w.tables) (few : count r ≤ most_rules) (bytes : ByteText w.profile) where
  pub begins : w.old.profiles < most_profiles → length w.profile ≤ most_bytes → Begins w
  begins room short = record { few = room; short = short; some = omega (arith, (row_first tables).below, tables.count); lends = lends }

  pub none_fails : NoneFails w
  none_fails i l =
      (matches r (record { tables = w.tables; n = w.n; text = leaf_in (line_at w i); reports = [] }) (record { tables = tables; few = few; bytes = frame_bytes w.profile bytes i _ })
      ).demand2.undamaged

  module _ (x : AddRefusals w) where
    accepted : w.old.profiles < most_profiles → length w.profile ≤ most_bytes → AllSound (lines_of w.profile) → whole_in w.old + counts w.profile ≤ limit → AddAnswers w 0 0
    accepted room short sound within = x.accepted (begins room short) sound none_fails within

    other : {number value : ℕ} → AddAnswers w number value → number ≢ 13 → number_of (comes_to w).answer ≢ 13
    other a ne = rw a.number_is ne

    undamaged : number_of (comes_to w).answer ≢ 13
    undamaged =
        elim (dec_lt w.old.profiles most_profiles) [
          | no g ↦ other (x.full (omega arith)) (λ z. omega arith)
          | yes room ↦
              elim (dec_lt most_bytes (length w.profile)) [
                | yes l ↦ other (x.too_long room l) (λ z. omega arith)
                | no g ↦ none_damaged w (begins room (omega arith)) none_fails
              ]
        ]

pub names : Names
names bytes byte old b x p z profile t l = go refl p z
  where
    go : {m : Meaning} {c : Five} {i v : ℕ} → meaning_of bytes ≡ m → Answers old m c i v → i ≡ 0 → Named bytes c v profile l
    go {c = c} {v = v} e (builds {a} y) z =
        let (tables, lends) = built y z in
        let few = (lawful bytes byte a e).sound.few_rules in
        let w : AddCall = record { tables = c; n = v; profile = profile; old = l } in
        record {
          content = a;
          meant = e;
          lends = lends;
          families = families (rules_of a) c v tables lends few;
          undamaged = undamaged w tables lends few t (add_refuses w);
          accepts = accepted w tables lends few t (add_refuses w);
        }
    go e (refuses {why}) z = absurd (omega (arith, ((numbered bytes).refusal why e).some))
